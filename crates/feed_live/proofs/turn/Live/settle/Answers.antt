use Rattle.feed_live.proofs.turn.Live.settle.Goals as goal

pub returns-clause-relaying : goal.returns-clause-relaying
returns-clause-relaying g c = λ sockets limits log servers is. (is.0, c.settle_due.ensures.follows limits log servers _ sockets is.1)

pub returns-clause-times : goal.returns-clause-times
returns-clause-times g c = c.settle_due.ensures.heeds

pub returns-clause-leaves : goal.returns-clause-leaves
returns-clause-leaves g c = c.settle_due.ensures.leaves
