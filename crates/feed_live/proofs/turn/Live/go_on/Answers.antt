use Rattle.feed_live.proofs.turn.Live.go_on.Goals as goal

pub returns-then-is_none-clause-relaying : goal.returns-then-is_none-clause-relaying
returns-then-is_none-clause-relaying g c = λ sockets limits log servers is. (is.0, c.go_on.ensures.follows limits log servers _ sockets is.1)

pub returns-then-is_none-clause-times : goal.returns-then-is_none-clause-times
returns-then-is_none-clause-times g c = c.go_on.ensures.heeds

pub returns-then-is_none-clause-leaves : goal.returns-then-is_none-clause-leaves
returns-then-is_none-clause-leaves g c = c.go_on.ensures.leaves

pub returns-then-is_none-clause-more : goal.returns-then-is_none-clause-more
returns-then-is_none-clause-more g c = λ marks. c.go_on.ensures.more
