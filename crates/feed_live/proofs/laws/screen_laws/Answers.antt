use Rattle.feed_live.proofs.ScreenLemmas.{sockets_are_faithful}
use Rattle.feed_screens.proofs.OwedLemmas.{owes_what_is_kept}
use Rattle.feed_live.proofs.laws.screen_laws.Goals as goal

pub returns-clause-sockets : goal.returns-clause-sockets
returns-clause-sockets c = sockets_are_faithful

pub returns-clause-handed : goal.returns-clause-handed
returns-clause-handed c =
    λ limits log nodes contest came handed begun was is_log in_log asked.
    let given = was.given in
    c.hub_laws.ensures.live_follows limits log nodes given.node given.head contest given.framing was.answer begun was.common was.lines was.told handed was.screen
    is_log in_log (in_log given.node given.among) asked given.answers was.served

pub returns-clause-owed : goal.returns-clause-owed
returns-clause-owed c = owes_what_is_kept
