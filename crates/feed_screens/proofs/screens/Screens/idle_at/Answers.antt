use Rattle.feed_screens.proofs.ServingLemmas.{serving_changed, still_sits, idled_stays}
use Rattle.feed_screens.proofs.screens.Screens.idle_at.Goals as goal

pub returns-in-Some-key-clause-serving : goal.returns-in-Some-key-clause-serving
returns-in-Some-key-clause-serving c =
    λ nodes contest sockets serving.
    serving_changed c.in-Some-key.key c.idle.ensures.rest (still_sits contest (idled_stays nodes _ _ _ _ _ c.idle.result c.idle.ensures.ok (c.idle.ensures.served nodes) c.idle.ensures.err)) serving
