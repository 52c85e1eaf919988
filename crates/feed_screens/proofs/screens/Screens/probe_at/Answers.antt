use Rattle.feed_screens.proofs.ServingLemmas.{serving_changed, still_sits, idled_stays}
use Rattle.feed_screens.proofs.screens.Screens.probe_at.Goals as goal

pub returns-in-Some-key-clause-serving : goal.returns-in-Some-key-clause-serving
returns-in-Some-key-clause-serving c =
    λ nodes contest sockets serving.
    serving_changed c.in-Some-key.key c.probe.ensures.rest (still_sits contest (idled_stays nodes _ _ _ _ _ c.probe.result c.probe.ensures.ok (c.probe.ensures.served nodes) c.probe.ensures.err)) serving
