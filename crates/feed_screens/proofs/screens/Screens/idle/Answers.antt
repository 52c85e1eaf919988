use Rattle.feed_screens.proofs.ServingLemmas.{serving_noted, serving_said}
use Rattle.feed_screens.proofs.screens.Screens.idle.Goals as goal

pub returns-clause-serving : goal.returns-clause-serving
returns-clause-serving c =
    λ nodes contest sockets serving.
    serving_noted c.spoke.ensures.same
    (c.loop-at.invariant.serving nodes contest sockets
    (serving_said c.say_idle.ensures.seats (λ key. c.say_idle.ensures.served nodes key) serving))
