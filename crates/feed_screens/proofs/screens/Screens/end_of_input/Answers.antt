use Rattle.feed_screens.proofs.ServingLemmas.{serving_noted}
use Rattle.feed_screens.proofs.screens.Screens.end_of_input.Goals as goal

pub returns-in-Some-Asks-clause-serving : goal.returns-in-Some-Asks-clause-serving
returns-in-Some-Asks-clause-serving g c =
    λ nodes contest serving. c.end.ensures.serving nodes contest (serving_noted c.has_ended.ensures.same serving)

pub returns-in-Some-Lingers-clause-serving : goal.returns-in-Some-Lingers-clause-serving
returns-in-Some-Lingers-clause-serving g c =
    λ nodes contest serving. c.end-in-Some-Lingers.ensures.serving nodes contest (serving_noted c.has_ended.ensures.same serving)

pub returns-in_default-clause-serving : goal.returns-in_default-clause-serving
returns-in_default-clause-serving g c =
    λ nodes contest serving. c.probe_at.ensures.serving nodes contest _ (serving_noted c.has_ended.ensures.same serving)

pub returns-then-wants_answer-clause-serving : goal.returns-then-wants_answer-clause-serving
returns-then-wants_answer-clause-serving g c = λ nodes contest serving. serving_noted c.has_ended.ensures.same serving
