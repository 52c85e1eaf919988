use Rattle.feed_screens.proofs.ServingLemmas.{serving_noted}
use Rattle.feed_screens.proofs.screens.Screens.accept_next.Goals as goal

pub returns-in-Err-Failed-clause-serving : goal.returns-in-Err-Failed-clause-serving
returns-in-Err-Failed-clause-serving g c =
    λ nodes contest serving.
    serving_noted c.stick.ensures.same (c.accept_one.ensures.serving nodes contest (c.make_place.ensures.serving nodes contest serving))
