use Rattle.std.proofs.Common.{sym, subst}
use Rattle.feed_screens.specs.Serving.{AllEnd}
use Rattle.feed_screens.proofs.ServingLemmas.{serving_noted}
use Rattle.feed_screens.proofs.screens.Screens.relay.Goals as goal

pub returns-clause-serving : goal.returns-clause-serving
returns-clause-serving c =
    λ nodes contest sockets among serving.
    serving_noted c.wait_for_rest.ensures.same (c.say_all.ensures.serving nodes contest sockets among (c.skip_unheard.ensures.serving nodes contest sockets (c.trim.ensures.serving nodes contest sockets serving)))

pub returns-clause-ended : goal.returns-clause-ended
returns-clause-ended c = λ all. subst AllEnd (sym c.wait_for_rest.ensures.same.hub) (c.say_all.ensures.ended (c.skip_unheard.ensures.ended (c.trim.ensures.ended all)))
