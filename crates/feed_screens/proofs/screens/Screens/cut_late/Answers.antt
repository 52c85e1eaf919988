use Rattle.std.proofs.Common.{arith}
use Rattle.feed_screens.proofs.ServingLemmas.{serving_on, still_sits, late_stays}
use Rattle.feed_screens.proofs.screens.Screens.cut_late.Goals as goal

pub returns-clause-serving : goal.returns-clause-serving
returns-clause-serving c =
    λ nodes contest sockets serving.
    serving_on (λ key. still_sits contest (late_stays nodes _ _ key c.cut_late.ensures.cuts c.cut_late.ensures.broadcast)) (omega (arith, c.cut_late.ensures.next)) serving
