use Rattle.std.proofs.Common.{refl}
use Rattle.feed_screens.proofs.ServingLemmas.{serving_noted, serving_further}
use Rattle.feed_screens.proofs.screens.Screens.take.Goals as goal

pub returns-then-forget-clause-serving : goal.returns-then-forget-clause-serving
returns-then-forget-clause-serving c =
    λ nodes sockets among serves.
    serving_noted c.forget.ensures.same (serving_further _ _ _ c.args.at c.args.piece.now (c.in_default.ensures.none refl) serves)

pub returns-in_default-clause-serving : goal.returns-in_default-clause-serving
returns-in_default-clause-serving c =
    λ nodes sockets among serves.
    serving_noted c.forget.ensures.same (serving_further _ _ _ c.args.at c.args.piece.now (c.in_default.ensures.none refl) serves)

pub returns-clause-serving : goal.returns-clause-serving
returns-clause-serving c =
    λ nodes sockets among serves. c.hear_of.ensures.serving nodes sockets among c.in-Some.ensures.some.0 serves
