use Rattle.std.proofs.Common.{[]}
use Rattle.feed_screens.proofs.ServingLemmas.{but_nothing}
use Rattle.feed_screens.proofs.screens.Screens.refuse_waiting.Goals as goal

pub returns-then-is_overdue-clause-serving : goal.returns-then-is_overdue-clause-serving
returns-then-is_overdue-clause-serving g c =
    λ nodes contest serving. c.refuse_at.ensures.serving nodes contest [] (but_nothing c.args.at serving)
