use Rattle.std.proofs.Common.{◌∙◌, ap}
use Rattle.feed_system.specs.Tally.{holders, owner_at}
use Rattle.feed_system.proofs.TallyLemmas.{holders_pushed, owner_at_pushed}
use Rattle.feed_system.proofs.tally.reach.Goals as goal

pub loop-owners-preserved : goal.loop-owners-preserved
loop-owners-preserved c =
    let was = c.loop-owners.owners.items in
    let kept = c.loop-owners.invariant in
    let pushed = c.in_ok-push.ensures.items in (
      λ at. ap (λ os. owner_at os at) pushed ∙ owner_at_pushed was at ∙ kept.0 at,
      λ owner. ap (holders owner) pushed ∙ holders_pushed owner was ∙ kept.1 owner,
    )
