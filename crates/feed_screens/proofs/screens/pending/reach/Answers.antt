use Rattle.std.proofs.Common.{◌∙◌, ap}
use Rattle.feed_screens.specs.Pending.{takers, owed_text_at}
use Rattle.feed_screens.proofs.PendingLemmas.{takers_pushed, text_at_pushed}
use Rattle.feed_screens.proofs.screens.pending.reach.Goals as goal

pub loop-places-preserved : goal.loop-places-preserved
loop-places-preserved c = (
  λ other. ap (λ places. owed_text_at places other) c.in_ok-push.ensures.items ∙ text_at_pushed c.loop-places.places.items other ∙ c.loop-places.invariant.0 other,
  λ id. ap (takers id) c.in_ok-push.ensures.items ∙ takers_pushed id c.loop-places.places.items ∙ c.loop-places.invariant.1 id,
)
