use Rattle.std.proofs.Common.{◌≡◌, ◌-◌, ◌+◌, ℕ, length}
use Rattle.feed_screens.specs.declared.screens.pending.TextId.{TextId}
use Rattle.feed_screens.specs.Pending.{takers, owed_text_at}
use Rattle.feed_screens.proofs.screens.pending.reach.Given as goal

abbrev pub invariant-loop-places : goal.invariant-loop-places
invariant-loop-places l =
    ((other : ℕ) → owed_text_at l.places.items other ≡ owed_text_at l.initial.places.items other)
    × ((id : TextId) → takers id l.places.items ≡ takers id l.initial.places.items)

abbrev pub decreases-loop-places : goal.decreases-loop-places
decreases-loop-places l = l.at + 1 - length l.places.items
