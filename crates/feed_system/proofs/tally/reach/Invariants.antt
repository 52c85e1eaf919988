use Rattle.std.proofs.Common.{◌≡◌, ◌-◌, ◌+◌, ℕ, length}
use Rattle.feed_system.specs.declared.tally.Owner.{Owner}
use Rattle.feed_system.specs.Tally.{holders, owner_at}
use Rattle.feed_system.proofs.tally.reach.Given as goal

abbrev pub invariant-loop-owners : goal.invariant-loop-owners
invariant-loop-owners l =
    ((other : ℕ) → owner_at l.owners.items other ≡ owner_at l.initial.owners.items other)
    × ((owner : Owner) → holders owner l.owners.items ≡ holders owner l.initial.owners.items)

abbrev pub decreases-loop-owners : goal.decreases-loop-owners
decreases-loop-owners l = l.at + 1 - length l.owners.items
