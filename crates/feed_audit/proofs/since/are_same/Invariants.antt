-- The changes so far are the same.
use Rattle.std.proofs.Common.{◌≡◌, ◌≤◌, ◌-◌, length, take}
use Rattle.feed_audit.proofs.since.are_same.Given as goal

abbrev pub invariant-changes : goal.invariant-changes
invariant-changes l = (l.i ≤ length l.changes) × (take l.i l.changes ≡ take l.i l.others)

abbrev pub decreases-changes : goal.decreases-changes
decreases-changes l = length l.changes - l.i
