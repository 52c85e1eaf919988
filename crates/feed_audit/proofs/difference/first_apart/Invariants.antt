-- The changes so far are the same.
use Rattle.std.proofs.Common.{◌≡◌, ◌≤◌, ◌-◌, length, take}
use Rattle.feed_audit.proofs.difference.first_apart.Given as goal

abbrev pub invariant-changes : goal.invariant-changes
invariant-changes l = record {
  within : l.i ≤ length l.ours;
  within_theirs : l.i ≤ length l.theirs;
  same : take l.i l.ours ≡ take l.i l.theirs;
}

abbrev pub decreases-changes : goal.decreases-changes
decreases-changes l = length l.ours - l.i
