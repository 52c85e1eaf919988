-- No pause that was passed is longer.
use Rattle.std.proofs.Common.{◌+◌, ◌-◌, ◌<◌, ◌≤◌, ℕ}
use Rattle.std.specs.Prelude.{slice_index}
use Rattle.feed_probe.proofs.settling.longest_pause.Given as goal

abbrev pub invariant-loop-number : goal.invariant-loop-number
invariant-loop-number l =
    (other : ℕ) → other + 1 < l.number
    → slice_index l.times (other + 1) - slice_index l.times other ≤ l.longest
