-- No arrival that was passed begins more of the same.
use Rattle.std.proofs.Common.{◌≡◌, ◌<◌, ℕ, false}
use Rattle.feed_probe.specs.Settling.{is_burst}
use Rattle.feed_probe.proofs.settling.burst_after.Given as goal

abbrev pub invariant-loop-number : goal.invariant-loop-number
invariant-loop-number l =
    (other : ℕ) → other < l.number → is_burst l.times l.totals l.shown other ≡ false
