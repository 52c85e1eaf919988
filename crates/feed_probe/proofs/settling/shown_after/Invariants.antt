-- No arrival that was passed is a calm one.
use Rattle.std.proofs.Common.{◌≡◌, ◌<◌, ℕ, false}
use Rattle.feed_probe.specs.Settling.{is_calm}
use Rattle.feed_probe.proofs.settling.shown_after.Given as goal

abbrev pub invariant-loop-number : goal.invariant-loop-number
invariant-loop-number l =
    (other : ℕ) → other < l.number → is_calm l.times l.totals l.until l.pause other ≡ false
