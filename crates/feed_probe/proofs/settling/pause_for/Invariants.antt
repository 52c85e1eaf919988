-- No pause that was passed is enough.
use Rattle.std.proofs.Common.{◌<◌, ℕ}
use Rattle.std.specs.Prelude.{slice_index}
use Rattle.feed_probe.specs.Settling.{IsWrong, pauses}
use Rattle.feed_probe.proofs.settling.pause_for.Given as goal

abbrev pub invariant-loop-pause : goal.invariant-loop-pause
invariant-loop-pause l =
    (other : ℕ) → other < l.pause-index → IsWrong l.times l.totals l.until (slice_index pauses other)
