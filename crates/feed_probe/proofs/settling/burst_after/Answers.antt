use Rattle.std.proofs.Common.{below_more, sym}
use Rattle.feed_probe.proofs.settling.burst_after.Goals as goal

pub loop-number-preserved : goal.loop-number-preserved
loop-number-preserved c =
    below_more _ _ c.loop-number.invariant (sym c.if-begins_burst.ensures)
