use Rattle.std.proofs.Common.{arith, below_more, refl}
use Rattle.feed_probe.proofs.settling.pause_for.Goals as goal

pub loop-pause-preserved : goal.loop-pause-preserved
loop-pause-preserved c = below_more _ _ c.loop-pause.invariant (c.if-is_enough.ensures.no refl)

pub returns : goal.returns
returns c = λ other h. c.loop-pause.invariant other (omega arith)
