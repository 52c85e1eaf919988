-- What was fed and what is left are the connection.
use Rattle.std.proofs.Common.{length}
use Rattle.feed_node.specs.Mirroring.{present_opening}
use Rattle.keep_a_mirror.proofs.Coming.{HasCome}
use Rattle.keep_a_mirror.proofs.follow.follow.Given as goal

abbrev pub invariant-loop-rest : goal.invariant-loop-rest
invariant-loop-rest l = HasCome l.fn.mirror.limits (present_opening l.fn.mirror) l.connection l.rest l.mirror

abbrev pub decreases-loop-rest : goal.decreases-loop-rest
decreases-loop-rest l = length l.rest
