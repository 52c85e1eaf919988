use Rattle.std.proofs.Common.{length}
use Rattle.feed_text.proofs.FourNames.{ReadSoFar}
use Rattle.feed_text.proofs.named.named_members.Given as goal

abbrev pub invariant-loop-after : goal.invariant-loop-after
invariant-loop-after l = ReadSoFar l.levels l.fn.text l.rest l.found

abbrev pub decreases-loop-after : goal.decreases-loop-after
decreases-loop-after l = length l.rest
