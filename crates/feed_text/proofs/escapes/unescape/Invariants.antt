use Rattle.std.proofs.Common.{length}
use Rattle.feed_text.proofs.Escaping.{SoFar}
use Rattle.feed_text.proofs.escapes.unescape.Given as goal

abbrev pub invariant-loop-text : goal.invariant-loop-text
invariant-loop-text l = SoFar l.fn.inside l.text.items l.rest

abbrev pub decreases-loop-text : goal.decreases-loop-text
decreases-loop-text l = length l.rest
