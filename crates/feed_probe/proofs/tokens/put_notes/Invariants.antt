-- What is left gets shorter.
use Rattle.std.proofs.Common.{length}
use Rattle.feed_probe.proofs.tokens.put_notes.Given as goal

abbrev pub decreases-lines : goal.decreases-lines
decreases-lines l = length l.rest
