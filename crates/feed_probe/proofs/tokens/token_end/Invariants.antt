-- What is left gets shorter.
use Rattle.std.proofs.Common.{◌≤◌, length}
use Rattle.feed_probe.proofs.tokens.token_end.Given as goal

abbrev pub invariant-lines : goal.invariant-lines
invariant-lines l = length l.rest ≤ length l.fn.text

abbrev pub decreases-lines : goal.decreases-lines
decreases-lines l = length l.rest
