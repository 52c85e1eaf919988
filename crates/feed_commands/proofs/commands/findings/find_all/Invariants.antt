-- The lines that were read, and what was found on them.
use Rattle.std.proofs.Common.{length}
use Rattle.feed_commands.proofs.FindingsLemmas.{FedSoFar}
use Rattle.feed_commands.proofs.commands.findings.find_all.Given as goal

abbrev pub invariant-lines : goal.invariant-lines
invariant-lines l = FedSoFar l.fn.bytes l.rest l.reader

abbrev pub decreases-lines : goal.decreases-lines
decreases-lines l = length l.rest
