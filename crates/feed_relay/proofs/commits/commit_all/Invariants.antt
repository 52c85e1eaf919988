-- What was taken from the start was accepted.
use Rattle.std.proofs.Common.{length}
use Rattle.feed_relay.proofs.CommitLemmas.{HasTaken}
use Rattle.feed_relay.proofs.commits.commit_all.Given as goal

abbrev pub invariant-batches : goal.invariant-batches
invariant-batches l = HasTaken l.initial.primary l.initial.input.items l.primary l.input.items

abbrev pub decreases-batches : goal.decreases-batches
decreases-batches l = length l.input.items
