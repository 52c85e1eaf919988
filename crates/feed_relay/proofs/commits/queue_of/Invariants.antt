-- What was taken from the end is in the queue.
use Rattle.std.proofs.Common.{◌≡◌, ◌++◌, length, map}
use Rattle.feed_relay.proofs.commits.queue_of.Given as goal

abbrev pub invariant-rest : goal.invariant-rest
invariant-rest l =
    l.rest.items ++ map (λ batch. batch.items) l.queue.items ≡ l.initial.rest.items

abbrev pub decreases-rest : goal.decreases-rest
decreases-rest l = length l.rest.items
