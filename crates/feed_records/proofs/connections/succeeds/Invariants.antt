-- What is so behind is so of all of it.
use Rattle.std.proofs.Common.{◌≡◌, length}
use Rattle.feed_records.specs.Connections.{is_success}
use Rattle.feed_records.proofs.connections.succeeds.Given as goal

abbrev pub invariant-bytes : goal.invariant-bytes
invariant-bytes l = is_success l.fn.status ≡ is_success l.rest

abbrev pub decreases-bytes : goal.decreases-bytes
decreases-bytes l = length l.rest
