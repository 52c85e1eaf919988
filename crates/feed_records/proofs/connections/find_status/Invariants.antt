-- What is found behind is what is found in all of it.
use Rattle.std.proofs.Common.{◌≡◌, length}
use Rattle.feed_records.specs.Connections.{status_in}
use Rattle.feed_records.proofs.connections.find_status.Given as goal

abbrev pub invariant-bytes : goal.invariant-bytes
invariant-bytes l = status_in l.fn.line ≡ status_in l.rest

abbrev pub decreases-bytes : goal.decreases-bytes
decreases-bytes l = length l.rest
