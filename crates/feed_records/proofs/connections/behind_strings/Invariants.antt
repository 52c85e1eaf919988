use Rattle.std.proofs.Common.{◌≤◌, length}
use Rattle.feed_records.proofs.connections.behind_strings.Given as goal

abbrev pub invariant-bytes : goal.invariant-bytes
invariant-bytes l = l.from ≤ length l.line

abbrev pub decreases-bytes : goal.decreases-bytes
decreases-bytes l = l.from
