-- What is behind has not been fed yet.
use Rattle.std.proofs.Common.{ℕ, List, Option, length}
use Rattle.feed_settings.specs.Limits.{Limits}
use Rattle.feed_commands.specs.Tables.{FedSoFar}
use Rattle.feed_commands.proofs.commands.tables.feed_by_lines.Given as goal

abbrev pub invariant-lines : goal.invariant-lines
invariant-lines l = (limits : Limits) (least : ℕ) (start now : Option (List ℕ))
    → FedSoFar limits least start now l.fn.piece l.initial.mirror → FedSoFar limits least start now l.rest l.mirror

abbrev pub decreases-lines : goal.decreases-lines
decreases-lines l = length l.rest
