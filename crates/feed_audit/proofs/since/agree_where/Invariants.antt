-- What holds of the changes behind holds of all.
use Rattle.std.proofs.Common.{length}
use Rattle.std.specs.List.{AllByRecursion}
use Rattle.feed_tables.specs.Touched.{AgreeAt}
use Rattle.feed_audit.proofs.since.agree_where.Given as goal

abbrev pub invariant-changes : goal.invariant-changes
invariant-changes l =
    AllByRecursion (AgreeAt l.tables.contents l.others.contents) l.rest
    → AllByRecursion (AgreeAt l.tables.contents l.others.contents) l.changes

abbrev pub decreases-changes : goal.decreases-changes
decreases-changes l = length l.rest
