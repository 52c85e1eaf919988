use Rattle.std.proofs.Common.{◌≡◌}
use Rattle.std.specs.FinMap.{len}
use Rattle.feed_tables.specs.ChangedIds.{with_all_ids}
use Rattle.feed_tables.proofs.by_type.change_all.Given as goal

abbrev pub invariant-types : goal.invariant-types
invariant-types l = with_all_ids l.types l.tables.contents ≡ with_all_ids l.initial.types l.initial.tables.contents

abbrev pub decreases-types : goal.decreases-types
decreases-types l = len l.types
