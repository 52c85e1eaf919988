use Rattle.std.proofs.Common.{◌∙◌}
use Rattle.feed_tables.proofs.Changing.{changed_nothing}
use Rattle.feed_tables.proofs.Patching.{over_of, over_nothing}
use Rattle.feed_tables.proofs.patch.Patch.new.Goals as goal

pub returns : goal.returns
returns c = λ base.
    changed_nothing c.new-3.result (over_of base c.new.result c.new-2.result) c.new-3.ensures
    ∙ over_nothing base c.new.result c.new-2.result c.new.ensures c.new-2.ensures
