use Rattle.feed_tables.proofs.OverIds.{over_none}
use Rattle.feed_tables.proofs.ids.Ids.new.Goals as goal

pub returns : goal.returns
returns c = λ objects. over_none objects c.new-2.result c.new.result c.new-2.ensures c.new.ensures
