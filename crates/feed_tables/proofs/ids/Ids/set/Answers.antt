use Rattle.feed_tables.proofs.OverIds.{over_set}
use Rattle.feed_tables.proofs.ids.Ids.set.Goals as goal

pub returns : goal.returns
returns c = λ objects. over_set objects c.args.self.now.sets c.insert.new.self c.args.self.now.gone c.args.node.value.id c.args.node.value.item c.insert.ensures
