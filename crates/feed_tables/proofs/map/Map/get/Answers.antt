use Rattle.std.specs.FinMap.{get-from_sorted}
use Rattle.feed_tables.specs.Bytes.{byte_order}
use Rattle.feed_tables.proofs.map.Map.get.Goals as goal

pub returns : goal.returns
returns g c = rw (← c.self.view_is, get-from_sorted byte_order c.self.inside.tree c.args.id.now c.self.invariant.0) c.get.ensures
