use Rattle.std.specs.FinMap.{entries-from_sorted}
use Rattle.feed_tables.specs.Bytes.{byte_order}
use Rattle.feed_tables.proofs.map.Map.weigh_in.Goals as goal

pub returns : goal.returns
returns g c = rw (← c.self.view_is, entries-from_sorted byte_order c.self.inside.tree c.self.invariant.0) c.weigh_in.ensures
