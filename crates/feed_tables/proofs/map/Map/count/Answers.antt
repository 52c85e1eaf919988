use Rattle.feed_tables.proofs.Maps.{len-from_sorted}
use Rattle.feed_tables.proofs.map.Map.count.Goals as goal

pub returns : goal.returns
returns g c = rw (← c.self.view_is, len-from_sorted c.self.inside.tree c.self.invariant.0) c.self.invariant.1
