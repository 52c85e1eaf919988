use Rattle.std.specs.FinMap.{entries-from_sorted}
use Rattle.feed_tables.specs.Bytes.{byte_order}
use Rattle.feed_tables.proofs.map.Map+ObjectText.list.Goals as goal

pub returns-clause-list : goal.returns-clause-list
returns-clause-list g c = rw (← c.self.view_is, entries-from_sorted byte_order c.self.inside.tree c.self.invariant.0) c.list.ensures.list

pub returns-clause-fails : goal.returns-clause-fails
returns-clause-fails g c = rw (← c.self.view_is, entries-from_sorted byte_order c.self.inside.tree c.self.invariant.0) c.list.ensures.fails

pub returns-clause-within : goal.returns-clause-within
returns-clause-within g c = rw (← c.self.view_is, entries-from_sorted byte_order c.self.inside.tree c.self.invariant.0) c.list.ensures.within
