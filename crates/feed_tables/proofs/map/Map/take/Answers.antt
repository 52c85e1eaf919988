use Rattle.std.proofs.Common.{refl}
use Rattle.std.specs.FinMap.{get-from_sorted}
use Rattle.feed_tables.specs.Bytes.{byte_order}
use Rattle.feed_tables.proofs.Maps.{in_order_without, from_sorted_without}
use Rattle.feed_tables.proofs.map.Map.take.Goals as goal

pub invariant_of-self : goal.invariant_of-self
invariant_of-self g c = (
  rw c.take-gone.ensures.left (in_order_without c.self.inside.tree c.self.invariant.0 c.args.id.now),
  c.count_left-self-inside.ensures,
)

pub returns-clause-left : goal.returns-clause-left
returns-clause-left g c = rw (c.take-gone.ensures.left, from_sorted_without c.self.inside.tree c.self.invariant.0 c.args.id.now, c.self.view_is) refl

pub returns-clause-gone : goal.returns-clause-gone
returns-clause-gone g c = rw (← c.self.view_is, get-from_sorted byte_order c.self.inside.tree c.args.id.now c.self.invariant.0) c.take-gone.ensures.gone
