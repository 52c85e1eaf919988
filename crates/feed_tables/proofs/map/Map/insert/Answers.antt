use Rattle.std.proofs.Common.{arith}
use Rattle.feed_tables.proofs.Maps.{in_order_put, made_there}
use Rattle.feed_tables.proofs.map.Map.insert.Goals as goal

pub invariant_of-self : goal.invariant_of-self
invariant_of-self g c = (
  rw c.insert-added.ensures.put (in_order_put c.self.inside.tree c.self.invariant.0 c.args.node.value.id c.args.node.value.item),
  omega (arith, c.self.invariant.1, c.insert-added.ensures.added, c.saturating_add-self-inside.ensures),
)

pub returns : goal.returns
returns g c =
    made_there _ _ c.self.invariant.0 c.args.node.value.id c.args.node.value.item _ c.self.view_is c.insert-added.ensures.put
