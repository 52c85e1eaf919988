use Rattle.std.proofs.Common.{arith}
use Rattle.feed_tables.proofs.MapsOver.{exchanged, in_order_swapped}
use Rattle.feed_tables.proofs.Swapping.{same_length}
use Rattle.feed_tables.proofs.map.Map.swap.Goals as goal

pub invariant_of-self : goal.invariant_of-self
invariant_of-self g c =
    let same = same_length c.args.id.now c.self.inside.tree c.swap.new.self c.args.item.now c.swap.new.item c.swap.result c.self.invariant.0 c.swap.ensures.swapped in (
      in_order_swapped c.args.id.now c.self.inside.tree c.swap.new.self c.args.item.now c.swap.new.item c.swap.result c.self.invariant.0 c.swap.ensures.swapped,
      omega (arith, same, c.self.invariant.1),
    )

pub returns : goal.returns
returns g c = exchanged c.args.id.now c.self.inside.tree c.swap.new.self c.args.item.now c.swap.new.item c.swap.result c.args.self.now c.self.invariant.0 c.self.view_is c.swap.ensures.swapped
