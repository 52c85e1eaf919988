use Rattle.std.proofs.Common.{arith}
use Rattle.feed_tables.proofs.Setting.{sets_in, in_order_set, as_many_set}
use Rattle.feed_tables.proofs.map.Map+Ids.set_in.Goals as goal

pub invariant_of-self : goal.invariant_of-self
invariant_of-self c =
    let node = c.args.node.value in
    let same = as_many_set c.args.kind.now node.id node.item c.self.inside.tree c.set_in.new.self c.self.invariant.0 c.set_in.result c.set_in.ensures.set in (
      in_order_set c.args.kind.now node.id node.item c.self.inside.tree c.set_in.new.self c.self.invariant.0 c.set_in.result c.set_in.ensures.set,
      omega (arith, same, c.self.invariant.1),
    )

pub returns : goal.returns
returns c =
    let node = c.args.node.value in
    record { set = sets_in c.args.kind.now node.id node.item c.self.inside.tree c.set_in.new.self c.self.invariant.0 c.args.self.now c.set_in.result c.self.view_is c.set_in.ensures.set }
