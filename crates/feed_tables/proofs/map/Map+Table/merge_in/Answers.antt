use Rattle.std.proofs.Common.{arith}
use Rattle.feed_tables.proofs.Merging.{merges_in, in_order_merged, as_many_merged}
use Rattle.feed_tables.proofs.map.Map+Table.merge_in.Goals as goal

pub invariant_of-self : goal.invariant_of-self
invariant_of-self c =
    let same = as_many_merged c.args.kind.now c.args.ids.now c.self.inside.tree c.merge_in.new.self c.self.invariant.0 c.merge_in.new.merged c.merge_in.result c.merge_in.ensures.merged in (
      in_order_merged c.args.kind.now c.args.ids.now c.self.inside.tree c.merge_in.new.self c.self.invariant.0 c.merge_in.new.merged c.merge_in.result c.merge_in.ensures.merged,
      omega (arith, same, c.self.invariant.1),
    )

pub returns : goal.returns
returns c =
    record { merged = merges_in c.args.kind.now c.args.ids.now c.self.inside.tree c.merge_in.new.self c.self.invariant.0 c.args.self.now c.merge_in.new.merged c.merge_in.result c.self.view_is c.merge_in.ensures.merged }
