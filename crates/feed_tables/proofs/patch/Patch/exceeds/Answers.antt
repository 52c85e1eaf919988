use Rattle.std.proofs.Common.{arith}
use Rattle.feed_tables.proofs.ChangedSizes.{size_within}
use Rattle.feed_tables.proofs.patch.Patch.exceeds.Goals as goal

pub returns-then-saturating_add-most : goal.returns-then-saturating_add-most
returns-then-saturating_add-most c =
    let p = c.args.self.now in
    size_within p.ids c.args.base.now.contents p.tables p.gone _ _ _ _ _ c.args.most c.size.ensures c.weigh.ensures c.count_sets.ensures c.saturating_add-come.ensures c.saturating_add.ensures (omega (arith, c.if-saturating_add-most.true))
