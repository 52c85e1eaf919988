use Rattle.std.proofs.Common.{refl}
use Rattle.feed_tables.proofs.AtWalk.{kept_gone, kept_among, kept_weight}
use Rattle.feed_tables.proofs.Patching.{asked}
use Rattle.feed_tables.proofs.tree.walks.weight_besides.Goals as goal

pub returns-then-is_some : goal.returns-then-is_some
returns-then-is_some g c =
    let k = c.args.name.now in
    kept_gone _ c.args.gone.now c.args.others.now k c.args.item.now _ (asked c.args.gone.now k k c.get.result _ refl c.get.ensures c.is_some.ensures) c.if-is_some.true

pub returns-then-is_some-2 : goal.returns-then-is_some-2
returns-then-is_some-2 g c =
    let k = c.args.name.now in
    kept_among _ c.args.gone.now c.args.others.now k c.args.item.now _ _ (asked c.args.gone.now k k c.get.result _ refl c.get.ensures c.is_some.ensures) c.if-is_some.false (asked c.args.others.now k k c.get-2.result _ refl c.get-2.ensures c.is_some-2.ensures) c.if-is_some-2.true

pub returns : goal.returns
returns g c =
    let k = c.args.name.now in
    kept_weight _ c.args.gone.now c.args.others.now k c.args.item.now _ _ (asked c.args.gone.now k k c.get.result _ refl c.get.ensures c.is_some.ensures) c.if-is_some.false (asked c.args.others.now k k c.get-2.result _ refl c.get-2.ensures c.is_some-2.ensures) c.if-is_some-2.false _ c.weigh.ensures
