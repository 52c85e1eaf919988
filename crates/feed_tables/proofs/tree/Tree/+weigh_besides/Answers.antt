use Rattle.feed_tables.proofs.AtWalk.{kept_at}
use Rattle.feed_tables.proofs.tree.Tree.+weigh_besides.Goals as goal

pub returns-in-Fork : goal.returns-in-Fork
returns-in-Fork g t c =
    kept_at c.self.view_is c.in-Fork.is _ c.args.gone.now c.args.others.now c.deref.result.now c.deref-in-Fork.result.now c.deref-in-Fork-2.result.now c.deref-in-Fork-3.result.now c.deref.ensures c.deref-in-Fork.ensures c.deref-in-Fork-2.ensures c.deref-in-Fork-3.ensures c.key.result c.key.ensures _ _ _ _ _ c.weight_besides-weight.ensures c.weigh_besides.ensures c.saturating_add.ensures c.weigh_besides-in-Fork.ensures c.saturating_add-in-Fork.ensures
