use Rattle.feed_tables.proofs.AtWalk.{weighed_in_at}
use Rattle.feed_tables.proofs.tree.Tree.+weigh_in.Goals as goal

pub returns-in-Fork : goal.returns-in-Fork
returns-in-Fork g t c =
    weighed_in_at c.self.view_is c.in-Fork.is _ _ c.deref.result.now c.deref-in-Fork.result.now c.deref-in-Fork-2.result.now c.deref.ensures c.deref-in-Fork.ensures c.deref-in-Fork-2.ensures c.key.result c.key.ensures _ _ _ _ _ c.weight_in-weight.ensures c.weigh_in.ensures c.saturating_add.ensures c.weigh_in-in-Fork.ensures c.saturating_add-in-Fork.ensures
