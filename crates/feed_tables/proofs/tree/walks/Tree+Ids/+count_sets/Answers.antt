use Rattle.feed_tables.proofs.ChangedSizes.{sets_at}
use Rattle.feed_tables.proofs.tree.walks.Tree+Ids.+count_sets.Goals as goal

pub returns-in-Fork : goal.returns-in-Fork
returns-in-Fork t c =
    sets_at c.self.view_is c.in-Fork.is c.deref.result.now c.deref-in-Fork.result.now c.deref-in-Fork-2.result.now c.deref.ensures c.deref-in-Fork.ensures c.deref-in-Fork-2.ensures _ _ _ _ _ c.count_sets.ensures c.count_sets-in-Fork.ensures c.saturating_add.ensures c.count_sets-in-Fork-2.ensures c.saturating_add-in-Fork.ensures
