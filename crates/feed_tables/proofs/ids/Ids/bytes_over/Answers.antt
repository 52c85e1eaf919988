use Rattle.feed_tables.specs.Map.{map_less}
use Rattle.feed_tables.proofs.PatchSizes.{weighed_kept}
use Rattle.feed_tables.proofs.ids.Ids.bytes_over.Goals as goal

pub returns : goal.returns
returns c =
    let i = c.args.self.now in
    weighed_kept _ (map_less i.gone c.args.objects.now) i.sets _ _ _ c.weigh_besides-kept.ensures c.weigh.ensures c.saturating_add.ensures
