use Rattle.std.specs.FinMap.{entries-from_sorted}
use Rattle.feed_tables.specs.Bytes.{byte_order}
use Rattle.feed_tables.specs.Walks.{besides}
use Rattle.feed_tables.proofs.PatchSizes.{less_is, in_order_besides}
use Rattle.feed_tables.proofs.map.Map.weigh_besides.Goals as goal

pub returns : goal.returns
returns g c =
    let gone = c.args.gone.now in
    let others = c.args.others.now in
    let es = c.self.inside.tree in
    let h = c.self.invariant.0 in
    let left = in_order_besides gone es h in
    rw (← c.self.view_is, less_is gone es h, less_is others (besides gone es) left, entries-from_sorted byte_order (besides others (besides gone es)) (in_order_besides others (besides gone es) left)) c.weigh_besides.ensures
