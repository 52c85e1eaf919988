use Rattle.feed_tables.specs.Walks.{besides}
use Rattle.feed_tables.proofs.Maps.{len-from_sorted}
use Rattle.feed_tables.proofs.PatchSizes.{less_is, in_order_besides}
use Rattle.feed_tables.proofs.map.Map.count_besides.Goals as goal

pub returns : goal.returns
returns g c =
    let names = c.args.others.now in
    let es = c.self.inside.tree in
    let h = c.self.invariant.0 in
    rw (← c.self.view_is, less_is names es h, len-from_sorted (besides names es) (in_order_besides names es h)) c.count_besides.ensures
