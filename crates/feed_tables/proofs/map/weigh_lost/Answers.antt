use Rattle.std.proofs.Common.{arith}
use Rattle.std.specs.FinMap.{entries}
use Rattle.feed_tables.proofs.PatchSizes.{in_all, in_less}
use Rattle.feed_tables.proofs.map.weigh_lost.Goals as goal

pub returns : goal.returns
returns g c =
    let held = c.args.held.now in
    let gone = c.args.gone.now in
    let items = c.args.items.now in
    let left = in_all _ c.new-none.result c.new-nothing.result held (entries gone) c.weigh_in-left.result c.new-none.ensures c.new-nothing.ensures c.weigh_in-left.ensures in
    let replaced = in_less _ c.new-none.result gone held (entries items) c.weigh_in-replaced.result c.new-none.ensures c.weigh_in-replaced.ensures in
    omega (arith, left, replaced, c.saturating_add.ensures)
