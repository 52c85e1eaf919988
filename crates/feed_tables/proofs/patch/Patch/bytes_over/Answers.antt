use Rattle.std.proofs.Common.{arith}
use Rattle.feed_tables.specs.Map.{map_less}
use Rattle.feed_tables.proofs.Amounts.{bytes_by_changes, bytes_by_all}
use Rattle.feed_tables.proofs.Patching.{over_of}
use Rattle.feed_tables.proofs.patch.Patch.bytes_over.Goals as goal

pub returns-then-below-ge18446744073709551615 : goal.returns-then-below-ge18446744073709551615
returns-then-below-ge18446744073709551615 c =
    let p = c.args.self.now in
    bytes_by_all p.ids p.tables (map_less p.gone c.args.base.now.contents) c.weigh_besides-kept.result c.weigh.result c.saturating_add.result
    (rw (← c.types.ensures) c.weigh_besides-kept.ensures) c.weigh.ensures c.saturating_add.ensures

pub returns : goal.returns
returns c =
    let p = c.args.self.now in
    bytes_by_changes p.ids (over_of c.args.base.now.contents p.gone p.tables) c.bytes_with-below.result c.weigh_in-left.result c.saturating_sub.result c.weigh_in-come.result c.saturating_add-2.result
    c.bytes_with-below.ensures (omega (arith, c.if-below-ge18446744073709551615.false))
    (rw (← c.types-2.ensures) c.weigh_in-left.ensures) (rw (← c.types-3.ensures) c.weigh_in-come.ensures) c.saturating_sub.ensures c.saturating_add-2.ensures
