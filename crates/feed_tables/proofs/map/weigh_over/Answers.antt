use Rattle.std.proofs.Common.{refl, arith}
use Rattle.feed_tables.specs.Map.{map_less}
use Rattle.feed_tables.proofs.PatchSizes.{weighed_less, weighed_moved, weighed_kept}
use Rattle.feed_tables.proofs.map.weigh_over.Goals as goal

pub returns-then-total-ge18446744073709551615 : goal.returns-then-total-ge18446744073709551615
returns-then-total-ge18446744073709551615 g c =
    weighed_kept _ (map_less c.args.gone.now c.args.held.now) c.args.items.now _ _ _ c.weigh_besides.ensures c.weigh-come.ensures c.saturating_add.ensures

pub returns : goal.returns
returns g c =
    let held = c.args.held.now in
    let gone = c.args.gone.now in
    weighed_moved _ held (map_less gone held) c.args.items.now c.args.total _ _ _ _ _ _ (weighed_less _ gone held) refl c.requires (omega (arith, c.if-total-ge18446744073709551615.false)) c.weigh_lost-lost.ensures c.weigh-come.ensures c.saturating_sub.ensures c.saturating_add-2.ensures
