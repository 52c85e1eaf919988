use Rattle.std.proofs.Common.{◌≡◌, sym, ap, ◌∙◌, arith, List, ℕ}
use Rattle.std.specs.FinMap.{entries, get}
use Rattle.feed_tables.specs.Map.{map_over, map_less}
use Rattle.feed_tables.specs.Walks.{weight, weighed_in}
use Rattle.feed_tables.specs.ChangedIds.{ids_by_type}
use Rattle.feed_tables.proofs.ByType.{Changed, alone, weighed_alone}
use Rattle.feed_tables.proofs.by_type.IdsByType.weigh_in.Goals as goal

pub returns-in-Alone : goal.returns-in-Alone
returns-in-Alone g c =
    let scale = g.S.Scale.weight c.args.scale.now in
    let m = map_over c.args.tables.now (map_less c.args.gone.now c.args.held.now) in
    let held : alone c.in-Alone.kind c.in-Alone.field-1 ≡ c.args.self.now = ap ids_by_type (sym c.in-Alone.is) ∙ c.self.view_is in
    omega (
      arith,
      c.weight_in.ensures,
      ap (λ (q : List ℕ). weight scale q (get m q)) c.key.ensures,
      weighed_alone c.in-Alone.kind c.in-Alone.field-1 scale m,
      ap (λ (n : Changed). weighed_in scale m (entries n)) held,
    )
