use Rattle.std.proofs.Common.{◌≡◌, Equal, sym, ap, ◌∙◌}
use Rattle.std.specs.FinMap.{get}
use Rattle.feed_tables.specs.Bytes.{byte_order}
use Rattle.feed_tables.specs.ChangedIds.{ids_by_type}
use Rattle.feed_tables.proofs.ByType.{Changed, alone, same_name, get_here, get_elsewhere, other_name}
use Rattle.feed_tables.proofs.by_type.IdsByType.get.Goals as goal

pub returns-in-Equal : goal.returns-in-Equal
returns-in-Equal c =
    let k = c.args.kind.now in
    let held : alone c.in-Alone.first c.in-Alone.ids ≡ c.args.self.now = ap ids_by_type (sym c.in-Alone.is) ∙ c.self.view_is in
    sym (get_here c.in-Alone.first c.in-Alone.ids k (same_name k c.in-Alone.first (sym c.compare.ensures ∙ c.in-Equal.is)))
    ∙ ap (λ (m : Changed). get m k) held

pub returns-in-Less : goal.returns-in-Less
returns-in-Less c =
    let k = c.args.kind.now in
    let held : alone c.in-Alone.first c.in-Alone.ids ≡ c.args.self.now = ap ids_by_type (sym c.in-Alone.is) ∙ c.self.view_is in
    let other : byte_order k c.in-Alone.first ≡ Equal → ⊥ = other_name _ _ c.in-Less.is c.compare.ensures in
    sym (get_elsewhere c.in-Alone.first c.in-Alone.ids k other)
    ∙ ap (λ (m : Changed). get m k) held
