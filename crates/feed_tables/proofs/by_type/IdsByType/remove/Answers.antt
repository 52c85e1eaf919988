use Rattle.std.proofs.Common.{◌≡◌, Equal, sym, ap, ◌∙◌}
use Rattle.std.specs.FinMap.{remove}
use Rattle.feed_tables.specs.Bytes.{byte_order}
use Rattle.feed_tables.specs.ChangedIds.{ids_by_type}
use Rattle.feed_tables.proofs.ByType.{Changed, alone, same_name, remove_here, remove_elsewhere}
use Rattle.feed_tables.proofs.by_type.IdsByType.remove.Goals.{in-Alone-1, in-Several-1}
use Rattle.feed_tables.proofs.by_type.IdsByType.remove.Goals as goal

pub returns-in-Equal : goal.returns-in-Equal
returns-in-Equal c =
    let k = c.args.kind.now in
    let held : alone c.in-Alone.first c.in-Alone.field-1 ≡ c.args.self.now = ap ids_by_type (sym c.in-Alone.is) ∙ c.self.view_is in
    let gone = elim c.match-self-new.branch as (λ w. c.match-self-new.self ≡ c.new.result) [
      | in-Alone-1 w ↦ w.self-is ∙ c.new-in-Equal.view_is
      | in-Several-1 w ↦ w.self-is ∙ c.new-in-Equal.view_is
    ] in
    gone ∙ c.new.ensures
    ∙ sym (remove_here c.in-Alone.first c.in-Alone.field-1 k (same_name k c.in-Alone.first (sym c.compare.ensures ∙ c.in-Equal.is)))
    ∙ ap (λ (m : Changed). remove m k) held

pub returns-in_default : goal.returns-in_default
returns-in_default c =
    let k = c.args.kind.now in
    let held : alone c.in-Alone.first c.in-Alone.field-1 ≡ c.args.self.now = ap ids_by_type (sym c.in-Alone.is) ∙ c.self.view_is in
    let other : byte_order k c.in-Alone.first ≡ Equal → ⊥ = λ is. c.in_default.not-Equal (c.compare.ensures ∙ is) in
    sym (remove_elsewhere c.in-Alone.first c.in-Alone.field-1 k other)
    ∙ ap (λ (m : Changed). remove m k) held
