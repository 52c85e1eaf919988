use Rattle.std.proofs.Common.{◌≡◌, ap, ◌∙◌, List, ℕ, arith, sym}
use Rattle.std.specs.FinMap.{insert, empty, empty_of_len}
use Rattle.feed_tables.specs.ChangedIds.{ids_by_type}
use Rattle.feed_tables.proofs.ByType.{Changed, empty_map}
use Rattle.feed_tables.proofs.by_type.IdsByType.insert.Goals.{in-Alone-2, in-Several-2}
use Rattle.feed_tables.proofs.by_type.IdsByType.insert.Goals as goal

pub returns-in_ok-copy-in-Several-clause-ok : goal.returns-in_ok-copy-in-Several-clause-ok
returns-in_ok-copy-in-Several-clause-ok c =
    let held : c.in-Several.types ≡ c.args.self.now = ap ids_by_type (sym c.in-Several.is) ∙ c.self.view_is in
    let none : c.args.self.now ≡ empty = sym held ∙ empty_of_len c.in-Several.types (omega (arith, c.count.ensures, c.if-count-eq0.true)) in
    let made = elim c.match-self-3.branch as (λ w. c.match-self-3.self ≡ insert empty_map c.in_ok-copy-in-Several.field-0 c.args.ids) [
      | in-Alone-2 w ↦ w.self-is
      | in-Several-2 w ↦ w.self-is
    ] in
    made
    ∙ ap (λ (q : List ℕ). insert empty_map q c.args.ids) c.in_ok-copy-in-Several.ensures
    ∙ ap (λ (m : Changed). insert m c.args.kind.now c.args.ids) (sym none)
