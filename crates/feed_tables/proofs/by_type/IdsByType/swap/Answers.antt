use Rattle.std.proofs.Common.{sym, ap, ◌∙◌}
use Rattle.feed_tables.specs.ChangedIds.{ids_by_type}
use Rattle.feed_tables.specs.declared.by_type.IdsByType.TheInside.{Inside}
use Rattle.feed_tables.proofs.ByType.{alone, same_name, other_name, swapped_here, swapped_nowhere, swapped_same}
use Rattle.feed_tables.proofs.by_type.IdsByType.swap.Goals.{in-Alone+in-Equal, in-Alone+in-Less, in-Several}
use Rattle.feed_tables.proofs.by_type.IdsByType.swap.Goals as goal

pub returns : goal.returns
returns c =
    let k = c.args.kind.now in
    let m = c.args.self.now in
    let n = ids_by_type c.match-self.self-inside.types in
    elim c.match-self.branch [
      | in-Alone+in-Equal w ↦
          let first = w.in-Alone.first in
          swapped_here k first k k w.in-Alone.held c.args.ids.now m n (ap ids_by_type (sym w.in-Alone.is) ∙ c.self.view_is)
          (same_name k first (sym w.compare.ensures ∙ w.in-Equal.is))
          (ap (λ (a : Inside). ids_by_type a.types) w.self-inside-is ∙ ap (alone first) w.swap.ensures.x_after)
          c.match-self.ids c.match-self.result (w.ids-is ∙ w.swap.ensures.y_after) w.result-is
      | in-Alone+in-Less w ↦
          let first = w.in-Alone.first in
          swapped_nowhere k first k k w.in-Alone.held c.args.ids.now m n (ap ids_by_type (sym w.in-Alone.is) ∙ c.self.view_is)
          (other_name _ _ w.in-Less.is w.compare.ensures)
          (ap (λ (a : Inside). ids_by_type a.types) w.self-inside-is)
          c.match-self.ids c.match-self.result w.ids-is w.result-is
      | in-Several w ↦
          swapped_same k w.in-Several.types m w.swap-in-Several.new.self n c.args.ids.now w.swap-in-Several.new.item c.match-self.ids w.swap-in-Several.result c.match-self.result
          (ap ids_by_type (sym w.in-Several.is) ∙ c.self.view_is)
          (ap (λ (a : Inside). ids_by_type a.types) w.self-inside-is)
          w.ids-is w.result-is w.swap-in-Several.ensures
    ]
