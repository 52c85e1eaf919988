use Rattle.std.proofs.Common.{sym, ap, ◌∙◌}
use Rattle.feed_tables.specs.ChangedIds.{ids_by_type}
use Rattle.feed_tables.specs.declared.by_type.IdsByType.TheInside.{Inside}
use Rattle.feed_tables.proofs.ByType.{same_name, other_name, set_here, set_nowhere, set_same}
use Rattle.feed_tables.proofs.by_type.IdsByType.set_in.Goals.{in-Alone+in-Equal, in-Alone+in-Less, in-Several}
use Rattle.feed_tables.proofs.by_type.IdsByType.set_in.Goals as goal

pub returns : goal.returns
returns c =
    let k = c.args.kind.now in
    let m = c.args.self.now in
    let node = c.args.node.value in
    let n = ids_by_type c.match-self.self-inside.types in
    elim c.match-self.branch [
      | in-Alone+in-Equal w ↦ record {
        set = set_here k w.in-Alone.first node.id node.item w.in-Alone.ids w.set.new.self m n (ap ids_by_type (sym w.in-Alone.is) ∙ c.self.view_is)
            (same_name k w.in-Alone.first (sym w.compare.ensures ∙ w.in-Equal.is))
            (ap (λ (a : Inside). ids_by_type a.types) w.self-inside-is)
            w.set.ensures c.match-self.result w.result-is;
      }
      | in-Alone+in-Less w ↦ record {
        set = set_nowhere k w.in-Alone.first w.in-Alone.ids m n c.args.node (ap ids_by_type (sym w.in-Alone.is) ∙ c.self.view_is)
            (other_name _ _ w.in-Less.is w.compare.ensures)
            (ap (λ (a : Inside). ids_by_type a.types) w.self-inside-is)
            c.match-self.result w.result-is;
      }
      | in-Several w ↦ record {
        set = set_same k node.id node.item w.in-Several.types m w.set_in.new.self n w.set_in.result c.match-self.result
            (ap ids_by_type (sym w.in-Several.is) ∙ c.self.view_is)
            (ap (λ (a : Inside). ids_by_type a.types) w.self-inside-is)
            w.result-is w.set_in.ensures.set;
      }
    ]
