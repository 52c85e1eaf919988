use Rattle.std.proofs.Common.{◌≡◌, None, sym, ap, ◌∙◌, List, ℕ}
use Rattle.std.specs.FinMap.{get, insert, remove}
use Rattle.feed_tables.proofs.OverIds.{over_taken, over_unheld}
use Rattle.feed_tables.proofs.Patching.{none_copied}
use Rattle.feed_tables.proofs.ids.Ids.take.Goals as goal

pub returns-then-is_none-clause-ok : goal.returns-then-is_none-clause-ok
returns-then-is_none-clause-ok c =
    let i = c.args.self.now in
    let m = c.args.objects.now in
    let none : get m c.args.id.now ≡ None = ap (λ (q : List ℕ). get m q) (sym c.key.ensures) ∙ sym c.get.ensures ∙ none_copied c.get.result c.if-is_none.ensures in
    over_unheld m i.sets c.remove.new.self i.gone c.args.id.now none (c.remove.ensures ∙ ap (λ (q : List ℕ). remove i.sets q) c.key-then-is_none.ensures)

pub returns-clause-ok : goal.returns-clause-ok
returns-clause-ok c =
    let i = c.args.self.now in
    over_taken c.args.objects.now i.sets c.remove-2.new.self i.gone c.insert.new.self c.args.id.now c.in_ok-node.node.value.item
    (c.remove-2.ensures ∙ ap (λ (q : List ℕ). remove i.sets q) c.key-2.ensures)
    (c.insert.ensures ∙ ap (λ (q : List ℕ). insert i.gone q c.in_ok-node.node.value.item) c.in_ok-node.ensures.0)
