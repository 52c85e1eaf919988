use Rattle.std.proofs.Common.{◌≡◌, None, sym, ap, ◌∙◌, List, ℕ}
use Rattle.std.specs.FinMap.{get, insert, remove}
use Rattle.feed_tables.proofs.Changing.{changed_removed}
use Rattle.feed_tables.proofs.Patching.{over_of, over_gone, over_unheld, none_copied}
use Rattle.feed_tables.proofs.patch.Patch.clear.Goals as goal

pub returns-then-is_none-clause-ok : goal.returns-then-is_none-clause-ok
returns-then-is_none-clause-ok c =
    let p = c.args.self.now in
    let base = c.args.base.now.contents in
    let k = c.args.kind.now in
    let none : get base k ≡ None = ap (λ (q : List ℕ). get base q) (sym c.key.ensures) ∙ sym c.table.ensures ∙ none_copied c.table.result c.if-is_none.ensures in
    changed_removed p.ids (over_of base p.gone p.tables) k (over_of base p.gone c.remove.new.self)
    (over_unheld base p.gone p.tables c.remove.new.self k none (c.remove.ensures ∙ ap (λ (q : List ℕ). remove p.tables q) c.key-then-is_none.ensures))

pub returns-clause-ok : goal.returns-clause-ok
returns-clause-ok c =
    let p = c.args.self.now in
    let base = c.args.base.now.contents in
    let k = c.args.kind.now in
    changed_removed p.ids (over_of base p.gone p.tables) k (over_of base c.insert.new.self c.remove-2.new.self)
    (over_gone base p.gone p.tables c.remove-2.new.self c.insert.new.self k c.in_ok-node.node.value.item
    (c.remove-2.ensures ∙ ap (λ (q : List ℕ). remove p.tables q) c.key-2.ensures)
    (c.insert.ensures ∙ ap (λ (q : List ℕ). insert p.gone q c.in_ok-node.node.value.item) c.in_ok-node.ensures.0))
