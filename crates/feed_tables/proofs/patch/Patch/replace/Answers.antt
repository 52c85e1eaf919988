use Rattle.std.proofs.Common.{ap, ◌∙◌, List, ℕ}
use Rattle.std.specs.FinMap.{insert, remove}
use Rattle.feed_tables.specs.declared.table.Table.{Table}
use Rattle.feed_tables.proofs.Changing.{changed_replaced}
use Rattle.feed_tables.proofs.Patching.{over_of, over_put}
use Rattle.feed_tables.proofs.patch.Patch.replace.Goals as goal

pub returns-clause-ok : goal.returns-clause-ok
returns-clause-ok c =
    let p = c.args.self.now in
    let base = c.args.base.now.contents in
    let k = c.args.kind.now in
    changed_replaced p.ids (over_of base p.gone p.tables) k c.remove.new.self (over_of base p.gone c.insert.new.self) c.args.table
    (c.remove.ensures ∙ ap (λ (q : List ℕ). remove p.ids q) c.key.ensures)
    (over_put base p.gone p.tables c.insert.new.self k c.args.table
    (c.insert.ensures
    ∙ ap (λ (q : List ℕ). insert p.tables q c.in_ok-node.node.value.item) c.in_ok-node.ensures.0
    ∙ ap (λ (t : Table). insert p.tables k t) c.in_ok-node.ensures.1))
