use Rattle.std.proofs.Common.{◌≡◌, ap, ◌∙◌, List, ℕ}
use Rattle.std.specs.FinMap.{insert}
use Rattle.feed_tables.specs.ChangedIds.{over_ids}
use Rattle.feed_tables.specs.Tables.{Objects, no_objects}
use Rattle.feed_tables.specs.declared.table.Table.{Table}
use Rattle.feed_tables.specs.declared.table.Table.TheVariants.{Many}
use Rattle.feed_tables.proofs.Changing.{begun}
use Rattle.feed_tables.proofs.Patching.{over_of, over_put}
use Rattle.feed_tables.proofs.patch.Patch.begin.Goals as goal

pub returns-clause-ok : goal.returns-clause-ok
returns-clause-ok c =
    let p = c.args.self.now in
    let base = c.args.base.now.contents in
    let k = c.args.kind.now in
    let first = c.args.node.value in
    let table = c.in_ok-table.table.value in
    let put : c.insert-2.new.self ≡ insert p.tables k (Many no_objects) =
    c.insert-2.ensures
    ∙ ap (λ (q : List ℕ). insert p.tables q table.item) c.in_ok-table.ensures.0
    ∙ ap (λ (t : Table). insert p.tables k t) c.in_ok-table.ensures.1
    ∙ ap (λ (m : Objects). insert p.tables k (Many m)) c.new.ensures in
    let made : over_ids no_objects c.set.new.self ≡ insert no_objects first.id first.item =
    c.set.ensures no_objects ∙ ap (λ (m : Objects). insert m first.id first.item) (c.new-ids.ensures no_objects) in
    begun p.ids (over_of base p.gone p.tables) k c.insert.new.self (over_of base p.gone c.insert-2.new.self) c.set.new.self first.id first.item
    c.requires c.in_ok-insert.ensures.ok (over_put base p.gone p.tables c.insert-2.new.self k (Many no_objects) put) made
