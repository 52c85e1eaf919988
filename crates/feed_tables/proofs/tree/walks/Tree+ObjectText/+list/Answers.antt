use Rattle.std.proofs.Common.{[], ◌∷◌}
use Rattle.std.proofs.lemmas.Result.{on_ok_weaker, on_err_weaker}
use Rattle.feed_changes.specs.Changes.{sets}
use Rattle.feed_changes.specs.declared.change.Change.TheVariants.{Set}
use Rattle.feed_tables.proofs.Listers.{on_any_err, takes_one, fails_one, took_whole, failed_first, failed_here, failed_rest, parts_are, sets_at}
use Rattle.feed_tables.proofs.Within.{objects_at}
use Rattle.feed_tables.proofs.tree.walks.Tree+ObjectText.+list.Goals as goal

pub returns-in_err-list-in-Fork-clause-fails : goal.returns-in_err-list-in-Fork-clause-fails
returns-in_err-list-in-Fork-clause-fails g t c =
    let takes = g.L.Lister.takes in
    let fails = g.L.Lister.fails in
    let kind = c.args.kind.now in
    let fork = c.deref.result.now in
    let same = c.deref.ensures in
    let whole = sets_at kind _ _ _ _ _ (parts_are c.self.view_is c.in-Fork.is fork fork fork fork same same same same) in
    on_any_err c.from_residual.result _
    (failed_first takes fails (sets kind fork.left) (Set kind fork.id fork.item ∷ []) (sets kind fork.right) _ whole
    c.args.lister.now c.list.new.lister c.in_err-list-in-Fork.ensures.fails)

pub returns-in_err-set-in-Fork-clause-fails : goal.returns-in_err-set-in-Fork-clause-fails
returns-in_err-set-in-Fork-clause-fails g t c =
    let takes = g.L.Lister.takes in
    let fails = g.L.Lister.fails in
    let kind = c.args.kind.now in
    let first = c.deref.result.now in
    let id = c.deref-in-Fork-3.result.now in
    let item = c.deref-in-Fork-4.result.now in
    let whole = sets_at kind _ _ _ _ _ (parts_are c.self.view_is c.in-Fork.is first id item item
    c.deref.ensures c.deref-in-Fork-3.ensures c.deref-in-Fork-4.ensures c.deref-in-Fork-4.ensures) in
    on_any_err c.from_residual-in_err-set-in-Fork.result _
    (failed_here takes fails (sets kind first.left) (Set kind id.id item.item ∷ []) (sets kind item.right) _ whole
    c.args.lister.now c.list.new.lister c.set.new.self c.in_ok-list-in-Fork.ensures.list
    (fails_one takes fails _ _ _ c.in_err-set-in-Fork.ensures.fails))

pub returns-in_ok-set-in-Fork-clause-list : goal.returns-in_ok-set-in-Fork-clause-list
returns-in_ok-set-in-Fork-clause-list g t c =
    let takes = g.L.Lister.takes in
    let fails = g.L.Lister.fails in
    let kind = c.args.kind.now in
    let first = c.deref.result.now in
    let id = c.deref-in-Fork-3.result.now in
    let item = c.deref-in-Fork-4.result.now in
    let last = c.deref-in-Fork-5.result.now in
    let whole = sets_at kind _ _ _ _ _ (parts_are c.self.view_is c.in-Fork.is first id item last
    c.deref.ensures c.deref-in-Fork-3.ensures c.deref-in-Fork-4.ensures c.deref-in-Fork-5.ensures) in
    on_ok_weaker c.list-in-Fork.result
    (λ rest. took_whole takes fails (sets kind first.left) (Set kind id.id item.item ∷ []) (sets kind last.right) _ whole
    c.args.lister.now c.list.new.lister c.set.new.self c.list-in-Fork.new.lister
    c.in_ok-list-in-Fork.ensures.list (takes_one takes fails _ _ _ c.in_ok-set-in-Fork.ensures.takes) rest)
    c.list-in-Fork.ensures.list

pub returns-in_ok-set-in-Fork-clause-fails : goal.returns-in_ok-set-in-Fork-clause-fails
returns-in_ok-set-in-Fork-clause-fails g t c =
    let takes = g.L.Lister.takes in
    let fails = g.L.Lister.fails in
    let kind = c.args.kind.now in
    let first = c.deref.result.now in
    let id = c.deref-in-Fork-3.result.now in
    let item = c.deref-in-Fork-4.result.now in
    let last = c.deref-in-Fork-5.result.now in
    let whole = sets_at kind _ _ _ _ _ (parts_are c.self.view_is c.in-Fork.is first id item last
    c.deref.ensures c.deref-in-Fork-3.ensures c.deref-in-Fork-4.ensures c.deref-in-Fork-5.ensures) in
    on_err_weaker c.list-in-Fork.result
    (λ rest. failed_rest takes fails (sets kind first.left) (Set kind id.id item.item ∷ []) (sets kind last.right) _ whole
    c.args.lister.now c.list.new.lister c.set.new.self c.list-in-Fork.new.lister
    c.in_ok-list-in-Fork.ensures.list (takes_one takes fails _ _ _ c.in_ok-set-in-Fork.ensures.takes) rest)
    c.list-in-Fork.ensures.fails

pub returns-in_ok-set-in-Fork-clause-within : goal.returns-in_ok-set-in-Fork-clause-within
returns-in_ok-set-in-Fork-clause-within g t c =
    objects_at c.self.view_is c.in-Fork.is c.deref.result.now c.deref-in-Fork.result.now c.deref-in-Fork-2.result.now c.deref-in-Fork-5.result.now c.deref.ensures c.deref-in-Fork.ensures c.deref-in-Fork-2.ensures c.deref-in-Fork-5.ensures
    c.in_ok-list-in-Fork.ensures.within c.text-id.ensures.name c.bytes-object.ensures.object c.list-in-Fork.result c.list-in-Fork.ensures.within
