use Rattle.std.proofs.Common.{flat_map}
use Rattle.std.proofs.lemmas.Result.{on_ok_weaker, on_err_weaker}
use Rattle.feed_tables.specs.Tables.{listed}
use Rattle.feed_tables.proofs.Listers.{on_any_err, took_whole, failed_first, failed_here, failed_rest, parts_are, listed_at}
use Rattle.feed_tables.proofs.tree.walks.Tree+Table.+list.Goals as goal

pub returns-in_err-list-in-Fork-clause-fails : goal.returns-in_err-list-in-Fork-clause-fails
returns-in_err-list-in-Fork-clause-fails g t c =
    let takes = g.L.Lister.takes in
    let fails = g.L.Lister.fails in
    let fork = c.deref.result.now in
    let same = c.deref.ensures in
    let whole = listed_at _ _ _ _ _ (parts_are c.self.view_is c.in-Fork.is fork fork fork fork same same same same) in
    on_any_err c.from_residual.result _
    (failed_first takes fails (flat_map listed fork.left) (listed (fork.id, fork.item)) (flat_map listed fork.right) _ whole
    c.args.lister.now c.list.new.lister c.in_err-list-in-Fork.ensures.fails)

pub returns-in_err-list-in-Fork-2-clause-fails : goal.returns-in_err-list-in-Fork-2-clause-fails
returns-in_err-list-in-Fork-2-clause-fails g t c =
    let takes = g.L.Lister.takes in
    let fails = g.L.Lister.fails in
    let first = c.deref.result.now in
    let item = c.deref-in-Fork-2.result.now in
    let id = c.deref-in-Fork-3.result.now in
    let whole = listed_at _ _ _ _ _ (parts_are c.self.view_is c.in-Fork.is first id item item
    c.deref.ensures c.deref-in-Fork-3.ensures c.deref-in-Fork-2.ensures c.deref-in-Fork-2.ensures) in
    on_any_err c.from_residual-in_err-list-in-Fork-2.result _
    (failed_here takes fails (flat_map listed first.left) (listed (id.id, item.item)) (flat_map listed item.right) _ whole
    c.args.lister.now c.list.new.lister c.list-in-Fork.new.lister
    c.in_ok-list-in-Fork.ensures.list c.in_err-list-in-Fork-2.ensures.fails)

pub returns-in_ok-list-in-Fork-2-clause-list : goal.returns-in_ok-list-in-Fork-2-clause-list
returns-in_ok-list-in-Fork-2-clause-list g t c =
    let takes = g.L.Lister.takes in
    let fails = g.L.Lister.fails in
    let first = c.deref.result.now in
    let item = c.deref-in-Fork-2.result.now in
    let id = c.deref-in-Fork-3.result.now in
    let last = c.deref-in-Fork-4.result.now in
    let whole = listed_at _ _ _ _ _ (parts_are c.self.view_is c.in-Fork.is first id item last
    c.deref.ensures c.deref-in-Fork-3.ensures c.deref-in-Fork-2.ensures c.deref-in-Fork-4.ensures) in
    on_ok_weaker c.list-in-Fork-2.result
    (λ rest. took_whole takes fails (flat_map listed first.left) (listed (id.id, item.item)) (flat_map listed last.right) _ whole
    c.args.lister.now c.list.new.lister c.list-in-Fork.new.lister c.list-in-Fork-2.new.lister c.in_ok-list-in-Fork.ensures.list c.in_ok-list-in-Fork-2.ensures.list rest)
    c.list-in-Fork-2.ensures.list

pub returns-in_ok-list-in-Fork-2-clause-fails : goal.returns-in_ok-list-in-Fork-2-clause-fails
returns-in_ok-list-in-Fork-2-clause-fails g t c =
    let takes = g.L.Lister.takes in
    let fails = g.L.Lister.fails in
    let first = c.deref.result.now in
    let item = c.deref-in-Fork-2.result.now in
    let id = c.deref-in-Fork-3.result.now in
    let last = c.deref-in-Fork-4.result.now in
    let whole = listed_at _ _ _ _ _ (parts_are c.self.view_is c.in-Fork.is first id item last
    c.deref.ensures c.deref-in-Fork-3.ensures c.deref-in-Fork-2.ensures c.deref-in-Fork-4.ensures) in
    on_err_weaker c.list-in-Fork-2.result
    (λ rest. failed_rest takes fails (flat_map listed first.left) (listed (id.id, item.item)) (flat_map listed last.right) _ whole
    c.args.lister.now c.list.new.lister c.list-in-Fork.new.lister c.list-in-Fork-2.new.lister c.in_ok-list-in-Fork.ensures.list c.in_ok-list-in-Fork-2.ensures.list rest)
    c.list-in-Fork-2.ensures.fails
