use Rattle.std.proofs.Common.{◌≡◌, ◌∷◌, ◌++◌, sym, ap, ◌∙◌}
use Rattle.feed_tables.specs.Tree.{entries_of}
use Rattle.feed_tables.proofs.Unions.{one_put, one_kept}
use Rattle.feed_tables.proofs.tree.Tree.put_one.Goals as goal

pub returns-clause-put : goal.returns-clause-put
returns-clause-put g c =
    let fork = c.in-Fork.node.value in
    let whole : c.args.items ≡ fork.left ++ (fork.id, fork.item) ∷ fork.right = sym c.items.view_is ∙ ap entries_of c.in-Fork.is in
    one_put c.args.self.now c.args.items fork.left fork.right c.insert-added.new.self fork.id fork.item c.requires.one whole (rw c.in-Fork.is at c.insert-added.ensures.put)

pub returns-clause-kept : goal.returns-clause-kept
returns-clause-kept g c = λ scale.
    let fork = c.in-Fork.node.value in
    let whole : c.args.items ≡ fork.left ++ (fork.id, fork.item) ∷ fork.right = sym c.items.view_is ∙ ap entries_of c.in-Fork.is in
    one_kept c.args.self.now c.args.items fork.left fork.right c.insert-added.new.self fork.id fork.item c.requires.one whole (rw c.in-Fork.is at c.insert-added.ensures.put) scale c.insert-added.new.back c.args.spare.now c.set_aside.new.spare c.requires.order (rw c.in-Fork.is at c.insert-added.ensures.back) c.set_aside.ensures
