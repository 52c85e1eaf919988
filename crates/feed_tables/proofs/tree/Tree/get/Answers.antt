use Rattle.std.proofs.Common.{◌≡◌, Greater, Less, Equal, refl, sym, ap, ◌∙◌}
use Rattle.std.specs.FinMap.{find}
use Rattle.feed_tables.specs.Bytes.{byte_order}
use Rattle.feed_tables.specs.Tree.{entries_of}
use Rattle.feed_tables.proofs.TreeFork.{at_lent, find_before, find_at, find_after, ordered}
use Rattle.feed_tables.proofs.tree.Tree.get.Goals as goal

pub nodes-init : goal.nodes-init
nodes-init g c = (c.requires, refl)

pub nodes-preserved-in-Less : goal.nodes-preserved-in-Less
nodes-preserved-in-Less g c =
    let fork = c.deref-in-Less.result.now in
    let f = at_lent c.tree.view_is c.nodes.invariant.0 c.in-Fork.is fork c.deref-in-Less.ensures in
    let order : byte_order c.args.id.now fork.id ≡ Less = ordered c.args.id.now fork c.deref.result.now c.deref-in-Less.ensures c.deref.ensures c.compare.ensures c.in-Less.is in
    (f.left, sym (find_before f c.args.id.now order) ∙ c.nodes.invariant.1)

pub returns-in-Equal : goal.returns-in-Equal
returns-in-Equal g c =
    let fork = c.deref-in-Equal.result.now in
    let f = at_lent c.tree.view_is c.nodes.invariant.0 c.in-Fork.is fork c.deref-in-Equal.ensures in
    let order : byte_order c.args.id.now fork.id ≡ Equal = ordered c.args.id.now fork c.deref.result.now c.deref-in-Equal.ensures c.deref.ensures c.compare.ensures c.in-Equal.is in
    let here = find_at f c.args.id.now order in
    sym here ∙ c.nodes.invariant.1

pub nodes-preserved : goal.nodes-preserved
nodes-preserved g c =
    let fork = c.deref-in-Greater.result.now in
    let f = at_lent c.tree.view_is c.nodes.invariant.0 c.in-Fork.is fork c.deref-in-Greater.ensures in
    let order : byte_order c.args.id.now fork.id ≡ Greater = ordered c.args.id.now fork c.deref.result.now c.deref-in-Greater.ensures c.deref.ensures c.compare.ensures c.in-Greater.is in
    (f.right, sym (find_after f c.args.id.now order) ∙ c.nodes.invariant.1)

pub returns : goal.returns
returns g c =
    sym (ap (find byte_order c.args.id.now) (sym c.tree.view_is ∙ ap entries_of c.in_default.is)) ∙ c.nodes.invariant.1
