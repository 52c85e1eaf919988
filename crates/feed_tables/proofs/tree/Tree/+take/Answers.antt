use Rattle.std.proofs.Common.{rules, refl, ◌≡◌, Greater, Less, Equal, sym}
use Rattle.feed_tables.specs.Bytes.{byte_order}
use Rattle.feed_tables.proofs.TreeFork.{at_lent, find_before, find_at, find_after, without_before, without_at, without_after, ordered}
use Rattle.feed_tables.proofs.Maps.{byte_order_antisymmetric}
use Rattle.feed_tables.proofs.Taking.{handed_here}
use Rattle.feed_tables.proofs.tree.Tree.+take.Goals as goal

pub take-gone-requires : goal.take-gone-requires
take-gone-requires g t c κs within =
    let f = at_lent c.self.view_is c.requires c.in-Fork.is c.deref_mut.result.now c.deref_mut.ensures.value in
    (search rules, (within, f.left))

pub take-gone-requires-in-Greater : goal.take-gone-requires-in-Greater
take-gone-requires-in-Greater g t c κs within =
    let f = at_lent c.self.view_is c.requires c.in-Fork.is c.deref_mut-in-Greater.result.now c.deref_mut-in-Greater.ensures.value in
    (search rules, (within, f.right))

pub returns-in-Less-clause-left : goal.returns-in-Less-clause-left
returns-in-Less-clause-left g t c =
    let fork = c.deref_mut.result.now in
    let f = at_lent c.self.view_is c.requires c.in-Fork.is fork c.deref_mut.ensures.value in
    let order : byte_order c.args.id.now fork.id ≡ Less = ordered c.args.id.now fork c.deref.result.now c.deref_mut.ensures.value c.deref.ensures c.compare.ensures c.in-Less.is in
    rw (c.settle_left.ensures, c.take-gone.ensures.left) (sym (without_before f c.args.id.now order))

pub returns-in-Less-clause-gone : goal.returns-in-Less-clause-gone
returns-in-Less-clause-gone g t c =
    let fork = c.deref_mut.result.now in
    let f = at_lent c.self.view_is c.requires c.in-Fork.is fork c.deref_mut.ensures.value in
    let order : byte_order c.args.id.now fork.id ≡ Less = ordered c.args.id.now fork c.deref.result.now c.deref_mut.ensures.value c.deref.ensures c.compare.ensures c.in-Less.is in
    rw (find_before f c.args.id.now order) c.take-gone.ensures.gone

pub returns-in-Equal-clause-left : goal.returns-in-Equal-clause-left
returns-in-Equal-clause-left g t c =
    let fork = c.deref_mut-in-Equal.result.now in
    let f = at_lent c.self.view_is c.requires c.in-Fork.is fork c.deref_mut-in-Equal.ensures.value in
    let order : byte_order c.args.id.now fork.id ≡ Equal = ordered c.args.id.now fork c.deref.result.now c.deref_mut-in-Equal.ensures.value c.deref.ensures c.compare.ensures c.in-Equal.is in
    rw (c.replace-root.ensures.after, c.joined.ensures, c.replace-left.ensures.value, c.replace-right.ensures.value, c.deref_mut-in-Equal-2.ensures.value) (sym (without_at f c.args.id.now order))

pub returns-in-Equal-clause-gone : goal.returns-in-Equal-clause-gone
returns-in-Equal-clause-gone g t c =
    let fork = c.deref_mut-in-Equal.result.now in
    let f = at_lent c.self.view_is c.requires c.in-Fork.is fork c.deref_mut-in-Equal.ensures.value in
    let order : byte_order c.args.id.now fork.id ≡ Equal = ordered c.args.id.now fork c.deref.result.now c.deref_mut-in-Equal.ensures.value c.deref.ensures c.compare.ensures c.in-Equal.is in
    handed_here c.into_node.result c.args.id.now fork.id fork.item _ (byte_order_antisymmetric c.args.id.now fork.id order) (rw (c.into_node.ensures, c.replace-root.ensures.value, c.deref_mut-in-Equal-2.ensures.value, c.replace-left.ensures.after, c.replace-right.ensures.after, c.new.ensures, c.new-in-Equal.ensures) refl) (find_at f c.args.id.now order)

pub returns-in-Greater-clause-left : goal.returns-in-Greater-clause-left
returns-in-Greater-clause-left g t c =
    let fork = c.deref_mut-in-Greater.result.now in
    let f = at_lent c.self.view_is c.requires c.in-Fork.is fork c.deref_mut-in-Greater.ensures.value in
    let order : byte_order c.args.id.now fork.id ≡ Greater = ordered c.args.id.now fork c.deref.result.now c.deref_mut-in-Greater.ensures.value c.deref.ensures c.compare.ensures c.in-Greater.is in
    rw (c.settle_right.ensures, c.take-gone-in-Greater.ensures.left) (sym (without_after f c.args.id.now order))

pub returns-in-Greater-clause-gone : goal.returns-in-Greater-clause-gone
returns-in-Greater-clause-gone g t c =
    let fork = c.deref_mut-in-Greater.result.now in
    let f = at_lent c.self.view_is c.requires c.in-Fork.is fork c.deref_mut-in-Greater.ensures.value in
    let order : byte_order c.args.id.now fork.id ≡ Greater = ordered c.args.id.now fork c.deref.result.now c.deref_mut-in-Greater.ensures.value c.deref.ensures c.compare.ensures c.in-Greater.is in
    rw (find_after f c.args.id.now order) c.take-gone-in-Greater.ensures.gone
