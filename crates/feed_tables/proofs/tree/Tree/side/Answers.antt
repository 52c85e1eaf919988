use Rattle.std.proofs.Common.{◌≡◌, Less, Greater}
use Rattle.feed_tables.specs.Bytes.{byte_order}
use Rattle.feed_tables.proofs.TreeFork.{at_lent, ordered_to}
use Rattle.feed_tables.proofs.Unions.{fork_before, fork_after}
use Rattle.feed_tables.proofs.tree.Tree.side.Goals as goal

pub is_before-requires : goal.is_before-requires
is_before-requires g c =
    let f = at_lent c.self.view_is c.requires c.in-Fork.is c.deref-in-Less.result.now c.deref-in-Less.ensures in
    f.right

pub is_after-requires : goal.is_after-requires
is_after-requires g c =
    let f = at_lent c.self.view_is c.requires c.in-Fork.is c.deref-in-Greater.result.now c.deref-in-Greater.ensures in
    f.left

pub returns-then-is_before : goal.returns-then-is_before
returns-then-is_before g c =
    let fork = c.deref-in-Less.result.now in
    let f = at_lent c.self.view_is c.requires c.in-Fork.is fork c.deref-in-Less.ensures in
    let order : byte_order fork.id c.args.id.now ≡ Less = ordered_to c.args.id.now fork c.deref.result.now c.deref-in-Less.ensures c.deref.ensures c.compare.ensures c.in-Less.is in
    fork_before f c.args.id.now order (c.is_before.ensures c.if-is_before.true)

pub returns-then-is_after : goal.returns-then-is_after
returns-then-is_after g c =
    let fork = c.deref-in-Greater.result.now in
    let f = at_lent c.self.view_is c.requires c.in-Fork.is fork c.deref-in-Greater.ensures in
    let order : byte_order fork.id c.args.id.now ≡ Greater = ordered_to c.args.id.now fork c.deref.result.now c.deref-in-Greater.ensures c.deref.ensures c.compare.ensures c.in-Greater.is in
    fork_after f c.args.id.now order (c.is_after.ensures c.if-is_after.true)
