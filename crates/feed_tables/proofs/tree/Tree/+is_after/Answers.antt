use Rattle.std.proofs.Common.{rules, ◌≡◌, Greater}
use Rattle.feed_tables.specs.Bytes.{byte_order}
use Rattle.feed_tables.proofs.TreeFork.{at_lent, ordered_to}
use Rattle.feed_tables.proofs.Unions.{fork_after}
use Rattle.feed_tables.proofs.tree.Tree.+is_after.Goals as goal

pub is_after-requires : goal.is_after-requires
is_after-requires g t c κs within =
    let f = at_lent c.self.view_is c.requires c.in-Fork.is c.deref-in-Greater.result.now c.deref-in-Greater.ensures in
    (search rules, (within, f.left))

pub returns-in-Greater : goal.returns-in-Greater
returns-in-Greater g t c = λ yes.
    let fork = c.deref-in-Greater.result.now in
    let f = at_lent c.self.view_is c.requires c.in-Fork.is fork c.deref-in-Greater.ensures in
    let order : byte_order fork.id c.args.id.now ≡ Greater = ordered_to c.args.id.now fork c.deref.result.now c.deref-in-Greater.ensures c.deref.ensures c.compare.ensures c.in-Greater.is in
    fork_after f c.args.id.now order (c.is_after.ensures yes)
