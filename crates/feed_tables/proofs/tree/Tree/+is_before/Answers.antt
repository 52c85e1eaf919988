use Rattle.std.proofs.Common.{rules, ◌≡◌, Less}
use Rattle.feed_tables.specs.Bytes.{byte_order}
use Rattle.feed_tables.proofs.TreeFork.{at_lent, ordered_to}
use Rattle.feed_tables.proofs.Unions.{fork_before}
use Rattle.feed_tables.proofs.tree.Tree.+is_before.Goals as goal

pub is_before-requires : goal.is_before-requires
is_before-requires g t c κs within =
    let f = at_lent c.self.view_is c.requires c.in-Fork.is c.deref-in-Less.result.now c.deref-in-Less.ensures in
    (search rules, (within, f.right))

pub returns-in-Less : goal.returns-in-Less
returns-in-Less g t c = λ yes.
    let fork = c.deref-in-Less.result.now in
    let f = at_lent c.self.view_is c.requires c.in-Fork.is fork c.deref-in-Less.ensures in
    let order : byte_order fork.id c.args.id.now ≡ Less = ordered_to c.args.id.now fork c.deref.result.now c.deref-in-Less.ensures c.deref.ensures c.compare.ensures c.in-Less.is in
    fork_before f c.args.id.now order (c.is_before.ensures yes)
