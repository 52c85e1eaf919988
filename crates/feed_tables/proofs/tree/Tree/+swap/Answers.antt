use Rattle.std.proofs.Common.{rules, ◌≡◌, Greater, Less, Equal, sym}
use Rattle.feed_tables.specs.Bytes.{byte_order}
use Rattle.feed_tables.proofs.TreeFork.{at_lent, find_at, put_at, ordered}
use Rattle.feed_tables.proofs.Swapping.{swaps_before, swaps_after}
use Rattle.feed_tables.proofs.tree.Tree.+swap.Goals as goal

pub swap-requires : goal.swap-requires
swap-requires g t c κs within =
    let f = at_lent c.self.view_is c.requires c.in-Fork.is c.deref_mut.result.now c.deref_mut.ensures.value in
    (search rules, (within, f.left))

pub returns-in-Less : goal.returns-in-Less
returns-in-Less g t c =
    let fork = c.deref_mut.result.now in
    let f = at_lent c.self.view_is c.requires c.in-Fork.is fork c.deref_mut.ensures.value in
    let order : byte_order c.args.id.now fork.id ≡ Less = ordered c.args.id.now fork c.deref.result.now c.deref_mut.ensures.value c.deref.ensures c.compare.ensures c.in-Less.is in
    record { swapped = swaps_before f c.args.id.now c.args.item.now c.swap.new.item c.swap.new.self c.swap.result order c.swap.ensures.swapped }

pub swap-requires-in-Greater : goal.swap-requires-in-Greater
swap-requires-in-Greater g t c κs within =
    let f = at_lent c.self.view_is c.requires c.in-Fork.is c.deref_mut-in-Greater.result.now c.deref_mut-in-Greater.ensures.value in
    (search rules, (within, f.right))

pub returns-in-Greater : goal.returns-in-Greater
returns-in-Greater g t c =
    let fork = c.deref_mut-in-Greater.result.now in
    let f = at_lent c.self.view_is c.requires c.in-Fork.is fork c.deref_mut-in-Greater.ensures.value in
    let order : byte_order c.args.id.now fork.id ≡ Greater = ordered c.args.id.now fork c.deref.result.now c.deref_mut-in-Greater.ensures.value c.deref.ensures c.compare.ensures c.in-Greater.is in
    record { swapped = swaps_after f c.args.id.now c.args.item.now c.swap-in-Greater.new.item c.swap-in-Greater.new.self c.swap-in-Greater.result order c.swap-in-Greater.ensures.swapped }

pub returns : goal.returns
returns g t c =
    let fork = c.deref_mut-2.result.now in
    let f = at_lent c.self.view_is c.requires c.in-Fork.is fork c.deref_mut-2.ensures.value in
    let order : byte_order c.args.id.now fork.id ≡ Equal = ordered c.args.id.now fork c.deref.result.now c.deref_mut-2.ensures.value c.deref.ensures c.compare.ensures c.in-Equal.is in
    record { swapped = (rw c.swap-2.ensures.y_after (find_at f c.args.id.now order), rw c.swap-2.ensures.x_after (sym (put_at f c.args.id.now c.args.item.now order))) }
