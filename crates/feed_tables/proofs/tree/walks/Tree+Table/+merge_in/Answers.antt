use Rattle.std.proofs.Common.{refl, rules, ◌≡◌, ◌∙◌, Greater, Less, Equal, ap, sym}
use Rattle.std.specs.FinMap.{find}
use Rattle.feed_tables.specs.Bytes.{byte_order}
use Rattle.feed_tables.specs.Tree.{entries_of}
use Rattle.feed_tables.proofs.TreeFork.{at_lent, find_at, put_at, ordered}
use Rattle.feed_tables.proofs.Merging.{merges_before, merges_after}
use Rattle.feed_tables.proofs.tree.walks.Tree+Table.+merge_in.Goals as goal
use Rattle.feed_tables.proofs.tree.walks.Tree+Table.+merge_in.Goals.{in-Leaf, in-Fork+in-Less, in-Fork+in-Equal, in-Fork+in-Greater}

pub merge_in-requires : goal.merge_in-requires
merge_in-requires t c =
    let f = at_lent c.self.view_is c.requires c.in-Fork.is c.deref_mut.result.now c.deref_mut.ensures.value in
    (search rules, f.left)

pub merge_in-requires-in-Greater : goal.merge_in-requires-in-Greater
merge_in-requires-in-Greater t c =
    let f = at_lent c.self.view_is c.requires c.in-Fork.is c.deref_mut-in-Greater.result.now c.deref_mut-in-Greater.ensures.value in
    (search rules, f.right)

pub returns : goal.returns
returns t c =
    let kind = c.args.kind.now in
    let ids = c.args.ids.now in
    record {
      merged = elim c.match-self.branch [
        | in-Leaf w ↦ rw (w.result-is, w.self-inside-is) (ap (find byte_order kind) (sym c.self.view_is ∙ ap entries_of w.in-Leaf.is), c.self.view_is)
        | in-Fork+in-Less w ↦
            let fork = w.in-Fork.fork.value in
            let f = at_lent c.self.view_is c.requires w.in-Fork.is fork refl in
            let order : byte_order kind fork.id ≡ Less = ordered kind fork w.deref.result.now refl w.deref.ensures w.compare.ensures w.in-Less.is in
            rw (w.result-is, w.merged-is, w.self-inside-is, w.deref_mut.ensures.value) (merges_before f kind ids w.merge_in.new.self w.merge_in.new.merged w.merge_in.result order (rw w.deref_mut.ensures.value at w.merge_in.ensures.merged))
        | in-Fork+in-Equal w ↦
            let fork = w.in-Fork.fork.value in
            let f = at_lent c.self.view_is c.requires w.in-Fork.is fork refl in
            let order : byte_order kind fork.id ≡ Equal = ordered kind fork w.deref.result.now refl w.deref.ensures w.compare.ensures w.in-Equal.is in
            rw (w.result-is, w.merged-is, w.self-inside-is, w.deref_mut-in-Equal.ensures.value)
            (fork.item, w.merge.new.self, (find_at f kind order, sym (put_at f kind w.merge.new.self order)), rw (w.replace.ensures.value, w.deref_mut-in-Equal.ensures.value) at w.merge.ensures)
        | in-Fork+in-Greater w ↦
            let fork = w.in-Fork.fork.value in
            let f = at_lent c.self.view_is c.requires w.in-Fork.is fork refl in
            let order : byte_order kind fork.id ≡ Greater = ordered kind fork w.deref.result.now refl w.deref.ensures w.compare.ensures w.in-Greater.is in
            rw (w.result-is, w.merged-is, w.self-inside-is, w.deref_mut-in-Greater.ensures.value) (merges_after f kind ids w.merge_in-in-Greater.new.self w.merge_in-in-Greater.new.merged w.merge_in-in-Greater.result order (rw w.deref_mut-in-Greater.ensures.value at w.merge_in-in-Greater.ensures.merged))
      ];
    }
