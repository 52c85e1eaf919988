use Rattle.std.proofs.Common.{rules, arith, ◌≡◌, [], ◌∷◌, ◌++◌, sym, ap, ◌∙◌, subst, refl, List, ℕ}
use Rattle.std.specs.declared.cmp.Ordering.{Ordering}
use Rattle.feed_tables.specs.Bytes.{IsInOrder}
use Rattle.feed_tables.specs.Tree.{entries_of}
use Rattle.feed_tables.specs.Unions.{put_each, entry_in, item_or, AreBefore, AreAfter, Stand, Parts}
use Rattle.feed_tables.specs.declared.tree.Fork.{Fork}
use Rattle.feed_tables.proofs.TreeFork.{at_lent}
use Rattle.feed_tables.proofs.Unions.{each_of_none, left_in, right_in, parted_in, parts_in_order, kept_left, kept_right, kept_both}
use Rattle.feed_tables.proofs.tree.Tree.+absorb.Goals as goal

pub absorb-requires : goal.absorb-requires
absorb-requires g t c κs within =
    let f = at_lent c.self.view_is c.requires.order c.in-Fork.is c.deref_mut.result.now c.deref_mut.ensures.value in
    (search rules, (within, (f.left, c.requires.items)))

pub absorb-requires-in-Greater : goal.absorb-requires-in-Greater
absorb-requires-in-Greater g t c κs within =
    let f = at_lent c.self.view_is c.requires.order c.in-Fork.is c.deref_mut-in-Greater.result.now c.deref_mut-in-Greater.ensures.value in
    (search rules, (within, (f.right, c.requires.items)))

pub absorb-requires-in-Equal : goal.absorb-requires-in-Equal
absorb-requires-in-Equal g t c κs within =
    let f = at_lent c.self.view_is c.requires.order c.in-Fork.is c.deref_mut-in-Equal.result.now c.deref_mut-in-Equal.ensures.value in
    let p = parts_in_order _ c.args.items c.part-before.result.before (entry_in c.part-before.result.same) c.part-before.result.after c.requires.items c.part-before.ensures in
    (search rules, (within, (f.left, p.0)))

pub absorb-requires-in-Equal-2 : goal.absorb-requires-in-Equal-2
absorb-requires-in-Equal-2 g t c κs within =
    let f = at_lent c.self.view_is c.requires.order c.in-Fork.is c.deref_mut-in-Equal.result.now c.deref_mut-in-Equal.ensures.value in
    let p = parts_in_order _ c.args.items c.part-before.result.before (entry_in c.part-before.result.same) c.part-before.result.after c.requires.items c.part-before.ensures in
    let right : c.deref_mut-in-Equal-3.result.now.right ≡ c.deref_mut-in-Equal.result.now.right = ap (λ (x : Fork _). x.right) c.deref_mut-in-Equal-3.ensures.value ∙ ap (λ (x : Fork _). x.right) c.take_item.ensures.item ∙ ap (λ (x : Fork _). x.right) c.deref_mut-in-Equal-2.ensures.value in
    (search rules, (within, (subst (λ (t : List (List ℕ × _)). IsInOrder t) (sym right) f.right, p.1)))

pub returns-in-Leaf-clause-put : goal.returns-in-Leaf-clause-put
returns-in-Leaf-clause-put g t c =
    let none : c.args.self.now ≡ [] = sym c.self.view_is ∙ ap entries_of c.in-Leaf.is in
    let all : put_each c.args.items c.args.self.now ≡ c.args.items = ap (put_each c.args.items) none ∙ each_of_none c.args.items c.requires.items in
    grind (arith, all, c.items.view_is)

pub returns-in-Less-clause-put : goal.returns-in-Less-clause-put
returns-in-Less-clause-put g t c =
    let fork = c.deref_mut.result.now in
    let f = at_lent c.self.view_is c.requires.order c.in-Fork.is fork c.deref_mut.ensures.value in
    let id : c.deref.result.now.id ≡ fork.id = ap (λ (x : Fork _). x.id) (c.deref.ensures ∙ sym c.deref_mut.ensures.value) in
    let side : AreBefore fork.id c.args.items = subst (λ (k : List ℕ). AreBefore k c.args.items) id (subst (λ (o : Ordering). Stand o c.deref.result.now.id c.args.items) c.in-Less.is c.side.ensures) in
    rw (c.even_left.ensures, c.absorb.ensures.put) (left_in f c.args.items side)

pub returns-in-Less-clause-kept : goal.returns-in-Less-clause-kept
returns-in-Less-clause-kept g t c = λ scale.
    let fork = c.deref_mut.result.now in
    let f = at_lent c.self.view_is c.requires.order c.in-Fork.is fork c.deref_mut.ensures.value in
    kept_left scale c.args.self.now fork.left fork.right c.args.items c.even_left.new.self fork.id fork.item c.absorb.new.self _ _ f.is c.even_left.ensures (c.absorb.ensures.kept scale)

pub returns-in-Greater-clause-put : goal.returns-in-Greater-clause-put
returns-in-Greater-clause-put g t c =
    let fork = c.deref_mut-in-Greater.result.now in
    let f = at_lent c.self.view_is c.requires.order c.in-Fork.is fork c.deref_mut-in-Greater.ensures.value in
    let id : c.deref.result.now.id ≡ fork.id = ap (λ (x : Fork _). x.id) (c.deref.ensures ∙ sym c.deref_mut-in-Greater.ensures.value) in
    let side : AreAfter fork.id c.args.items = subst (λ (k : List ℕ). AreAfter k c.args.items) id (subst (λ (o : Ordering). Stand o c.deref.result.now.id c.args.items) c.in-Greater.is c.side.ensures) in
    rw (c.even_right.ensures, c.absorb-in-Greater.ensures.put) (right_in f c.args.items side)

pub returns-in-Greater-clause-kept : goal.returns-in-Greater-clause-kept
returns-in-Greater-clause-kept g t c = λ scale.
    let fork = c.deref_mut-in-Greater.result.now in
    let f = at_lent c.self.view_is c.requires.order c.in-Fork.is fork c.deref_mut-in-Greater.ensures.value in
    kept_right scale c.args.self.now fork.left fork.right c.args.items c.even_right.new.self fork.id fork.item c.absorb-in-Greater.new.self _ _ f.is c.even_right.ensures (c.absorb-in-Greater.ensures.kept scale)

pub returns-in-Equal-clause-put : goal.returns-in-Equal-clause-put
returns-in-Equal-clause-put g t c =
    let fork = c.deref_mut-in-Equal.result.now in
    let f = at_lent c.self.view_is c.requires.order c.in-Fork.is fork c.deref_mut-in-Equal.ensures.value in
    let id : c.deref-in-Equal.result.now.id ≡ fork.id = ap (λ (x : Fork _). x.id) (c.deref-in-Equal.ensures ∙ sym c.deref_mut-in-Equal.ensures.value) in
    let parted = c.part-before.result in
    let p : Parts fork.id c.args.items parted.before (entry_in parted.same) parted.after = subst (λ (k : List ℕ). Parts k c.args.items parted.before (entry_in parted.same) parted.after) id c.part-before.ensures in
    rw (c.even.ensures, c.absorb-in-Equal-2.ensures.put, c.deref_mut-in-Equal-3.ensures.value, c.take_item.ensures.item, c.deref_mut-in-Equal-2.ensures.value, c.absorb-in-Equal.ensures.put)
    (parted_in f c.args.items parted.before parted.after parted.same p)

pub returns-in-Equal-clause-kept : goal.returns-in-Equal-clause-kept
returns-in-Equal-clause-kept g t c = λ scale.
    let fork = c.deref_mut-in-Equal.result.now in
    let f = at_lent c.self.view_is c.requires.order c.in-Fork.is fork c.deref_mut-in-Equal.ensures.value in
    let parted = c.part-before.result in
    let two = c.deref_mut-in-Equal-2.result.now in
    let last = c.deref_mut-in-Equal-3.result.now in
    let right : last.right ≡ fork.right = ap (λ (x : Fork _). x.right) c.deref_mut-in-Equal-3.ensures.value ∙ ap (λ (x : Fork _). x.right) c.take_item.ensures.item ∙ ap (λ (x : Fork _). x.right) c.deref_mut-in-Equal-2.ensures.value in
    let d_is : c.args.self.now ≡ fork.left ++ (two.id, two.item) ∷ last.right = rw (right, c.deref_mut-in-Equal-2.ensures.value) f.is in
    let new_is : c.even.new.self ≡ c.absorb-in-Equal.new.self ++ (two.id, item_or parted.same two.item) ∷ c.absorb-in-Equal-2.new.self = rw (c.even.ensures, c.deref_mut-in-Equal-3.ensures.value, c.take_item.ensures.item, c.deref_mut-in-Equal-2.ensures.value) refl in
    kept_both scale c.args.self.now fork.left last.right c.args.items c.even.new.self two.id two.item c.absorb-in-Equal.new.self c.absorb-in-Equal-2.new.self parted.before (entry_in parted.same) parted.after (item_or parted.same two.item) _ _ _ _ d_is new_is c.part-before.ensures.whole (c.absorb-in-Equal.ensures.kept scale) (c.take_item.ensures.kept scale) (c.absorb-in-Equal-2.ensures.kept scale)
