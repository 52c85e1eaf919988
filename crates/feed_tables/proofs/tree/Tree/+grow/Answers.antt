use Rattle.std.proofs.Common.{refl, rules, ◌≡◌, ◌∙◌, ap, Greater, Less, Equal, sym}
use Rattle.feed_tables.specs.Bytes.{byte_order}
use Rattle.feed_tables.specs.Tree.{named}
use Rattle.feed_tables.specs.declared.tree.Fork.{Fork}
use Rattle.feed_tables.proofs.TreeFork.{at_lent, find_before, find_at, find_after, put_before, put_at, put_after, ordered}
use Rattle.feed_tables.proofs.tree.Tree.+grow.Goals as goal
use Rattle.feed_tables.proofs.tree.Tree.+grow.Goals.{in-Less, in-Equal, in-Greater}

pub grow-growth-requires : goal.grow-growth-requires
grow-growth-requires g t c κs within =
    let f = at_lent c.self.view_is c.requires.order c.in-Fork.is c.deref_mut.result.now c.deref_mut.ensures.value in
    (search rules, (within, (f.left, c.requires.none)))

pub grow-growth-requires-in-Greater : goal.grow-growth-requires-in-Greater
grow-growth-requires-in-Greater g t c κs within =
    let f = at_lent c.self.view_is c.requires.order c.in-Fork.is c.deref_mut-in-Greater.result.now c.deref_mut-in-Greater.ensures.value in
    (search rules, (within, (f.right, c.requires.none)))

pub returns-after-compare-clause-put : goal.returns-after-compare-clause-put
returns-after-compare-clause-put g t c =
    let k = c.args.node.value.id in
    let v = c.args.node.value.item in
    let fork = c.in-Fork.fork.value in
    let f = at_lent c.self.view_is c.requires.order c.in-Fork.is fork refl in
    elim c.match-compare.branch [
      | in-Less w ↦
          let order : byte_order k fork.id ≡ Less = ap (λ (x : Fork _). byte_order x.id fork.id) (sym c.deref.ensures) ∙ ordered c.deref.result.now.id fork c.deref-in-Fork.result.now refl c.deref-in-Fork.ensures c.compare.ensures w.in-Less.is in
          rw (w.self-inside-is, w.grow_left.ensures.items, w.grow-growth.ensures.put, w.deref_mut.ensures.value) (sym (put_before f k v order))
      | in-Equal w ↦
          let order : byte_order k fork.id ≡ Equal = ap (λ (x : Fork _). byte_order x.id fork.id) (sym c.deref.ensures) ∙ ordered c.deref.result.now.id fork c.deref-in-Fork.result.now refl c.deref-in-Fork.ensures c.compare.ensures w.in-Equal.is in
          rw (w.self-inside-is, w.exchange.ensures.item, w.deref_mut-in-Equal.ensures.value) (sym (put_at f k v order))
      | in-Greater w ↦
          let order : byte_order k fork.id ≡ Greater = ap (λ (x : Fork _). byte_order x.id fork.id) (sym c.deref.ensures) ∙ ordered c.deref.result.now.id fork c.deref-in-Fork.result.now refl c.deref-in-Fork.ensures c.compare.ensures w.in-Greater.is in
          rw (w.self-inside-is, w.grow_right.ensures.items, w.grow-growth-in-Greater.ensures.put, w.deref_mut-in-Greater.ensures.value) (sym (put_after f k v order))
    ]

pub returns-after-compare-clause-back : goal.returns-after-compare-clause-back
returns-after-compare-clause-back g t c =
    let k = c.args.node.value.id in
    let fork = c.in-Fork.fork.value in
    let f = at_lent c.self.view_is c.requires.order c.in-Fork.is fork refl in
    elim c.match-compare.branch [
      | in-Less w ↦
          let order : byte_order k fork.id ≡ Less = ap (λ (x : Fork _). byte_order x.id fork.id) (sym c.deref.ensures) ∙ ordered c.deref.result.now.id fork c.deref-in-Fork.result.now refl c.deref-in-Fork.ensures c.compare.ensures w.in-Less.is in
          rw (w.back-is, w.grow-growth.ensures.back, w.deref_mut.ensures.value) (ap (named k) (sym (find_before f k order)))
      | in-Equal w ↦
          let order : byte_order k fork.id ≡ Equal = ap (λ (x : Fork _). byte_order x.id fork.id) (sym c.deref.ensures) ∙ ordered c.deref.result.now.id fork c.deref-in-Fork.result.now refl c.deref-in-Fork.ensures c.compare.ensures w.in-Equal.is in
          rw (w.back-is, w.exchange.ensures.name, w.exchange.ensures.back, w.deref_mut-in-Equal.ensures.value) (ap (named k) (sym (find_at f k order)))
      | in-Greater w ↦
          let order : byte_order k fork.id ≡ Greater = ap (λ (x : Fork _). byte_order x.id fork.id) (sym c.deref.ensures) ∙ ordered c.deref.result.now.id fork c.deref-in-Fork.result.now refl c.deref-in-Fork.ensures c.compare.ensures w.in-Greater.is in
          rw (w.back-is, w.grow-growth-in-Greater.ensures.back, w.deref_mut-in-Greater.ensures.value) (ap (named k) (sym (find_after f k order)))
    ]
