use Rattle.std.proofs.Common.{◌≡◌, ℕ, List, length, ◌∙◌, ap, ap₂, sym, subst, arith}
use Rattle.std.specs.Prelude.{slice_set}
use Rattle.std.specs.FinMap.{FinMap, insert}
use Rattle.feed_tables.specs.Bytes.{byte_order}
use Rattle.feed_tables.specs.Numbers.{part_of, joined, AreApart}
use Rattle.feed_tables.proofs.NumberParts.{joined_insert, insert_apart, set_parts}
use Rattle.feed_tables.proofs.numbers.Numbers.insert.Goals as goal

pub invariant_of-self : goal.invariant_of-self
invariant_of-self c =
    let parts = c.self.inside.parts.items in
    let node = c.set_item.new.self in
    let place = c.part_of-part.result in
    let count : c.len.result ≡ length parts = c.len.ensures ∙ c.self.inside.parts.ok.0 in
    let same : c.name.result.now ≡ node.id = c.name.ensures ∙ ap (λ f. f.id) c.deref.ensures in
    let own = c.part_of-part.ensures.part ∙ ap₂ part_of count same in
    let there = c.insert.ensures ∙ ap (λ (m : FinMap byte_order ℕ). insert m node.id node.item) c.index_mut.ensures.value in
    set_parts parts place c.insert.new.self c.self.invariant.0
    (subst (λ (m : FinMap byte_order ℕ). AreApart (length parts) 0 (slice_set parts place m)) (sym there)
    (insert_apart (length parts) parts place c.index_mut.result.now node.id node.item c.self.invariant.1 (sym own) (omega (arith, c.part_of-part.ensures.bound, count))))

pub returns : goal.returns
returns c =
    let parts = c.self.inside.parts.items in
    let node = c.set_item.new.self in
    let place = c.part_of-part.result in
    let count : c.len.result ≡ length parts = c.len.ensures ∙ c.self.inside.parts.ok.0 in
    let same : c.name.result.now ≡ node.id = c.name.ensures ∙ ap (λ f. f.id) c.deref.ensures in
    let own = c.part_of-part.ensures.part ∙ ap₂ part_of count same in
    let there = c.insert.ensures ∙ ap (λ (m : FinMap byte_order ℕ). insert m node.id node.item) c.index_mut.ensures.value in
    let id : node.id ≡ c.args.slot = cc (c.set_item.ensures, c.deref_mut.ensures.value, c.slot.view_is) in
    let item : node.item ≡ c.args.number = cc (c.set_item.ensures) in
    ap (λ (m : FinMap byte_order ℕ). joined (slice_set parts place m)) there
    ∙ joined_insert (length parts) parts 0 place c.index_mut.result.now node.id node.item c.self.invariant.1 (omega (arith, own)) (omega (arith, c.part_of-part.ensures.bound, count))
    ∙ ap (λ (m : FinMap byte_order ℕ). insert m node.id node.item) c.self.view_is
    ∙ ap₂ (λ (k : List ℕ) (v : ℕ). insert c.args.self.now k v) id item
