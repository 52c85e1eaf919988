use Rattle.std.proofs.Common.{◌≡◌, ℕ, List, length, ◌∙◌, ap, ap₂, sym, subst, arith}
use Rattle.std.specs.Prelude.{slice_set, option_map, Option}
use Rattle.std.specs.FinMap.{FinMap, get, remove}
use Rattle.feed_tables.specs.Bytes.{byte_order}
use Rattle.feed_tables.specs.Numbers.{part_of, joined, AreApart}
use Rattle.feed_tables.proofs.Taking.{id_taken}
use Rattle.feed_tables.proofs.NumberParts.{joined_remove, remove_apart, set_parts, in_part}
use Rattle.feed_tables.proofs.numbers.Numbers.take.Goals as goal

pub invariant_of-self : goal.invariant_of-self
invariant_of-self c =
    let parts = c.self.inside.parts.items in
    let name = c.args.name.now in
    let place = c.part_of-part.result in
    let count : c.len.result ≡ length parts = c.len.ensures ∙ c.self.inside.parts.ok.0 in
    let own = c.part_of-part.ensures.part ∙ ap₂ part_of count c.text.ensures.text in
    let there = c.take.ensures.left ∙ ap₂ (λ (m : FinMap byte_order ℕ) (k : List ℕ). remove m k) c.index_mut.ensures.value c.key.ensures in
    set_parts parts place c.take.new.self c.self.invariant.0
    (subst (λ (m : FinMap byte_order ℕ). AreApart (length parts) 0 (slice_set parts place m)) (sym there)
    (remove_apart (length parts) parts place c.index_mut.result.now name c.self.invariant.1 (sym own) (omega (arith, c.part_of-part.ensures.bound, count))))

pub returns-clause-numbers : goal.returns-clause-numbers
returns-clause-numbers c =
    let parts = c.self.inside.parts.items in
    let name = c.args.name.now in
    let place = c.part_of-part.result in
    let count : c.len.result ≡ length parts = c.len.ensures ∙ c.self.inside.parts.ok.0 in
    let own = c.part_of-part.ensures.part ∙ ap₂ part_of count c.text.ensures.text in
    let there = c.take.ensures.left ∙ ap₂ (λ (m : FinMap byte_order ℕ) (k : List ℕ). remove m k) c.index_mut.ensures.value c.key.ensures in
    ap (λ (m : FinMap byte_order ℕ). joined (slice_set parts place m)) there
    ∙ joined_remove (length parts) parts 0 place c.index_mut.result.now name c.self.invariant.1 (omega (arith, own)) (omega (arith, c.part_of-part.ensures.bound, count))
    ∙ ap (λ (m : FinMap byte_order ℕ). remove m name) c.self.view_is

pub returns-clause-slot : goal.returns-clause-slot
returns-clause-slot c =
    let parts = c.self.inside.parts.items in
    let name = c.args.name.now in
    let place = c.part_of-part.result in
    let count : c.len.result ≡ length parts = c.len.ensures ∙ c.self.inside.parts.ok.0 in
    let own = c.part_of-part.ensures.part ∙ ap₂ part_of count c.text.ensures.text in
    c.slot_of.ensures
    ∙ id_taken c.take.result c.key.result (get c.index_mut.result.now c.key.result) c.take.ensures.gone
    ∙ ap (λ (k : List ℕ). option_map (λ _. k) (get c.index_mut.result.now k)) c.key.ensures
    ∙ ap (λ (o : Option ℕ). option_map (λ _. name) o)
    (ap (λ (m : FinMap byte_order ℕ). get m name) c.index_mut.ensures.value
    ∙ in_part (length parts) parts 0 place _ name c.self.invariant.1 (omega (arith, own)) (omega (arith, c.part_of-part.ensures.bound, count))
    ∙ ap (λ (m : FinMap byte_order ℕ). get m name) c.self.view_is)
