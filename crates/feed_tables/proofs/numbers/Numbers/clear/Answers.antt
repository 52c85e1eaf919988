use Rattle.std.proofs.Common.{◌≡◌, List, ℕ, length, ◌∙◌, ap, subst, sym, arith}
use Rattle.std.specs.Vec.{with_items}
use Rattle.std.specs.FinMap.{FinMap}
use Rattle.std.proofs.lemmas.List.{with_items_is}
use Rattle.feed_tables.specs.Bytes.{byte_order}
use Rattle.feed_tables.specs.Numbers.{joined, AreParts}
use Rattle.feed_tables.proofs.NumberParts.{all_empty, joined_empty, each_empty}
use Rattle.feed_tables.proofs.numbers.Numbers.clear.Goals as goal

pub invariant_of-self : goal.invariant_of-self
invariant_of-self c =
    let parts = c.fill_with.new.self in
    let long : length parts ≡ length c.self.inside.parts.items = c.fill_with.ensures.len ∙ ap length c.as_mut_slice.ensures.value in
    let same : (with_items c.self.inside.parts parts).items ≡ parts = with_items_is c.self.inside.parts parts (long ∙ sym c.self.inside.parts.ok.0) in
    subst (λ (l : List (FinMap byte_order ℕ)). AreParts l) (sym same) (
      omega (arith, long, c.self.invariant.0),
      all_empty (length parts) parts 0 (each_empty _ (λ p q part s. s.met) parts _ _ c.fill_with.ensures.ran.1),
    )

pub returns : goal.returns
returns c =
    let parts = c.fill_with.new.self in
    let long : length parts ≡ length c.self.inside.parts.items = c.fill_with.ensures.len ∙ ap length c.as_mut_slice.ensures.value in
    let same : (with_items c.self.inside.parts parts).items ≡ parts = with_items_is c.self.inside.parts parts (long ∙ sym c.self.inside.parts.ok.0) in
    ap joined same
    ∙ joined_empty (length parts) parts (each_empty _ (λ p q part s. s.met) parts _ _ c.fill_with.ensures.ran.1)
