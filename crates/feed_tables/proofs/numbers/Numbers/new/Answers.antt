use Rattle.std.proofs.Common.{List, ℕ, length, ◌∙◌, ap, subst, sym, arith}
use Rattle.std.specs.FinMap.{FinMap}
use Rattle.feed_tables.specs.Bytes.{byte_order}
use Rattle.feed_tables.specs.Numbers.{joined, AreApart}
use Rattle.feed_tables.proofs.NumberParts.{all_empty, joined_empty, each_empty, behind_none}
use Rattle.feed_tables.proofs.numbers.Numbers.new.Goals as goal

pub invariant_of-result : goal.invariant_of-result
invariant_of-result c =
    let vec = c.resize_with.new.self in
    let made = c.in_ok-resize_with.ensures.items in
    let same = behind_none _ _ vec.items made.0 c.new-parts.ensures.items made.2 in (
      omega (arith, c.in_ok-resize_with.ensures.len, vec.ok.0, c.parts_for.ensures),
      subst (λ (l : List (FinMap byte_order ℕ)). AreApart (length l) 0 l) (sym same)
          (all_empty (length made.0) made.0 0 (each_empty _ (λ p q part s. s.met) made.0 _ _ made.3)),
    )

pub returns : goal.returns
returns c =
    let vec = c.resize_with.new.self in
    let made = c.in_ok-resize_with.ensures.items in
    ap joined (behind_none _ _ vec.items made.0 c.new-parts.ensures.items made.2)
    ∙ joined_empty (length made.0) made.0 (each_empty _ (λ p q part s. s.met) made.0 _ _ made.3)
