-- Entries where the item of a name was exchanged, seen at a fork.
use Rattle.std.proofs.Common.{Bool, true, false, cond, Less, Greater, ◌≡◌, ℕ, ◌+◌, List, ◌∷◌, ◌++◌, length, sym, ap, ◌∙◌}
use Rattle.std.specs.Option.{is_some}
use Rattle.std.specs.FinMap.Entries.{length-put}
use Rattle.feed_tables.specs.Bytes.{byte_order, IsInOrder}
use Rattle.feed_tables.specs.Tree.{Swaps}
use Rattle.feed_changes.proofs.Order.{total}
use Rattle.feed_tables.proofs.TreeFork.{AtFork, find_before, find_after, put_before, put_after}

pub same_length : {V : Type 0} (id : List ℕ) (es fs : List (List ℕ × V)) (old new : V) (b : Bool) → IsInOrder es → Swaps id es fs old new b → length fs ≡ length es
same_length id es fs old new true h s = ap length s.1 ∙ length-put byte_order total id old es h ∙ ap (λ o. cond (is_some o) (length es) (length es + 1)) s.0
same_length id es fs old new false h s = ap length s.1

module _ {V : Type 0} {d l r : List (List ℕ × V)} {e : List ℕ × V} (f : AtFork d l e r) (id : List ℕ) (old new : V) where
  pub swaps_before : (fs : List (List ℕ × V)) (b : Bool) → byte_order id e.0 ≡ Less → Swaps id l fs old new b → Swaps id d (fs ++ e ∷ r) old new b
  swaps_before fs true p s = (find_before f id p ∙ s.0, ap (λ (x : List (List ℕ × V)). x ++ e ∷ r) s.1 ∙ sym (put_before f id old p))
  swaps_before fs false p s = (find_before f id p ∙ s.0, ap (λ (x : List (List ℕ × V)). x ++ e ∷ r) s.1 ∙ sym f.is, s.2)

  pub swaps_after : (fs : List (List ℕ × V)) (b : Bool) → byte_order id e.0 ≡ Greater → Swaps id r fs old new b → Swaps id d (l ++ e ∷ fs) old new b
  swaps_after fs true p s = (find_after f id p ∙ s.0, ap (λ (x : List (List ℕ × V)). l ++ e ∷ x) s.1 ∙ sym (put_after f id old p))
  swaps_after fs false p s = (find_after f id p ∙ s.0, ap (λ (x : List (List ℕ × V)). l ++ e ∷ x) s.1 ∙ sym f.is, s.2)
