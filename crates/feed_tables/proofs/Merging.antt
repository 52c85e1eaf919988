-- Tables by their types, where objects changed in one of them, seen at a fork.
use Rattle.std.proofs.Common.{true, Less, Greater, ◌≡◌, ℕ, List, ◌∷◌, ◌++◌, Bool, false, length, sym, ap, subst, ◌∙◌}
use Rattle.std.specs.FinMap.{get, from_sorted, get-from_sorted}
use Rattle.feed_tables.specs.Amounts.{MergesAmong, MergesIn}
use Rattle.feed_tables.specs.Bytes.{byte_order, IsInOrder}
use Rattle.feed_tables.specs.Tables.{Contents}
use Rattle.feed_tables.specs.declared.ids.Ids.{Ids}
use Rattle.feed_tables.specs.declared.scale.Merged.{Merged}
use Rattle.feed_tables.specs.declared.table.Table.{Table}
use Rattle.feed_tables.proofs.MapsOver.{exchanged, in_order_swapped}
use Rattle.feed_tables.proofs.Swapping.{swaps_before, swaps_after, same_length}
use Rattle.feed_tables.proofs.TreeFork.{AtFork, find_before, find_after}

module _ {d l r : List (List ℕ × Table)} {e : List ℕ × Table} (f : AtFork d l e r) (kind : List ℕ) (ids : Ids) where
  pub merges_before : (fs : List (List ℕ × Table)) (merged : Merged) (b : Bool) → byte_order kind e.0 ≡ Less → MergesAmong kind l fs ids merged b → MergesAmong kind d (fs ++ e ∷ r) ids merged b
  merges_before fs merged false p s = (find_before f kind p ∙ s.0, ap (λ (x : List (List ℕ × Table)). x ++ e ∷ r) s.1 ∙ sym f.is)
  merges_before fs merged true p s = (s.0, s.1, swaps_before f kind s.1 s.0 fs true p s.2, s.3)

  pub merges_after : (fs : List (List ℕ × Table)) (merged : Merged) (b : Bool) → byte_order kind e.0 ≡ Greater → MergesAmong kind r fs ids merged b → MergesAmong kind d (l ++ e ∷ fs) ids merged b
  merges_after fs merged false p s = (find_after f kind p ∙ s.0, ap (λ (x : List (List ℕ × Table)). l ++ e ∷ x) s.1 ∙ sym f.is)
  merges_after fs merged true p s = (s.0, s.1, swaps_after f kind s.1 s.0 fs true p s.2, s.3)

module _ (kind : List ℕ) (ids : Ids) (es fs : List (List ℕ × Table)) (h : IsInOrder es) where
  pub merges_in : (m : Contents) (merged : Merged) (b : Bool) → from_sorted es ≡ m → MergesAmong kind es fs ids merged b → MergesIn kind m (from_sorted fs) ids merged b
  merges_in m merged false is s =
      (ap (λ (n : Contents). get n kind) (sym is) ∙ get-from_sorted byte_order es kind h ∙ s.0, ap from_sorted s.1 ∙ is)
  merges_in m merged true is s = (s.0, s.1, exchanged kind es fs s.1 s.0 true m h is s.2, s.3)

  pub in_order_merged : (merged : Merged) (b : Bool) → MergesAmong kind es fs ids merged b → IsInOrder fs
  in_order_merged merged false s = subst (λ (l : List (List ℕ × Table)). IsInOrder l) (sym s.1) h
  in_order_merged merged true s = in_order_swapped kind es fs s.1 s.0 true h s.2

  pub as_many_merged : (merged : Merged) (b : Bool) → MergesAmong kind es fs ids merged b → length fs ≡ length es
  as_many_merged merged false s = ap length s.1
  as_many_merged merged true s = same_length kind es fs s.1 s.0 true h s.2
