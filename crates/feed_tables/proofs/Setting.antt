-- What becomes of the objects of types, where an object was put among those of one, seen at a fork.
use Rattle.std.proofs.Common.{true, Less, Greater, ◌≡◌, ℕ, List, ◌∷◌, ◌++◌, Option, None, Some, length, sym, ap, subst, ◌∙◌}
use Rattle.std.specs.declared.alloc.Global.{Global}
use Rattle.std.specs.declared.boxed.Box.{Box}
use Rattle.std.specs.FinMap.{FinMap, get, from_sorted, get-from_sorted}
use Rattle.feed_tables.specs.Bytes.{byte_order, IsInOrder}
use Rattle.feed_tables.specs.ChangedIds.{SetsAmong, SetsIn}
use Rattle.feed_tables.specs.declared.ids.Ids.{Ids}
use Rattle.feed_tables.specs.declared.tree.Fork.{Fork}
use Rattle.feed_tables.proofs.MapsOver.{exchanged, in_order_swapped}
use Rattle.feed_tables.proofs.Swapping.{swaps_before, swaps_after, same_length}
use Rattle.feed_tables.proofs.TreeFork.{AtFork, find_before, find_after}

module _ {d l r : List (List ℕ × Ids)} {e : List ℕ × Ids} (f : AtFork d l e r) (kind id object : List ℕ) where
  pub sets_before : (fs : List (List ℕ × Ids)) (node : Option (Box (Fork (List ℕ)) Global)) → byte_order kind e.0 ≡ Less → SetsAmong kind l fs id object node → SetsAmong kind d (fs ++ e ∷ r) id object node
  sets_before fs None p s = (s.0, s.1, swaps_before f kind s.1 s.0 fs true p s.2, s.3)
  sets_before fs (Some node) p s = (find_before f kind p ∙ s.0, ap (λ (x : List (List ℕ × Ids)). x ++ e ∷ r) s.1 ∙ sym f.is, s.2, s.3)

  pub sets_after : (fs : List (List ℕ × Ids)) (node : Option (Box (Fork (List ℕ)) Global)) → byte_order kind e.0 ≡ Greater → SetsAmong kind r fs id object node → SetsAmong kind d (l ++ e ∷ fs) id object node
  sets_after fs None p s = (s.0, s.1, swaps_after f kind s.1 s.0 fs true p s.2, s.3)
  sets_after fs (Some node) p s = (find_after f kind p ∙ s.0, ap (λ (x : List (List ℕ × Ids)). l ++ e ∷ x) s.1 ∙ sym f.is, s.2, s.3)

module _ (kind id object : List ℕ) (es fs : List (List ℕ × Ids)) (h : IsInOrder es) where
  pub sets_in : (m : FinMap byte_order Ids) (node : Option (Box (Fork (List ℕ)) Global)) → from_sorted es ≡ m → SetsAmong kind es fs id object node → SetsIn kind m (from_sorted fs) id object node
  sets_in m None is s = (s.0, s.1, exchanged kind es fs s.1 s.0 true m h is s.2, s.3)
  sets_in m (Some node) is s =
      (ap (λ (n : FinMap byte_order Ids). get n kind) (sym is) ∙ get-from_sorted byte_order es kind h ∙ s.0, ap from_sorted s.1 ∙ is, s.2, s.3)

  pub in_order_set : (node : Option (Box (Fork (List ℕ)) Global)) → SetsAmong kind es fs id object node → IsInOrder fs
  in_order_set None s = in_order_swapped kind es fs s.1 s.0 true h s.2
  in_order_set (Some node) s = subst (λ (l : List (List ℕ × Ids)). IsInOrder l) (sym s.1) h

  pub as_many_set : (node : Option (Box (Fork (List ℕ)) Global)) → SetsAmong kind es fs id object node → length fs ≡ length es
  as_many_set None s = same_length kind es fs s.1 s.0 true h s.2
  as_many_set (Some node) s = ap length s.1
