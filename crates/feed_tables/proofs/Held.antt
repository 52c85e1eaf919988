-- Items that a map holds, each under its name.
use Rattle.std.proofs.Common.{true, false, cond, ◌≡◌, ℕ, List, [], ◌∷◌, ◌++◌, None, Some, sym, ap, ◌∙◌, refl}
use Rattle.std.specs.Ordering.{eq_by_cmp}
use Rattle.std.specs.FinMap.{FinMap, find, get, get-entries, entries, entries_sorted}
use Rattle.feed_tables.specs.Bytes.{byte_order, IsInOrder}
use Rattle.feed_tables.specs.Walks.{AreIn}
use Rattle.feed_changes.proofs.Order.{total}
use Rattle.feed_tables.proofs.Entries.{first, second, equal, find_below, below_tied}
use Rattle.feed_tables.proofs.MapsOver.{same_gets, itself}
use Rattle.feed_tables.proofs.Patching.{tied}

-- at a fork
pub in_fork : {V : Type 0} (m : FinMap byte_order V) (l : List (List ℕ × V)) (e : List ℕ × V)
    (r : List (List ℕ × V)) → get m e.0 ≡ Some e.1 → AreIn m l → AreIn m r
    → AreIn m (l ++ e ∷ r)
in_fork m [] e r here left right = (here, right)
in_fork m (x ∷ l) e r here left right = (left.0, in_fork m l e r here left.1 right)

pub in_left : {V : Type 0} (m : FinMap byte_order V) (l r : List (List ℕ × V)) → AreIn m (l ++ r) → AreIn m l
in_left m [] r p = tt
in_left m (x ∷ l) r p = (p.0, in_left m l r p.1)

pub in_rest : {V : Type 0} (m : FinMap byte_order V) (l r : List (List ℕ × V)) → AreIn m (l ++ r) → AreIn m r
in_rest m [] r p = p
in_rest m (x ∷ l) r p = in_rest m l r p.1

-- by what is found among them
in_by_find : {V : Type 0} (m : FinMap byte_order V) (es : List (List ℕ × V)) → IsInOrder es
    → ((k : List ℕ) (t : V) → find byte_order k es ≡ Some t → get m k ≡ Some t) → AreIn m es
in_by_find m [] h f = tt
in_by_find m (e ∷ es) h f = (
  f e.0 e.1 (ap (λ b. cond b (Some e.1) (find byte_order e.0 es)) (itself e.0)),
  in_by_find m es (second _ _ h) (λ k t is. f k t (
      elim (eq_by_cmp byte_order k e.0) as (λ b. eq_by_cmp byte_order k e.0 ≡ b
      → cond b (Some e.1) (find byte_order k es) ≡ Some t) [
        | true ↦ λ tie.
            let none : find byte_order k es ≡ None =
            find_below byte_order total k es (below_tied byte_order total k e.0 es (equal _ tie)
            (first _ _ h)) in
            cc
        | false ↦ λ tie. is
      ] refl)),
)

found_in : {V : Type 0} (m : FinMap byte_order V) (es : List (List ℕ × V)) → AreIn m es → (q : List ℕ) (t : V)
    → find byte_order q es ≡ Some t → get m q ≡ Some t
found_in m [] p q t is = cc
found_in m (e ∷ es) p q t is =
    elim (eq_by_cmp byte_order q e.0) as (λ b. eq_by_cmp byte_order q e.0 ≡ b
    → cond b (Some e.1) (find byte_order q es) ≡ Some t → get m q ≡ Some t) [
      | true ↦ λ tie here. tied m q e.0 tie ∙ p.0 ∙ here
      | false ↦ λ tie here. found_in m es p.1 q t here
    ] refl is

pub in_same : {V : Type 0} (m n : FinMap byte_order V) → m ≡ n → AreIn n (entries m)
in_same {V} m n same =
    in_by_find n (entries m) (entries_sorted m)
    (λ k t is. ap (λ (x : FinMap byte_order V). get x k) (sym same) ∙ get-entries m k ∙ is)

-- maps that hold each other's items are the same
pub same_by_in : {V : Type 0} (m n : FinMap byte_order V) → AreIn n (entries m) → AreIn m (entries n) → m ≡ n
same_by_in m n p p' = same_gets m n (λ q.
    elim (get m q) as (λ o. get m q ≡ o → o ≡ get n q) [
      | Some t ↦ λ is. sym (found_in n (entries m) p q t (sym (get-entries m q) ∙ is))
      | None ↦ λ none. elim (get n q) as (λ o. get n q ≡ o → None ≡ o) [
        | None ↦ λ is. refl
        | Some t ↦ λ is.
            let back : get m q ≡ Some t =
            found_in m (entries n) p' q t (sym (get-entries n q) ∙ is) in
            cc
      ] refl
    ] refl)
