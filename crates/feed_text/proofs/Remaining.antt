-- The parts at the start of a text, one after the other.
use Rattle.std.proofs.Common.{◌≡◌, ◌≤◌, ℕ, zero, suc, ◌<◌, Bool, true, false, cond, eqb, List, [], ◌∷◌, length, drop, Some, None, refl, sym, ap, ◌∙◌, arith}
use Rattle.feed_text.specs.Ascii.{comma}
use Rattle.feed_text.specs.Reading.{Prefix, first, parts_with, left_up_to, parts_left}
use Rattle.feed_text.proofs.Parts.{Shortens}
use Rattle.feed_text.proofs.Bounds.{drop_shorter}

abbrev others_by : {A : Type 0} → (List ℕ → List A) → List ℕ → List A
others_by others rest = cond (eqb (first rest) comma) (others (drop 1 rest)) []

few : {A : Type 0} (y : A) (n : ℕ) (b : Bool) (ys : List A) → suc (length ys) ≤ n → length (y ∷ cond b ys []) ≤ n
few y n true ys le = le
few y n false ys le = omega arith

module _ {A : Type 0} (part : List ℕ → Prefix A) (shortens : Shortens part) where
  -- the bound does not matter
  up_to_same : (n m : ℕ) (text : List ℕ) → length text < n → length text < m → left_up_to part n text ≡ left_up_to part m text
  unfolding left_up_to
  up_to_same zero m text lt lt' = absurd (omega arith)
  up_to_same (suc n) zero text lt lt' = absurd (omega arith)
  up_to_same (suc n) (suc m) text lt lt' = by (part text) refl (up_to_same n m)
    where
      by : (f : Prefix A) → part text ≡ f → ((t : List ℕ) → length t < n → length t < m → left_up_to part n t ≡ left_up_to part m t) → parts_with (others_by (left_up_to part n)) f ≡ parts_with (others_by (left_up_to part m)) f
      by None e same = refl
      by (Some x) e same =
          let shorter = shortens text x.0 x.1 e in
          let rest : left_up_to part n (drop 1 x.1) ≡ left_up_to part m (drop 1 x.1) = same (drop 1 x.1) (omega (arith, drop_shorter x.1)) (omega (arith, drop_shorter x.1)) in
          ap (λ (ys : List A). x.0 ∷ cond (eqb (first x.1) comma) ys []) rest

  left_step : (text : List ℕ) → parts_left part text ≡ parts_with (others_by (parts_left part)) (part text)
  unfolding left_up_to parts_left
  left_step text = by (part text) refl
    where
      by : (f : Prefix A) → part text ≡ f → parts_with (others_by (left_up_to part (length text))) f ≡ parts_with (others_by (parts_left part)) f
      by None e = refl
      by (Some x) e =
          let shorter = shortens text x.0 x.1 e in
          let small : length (drop 1 x.1) < length text = omega (arith, drop_shorter x.1) in
          let rest : left_up_to part (length text) (drop 1 x.1) ≡ parts_left part (drop 1 x.1) = up_to_same (length text) (suc (length (drop 1 x.1))) (drop 1 x.1) small (omega arith) in
          ap (λ (ys : List A). x.0 ∷ cond (eqb (first x.1) comma) ys []) rest

  pub nothing_remains : (text : List ℕ) → part text ≡ None → parts_left part text ≡ []
  nothing_remains text e = left_step text ∙ ap (parts_with (others_by (parts_left part))) e

  -- nothing is left of nothing
  pub nothing_of_nothing : parts_left part [] ≡ []
  nothing_of_nothing = by (part []) refl
    where
      by : (f : Prefix A) → part [] ≡ f → parts_left part [] ≡ []
      by None e = nothing_remains [] e
      by (Some x) e = absurd (omega (arith, shortens [] x.0 x.1 e))

  pub one_and_others : (text : List ℕ) (y : A) (rest : List ℕ) → part text ≡ Some (y, rest) → parts_left part text ≡ y ∷ parts_left part (cond (eqb (first rest) comma) (drop 1 rest) [])
  one_and_others text y rest e = left_step text ∙ ap (parts_with (others_by (parts_left part))) e ∙ ap (λ (ys : List A). y ∷ ys) (here (eqb (first rest) comma) (drop 1 rest))
    where
      here : (b : Bool) (t : List ℕ) → cond b (parts_left part t) [] ≡ parts_left part (cond b t [])
      here true t = refl
      here false t = sym nothing_of_nothing

  -- there are no more parts than bytes
  up_to_length : (n : ℕ) (text : List ℕ) → length text < n → length (left_up_to part n text) ≤ length text
  unfolding left_up_to
  up_to_length zero text lt = absurd (omega arith)
  up_to_length (suc n) text lt = by (part text) refl (up_to_length n)
    where
      by : (f : Prefix A) → part text ≡ f → ((t : List ℕ) → length t < n → length (left_up_to part n t) ≤ length t) → length (parts_with (others_by (left_up_to part n)) f) ≤ length text
      by None e same = omega arith
      by (Some x) e same =
          let shorter = shortens text x.0 x.1 e in
          let others = same (drop 1 x.1) (omega (arith, drop_shorter x.1)) in
          few x.0 (length text) (eqb (first x.1) comma) (left_up_to part n (drop 1 x.1)) (omega (arith, drop_shorter x.1, others))

  pub no_more_than_bytes : (text : List ℕ) → length (parts_left part text) ≤ length text
  unfolding parts_left
  no_more_than_bytes text = up_to_length (suc (length text)) text (omega arith)
