-- What holds of each element of a list, for the proofs of this crate and of those above it.
use Rattle.std.proofs.Common.{sym, subst, Bool, true, false, cond, List, [], ◌∷◌, ◌++◌, Some}
use Rattle.std.specs.Prelude.{reverse, find, IfSome}
use Rattle.std.specs.List.{AllByRecursion}
use Rattle.std.proofs.lemmas.List.{reverse-append}

module _ {A : Type 0} (P : A → Type 0) where
  pub all-append : (xs ys : List A) → AllByRecursion P xs → AllByRecursion P ys → AllByRecursion P (xs ++ ys)
  all-append [] ys h k = k
  all-append (x ∷ xs) ys h k = (h.0, all-append xs ys h.1 k)

  pub each-append : (xs : List A) (y : A) → AllByRecursion P xs → P y → AllByRecursion P (xs ++ y ∷ [])
  each-append xs y h k = all-append xs (y ∷ []) h (k, tt)

  pub all-reverse : (xs : List A) → AllByRecursion P xs → AllByRecursion P (reverse xs)
  all-reverse [] h = tt
  all-reverse (x ∷ xs) h = subst (AllByRecursion P) (sym (reverse-append (x ∷ []) xs)) (all-append (reverse xs) (x ∷ []) (all-reverse xs h.1) (h.0, tt))

  -- and so of the one that is found
  pub find_all : (test : A → Bool) (xs : List A) → AllByRecursion P xs → IfSome (find test xs) P
  find_all test [] h = tt
  find_all test (x ∷ xs) h = by (test x) h.0 (find_all test xs h.1)
    where
      by : (t : Bool) → P x → IfSome (find test xs) P → IfSome (cond t (Some x) (find test xs)) P
      by true here others = here
      by false here others = others
