-- Lemmas on a list of which each element is made into another one.
use Rattle.std.proofs.Common.{◌≡◌, sym, ap, ◌∙◌, ◌+◌, ◌<◌, ◌++◌, ◌∷◌, [], List, ℕ, length, take, arith, append_assoc, map}
use Rattle.std.specs.Prelude.{slice_index_or}
use Rattle.std.proofs.lemmas.List.{take_more, get_or-map, map-append, length-map}

module _ {X Y : Type 0} (f : X → Y) (xs : List X) (i : ℕ) (d x : X) (inside : i < length xs) (is : slice_index_or xs i d ≡ x) where
  pub mapped_at : (e : Y) → slice_index_or (map f xs) i e ≡ f x
  mapped_at e = get_or-map f xs i d e inside ∙ ap f is

  mapped_next : take (i + 1) (map f xs) ≡ take i (map f xs) ++ f x ∷ []
  mapped_next = take_more (map f xs) i (f d) (omega (arith, inside, length-map xs f)) ∙ ap (λ y. take i (map f xs) ++ y ∷ []) (mapped_at (f d))

  -- what was made of the elements so far, and of this one
  pub more_mapped : {Z : Type 0} (g : Y → Z) (before middle now : List Z) → middle ≡ before ++ map g (take i (map f xs)) → now ≡ middle ++ g (f x) ∷ []
      → now ≡ before ++ map g (take (i + 1) (map f xs))
  more_mapped g before middle now so_far more =
      more ∙ ap (λ l. l ++ g (f x) ∷ []) so_far ∙ append_assoc before (map g (take i (map f xs))) (g (f x) ∷ [])
      ∙ ap (λ l. before ++ l) (sym (map-append g (take i (map f xs)) (f x ∷ [])) ∙ ap (map g) (sym mapped_next))
