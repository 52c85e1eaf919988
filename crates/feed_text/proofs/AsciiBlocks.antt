-- Blocks of ASCII.
use Rattle.std.proofs.Common.{◌≡◌, ℕ, zero, suc, ◌+◌, ◌-◌, ◌≤◌, ◌<◌, ◌%◌, ◌^◌, Bool, true, false, cond, eqb, leb, List, [], ◌∷◌, map, length, get_or, replicate, take, drop, refl, sym, ap, subst, ◌∙◌, inl, inr, arith, take-add, eqb-true, leb-false}
use Rattle.std.proofs.lemmas.List.{length-map, get_or-take, get_or-drop, get_or_past}
use Rattle.std.proofs.lemmas.Str.{IsAscii-append}
use Rattle.std.proofs.lemmas.Bool.{cases_lt}
use Rattle.std.proofs.lemmas.Simd.{length-zip2, mask_l-mod}
use Rattle.std.specs.Str.{IsAscii}
use lib.Lanes.{zip2, mask_l, top}

abbrev at_least : ℕ → ℕ → ℕ
at_least a b = cond (leb a b) 255 0

none_high : (xs : List ℕ) → mask_l (map (top 7) (zip2 at_least (replicate (length xs) 128) xs)) ≡ 0 → IsAscii xs
none_high [] e i = omega arith
none_high (x ∷ xs) e zero = go (leb 128 x) refl (omega arith)
  where
    go : (t : Bool) → leb 128 x ≡ t → ◌≡◌ {A = ℕ} (cond (top 7 (cond t 255 0)) 1 0) 0 → x < 128
    go true p q = absurd (omega arith)
    go false p q = leb-false _ _ p
none_high (x ∷ xs) e (suc i) = none_high xs (omega arith) i

mask_small : (xs ys : List ℕ) → length xs ≡ 32 → length ys ≡ 32 → mask_l (map (top 7) (zip2 at_least xs ys)) % 2 ^ 64 ≡ mask_l (map (top 7) (zip2 at_least xs ys))
mask_small xs ys p q = mask_l-mod _ 64 (omega (arith, length-map (zip2 at_least xs ys) (top 7), length-zip2 at_least xs ys (p ∙ sym q)))

pub ascii_of_mask : (xs : List ℕ) → length xs ≡ 32 → eqb (mask_l (map (top 7) (zip2 at_least (replicate 32 128) xs)) % 2 ^ 64) 0 ≡ true → IsAscii xs
ascii_of_mask xs long e =
    none_high xs (ap (λ n. mask_l (map (top 7) (zip2 at_least (replicate n 128) xs))) long ∙ sym (mask_small (replicate 32 128) xs refl long) ∙ eqb-true _ _ e)

-- the bytes up to a place, and the last ones from no later place on
pub ascii_through : (text : List ℕ) (at last : ℕ) → last ≤ at → last + 32 ≡ length text → IsAscii (take at text) → IsAscii (take 32 (drop last text)) → IsAscii text
ascii_through text at last le long before behind i =
    elim (cases_lt i at) [
      | inl lt ↦ omega (arith, get_or-take at text i 0 lt, before i)
      | inr ge ↦ elim (cases_lt i (last + 32)) [
        | inl within ↦
            let place : last + (i - last) ≡ i = omega arith in
            let lt : i - last < 32 = omega arith in
            let same : get_or text (last + (i - last)) 0 ≡ get_or text i 0 = ap (λ k. get_or text k 0) place in
            omega (arith, get_or-take 32 (drop last text) (i - last) 0 lt, get_or-drop last text (i - last) 0, same, behind (i - last))
        | inr out ↦ omega (arith, get_or_past text i 0 (omega arith))
      ]
    ]

pub ascii_more : (text : List ℕ) (at : ℕ) → IsAscii (take at text) → IsAscii (take 32 (drop at text)) → IsAscii (take (at + 32) text)
ascii_more text at before block = subst IsAscii (sym (take-add at 32 text)) (IsAscii-append (take at text) (take 32 (drop at text)) before block)
