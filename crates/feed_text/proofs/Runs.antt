-- A run of bytes that stand for themselves, seen a block at a time through the mask of those that
-- don't.
use Rattle.std.proofs.Common.{◌≡◌, ℕ, ◌+◌, ◌*◌, ◌<◌, ◌≤◌, ◌%◌, ◌^◌, Bool, true, false, cond, eqb, leb, zero, suc, replicate, List, [], ◌∷◌, ◌++◌, map, length, take, drop, Fits, w8, refl, sym, ap, ap₂, ◌∙◌, arith, add-one, add_comm}
use Rattle.std.specs.Prelude.{not}
use Rattle.std.specs.List.{prefix_len}
use Rattle.std.proofs.lemmas.Bool.{agree_below, agree_below_at}
use Rattle.std.proofs.lemmas.List.{length-map, length-take, take-append-drop}
use Rattle.std.proofs.lemmas.List.Sums.{prefix_len-le-length}
use Rattle.std.proofs.lemmas.Simd.{mask_l-mod, trailing_mask_l}
use lib.Bits.{bit_or, bit_xor}
use lib.Count.{count_trailing_zeros}
use lib.Lanes.{zip2, mask_l, top, Each1}
use Rattle.feed_text.specs.Reading.{is_unescaped, rest_while, is_stop}

-- ---- the mask of a block

abbrev pub hit : ℕ → ℕ → ℕ
hit a b = cond (eqb a b) 255 0

abbrev pub at_most : ℕ → ℕ → ℕ
at_most a b = cond (leb a b) 255 0

pub turned : (v : List ℕ) (n : ℕ) → length v ≡ n → zip2 at_most (zip2 bit_xor v (replicate n 2)) (replicate n 32) ≡ map (λ x. at_most (bit_xor x 2) 32) v
turned [] n e = refl
turned (x ∷ v) zero e = absurd (omega arith)
turned (x ∷ v) (suc n) e = ap (λ l. at_most (bit_xor x 2) 32 ∷ l) (turned v n (omega arith))

zip2-map : (f g : ℕ → ℕ) (xs : List ℕ) → zip2 bit_or (map f xs) (map g xs) ≡ map (λ x. bit_or (f x) (g x)) xs
zip2-map f g [] = refl
zip2-map f g (x ∷ xs) = ap (λ r. bit_or (f x) (g x) ∷ r) (zip2-map f g xs)

pub either : (f g : ℕ → ℕ) (v : List ℕ) {a b : List ℕ} → a ≡ map f v → b ≡ map g v → zip2 bit_or a b ≡ map (λ x. bit_or (f x) (g x)) v
either f g v p q = ap₂ (zip2 bit_or) p q ∙ zip2-map f g v

each_byte : (f : ℕ → ℕ) (p : ℕ → Bool) → agree_below (λ x. top 7 (f x)) p 256 ≡ true → (v : List ℕ) → Each1 (Fits w8) v → map (top 7) (map f v) ≡ map p v
each_byte f p all [] fits = refl
each_byte f p all (x ∷ xs) fits = ap₂ (λ a b. a ∷ b) (agree_below_at (λ x. top 7 (f x)) p 256 x all fits.0.fits) (each_byte f p all xs fits.1)

-- a mask that is computed lane by lane is held to a test of each of the 256 bytes
pub masked : (f : ℕ → ℕ) (p : ℕ → Bool) (v z : List ℕ) → length v ≤ 64 → Each1 (Fits w8) v → z ≡ map f v → agree_below (λ x. top 7 (f x)) p 256 ≡ true → mask_l (map (top 7) z) % 2 ^ 64 ≡ mask_l (map p v)
masked f p v z short fits e all =
    ap (λ l. mask_l l % 2 ^ 64) (ap (map (top 7)) e ∙ each_byte f p all v fits) ∙ mask_l-mod (map p v) 64 (omega (arith, length-map v p))

-- ---- from the mask to the bytes

through : (xs rest : List ℕ) → mask_l (map is_stop xs) ≡ 0 → rest_while is_unescaped (xs ++ rest) ≡ rest_while is_unescaped rest
through [] rest none = refl
through (x ∷ xs) rest none = by (is_unescaped x) none (through xs rest)
  where
    by : (v : Bool) → cond (not v) 1 0 + 2 * mask_l (map is_stop xs) ≡ 0 → (mask_l (map is_stop xs) ≡ 0 → rest_while is_unescaped (xs ++ rest) ≡ rest_while is_unescaped rest) → cond v (rest_while is_unescaped (xs ++ rest)) (x ∷ (xs ++ rest)) ≡ rest_while is_unescaped rest
    by true e others = others (omega arith)
    by false e others = absurd (omega arith)

pub up_to : (xs rest : List ℕ) → 0 < mask_l (map is_stop xs) → rest_while is_unescaped (xs ++ rest) ≡ drop (prefix_len (λ x. not (is_stop x)) xs) (xs ++ rest)
up_to [] rest some = absurd (omega arith)
up_to (x ∷ xs) rest some = by (is_unescaped x) some (up_to xs rest)
  where
    by : (v : Bool) → 0 < cond (not v) 1 0 + 2 * mask_l (map is_stop xs) → (0 < mask_l (map is_stop xs) → rest_while is_unescaped (xs ++ rest) ≡ drop (prefix_len (λ x. not (is_stop x)) xs) (xs ++ rest))
        → cond v (rest_while is_unescaped (xs ++ rest)) (x ∷ (xs ++ rest)) ≡ drop (cond (not (not v)) (1 + prefix_len (λ x. not (is_stop x)) xs) 0) (x ∷ (xs ++ rest))
    by true e others =
        let n = prefix_len (λ x. not (is_stop x)) xs in
        others (omega arith) ∙ sym (ap (λ k. drop k (x ∷ (xs ++ rest))) (add_comm 1 n ∙ add-one n))
    by false e others = refl

pub run_through_block : (text : List ℕ) (found : ℕ) → found ≡ mask_l (map is_stop (take 16 text)) → found ≡ 0 → rest_while is_unescaped (drop 16 text) ≡ rest_while is_unescaped text
run_through_block text found mask none =
    sym (ap (rest_while is_unescaped) (sym (take-append-drop 16 text)) ∙ through (take 16 text) (drop 16 text) (sym mask ∙ none))

lowest_stop : (text : List ℕ) (found : ℕ) → found ≡ mask_l (map is_stop (take 16 text)) → 0 < found → count_trailing_zeros 64 found ≡ prefix_len (λ x. not (is_stop x)) (take 16 text)
lowest_stop text found mask some = ap (count_trailing_zeros 64) mask ∙ trailing_mask_l is_stop 64 (take 16 text) (omega (arith, length-take 16 text)) (omega arith)

pub run_bound : (text : List ℕ) (found : ℕ) → found ≡ mask_l (map is_stop (take 16 text)) → 0 < found → count_trailing_zeros 64 found ≤ length text
run_bound text found mask some = omega (arith, lowest_stop text found mask some, prefix_len-le-length (λ x. not (is_stop x)) (take 16 text), length-take 16 text)

pub run_within_block : (text : List ℕ) (found : ℕ) → found ≡ mask_l (map is_stop (take 16 text)) → 0 < found → drop (count_trailing_zeros 64 found) text ≡ rest_while is_unescaped text
run_within_block text found mask some =
    let block = take 16 text in
    let whole : block ++ drop 16 text ≡ text = take-append-drop 16 text in
    sym (ap (rest_while is_unescaped) (sym whole) ∙ up_to block (drop 16 text) (omega arith) ∙ ap (drop (prefix_len (λ x. not (is_stop x)) block)) whole ∙ ap (λ (n : ℕ). drop n text) (sym (lowest_stop text found mask some)))

pub ruleset runs = (run_through_block, run_within_block, run_bound)
