-- Lemmas on the words of a line.
use Rattle.std.proofs.Common.{◌≡◌, refl, ap, ◌∙◌, subst, ℕ, ◌+◌, ◌<◌, Bool, true, false, not, true≢false, List, [], ◌∷◌, ◌++◌, length, take, drop, cond, Some, None, arith, eqb-true, get_or, nat_lt, take_all, ltb-false, ltb-true}
use Rattle.std.specs.List.{list_all, prefix_len, position, position_or_len}
use Rattle.std.proofs.lemmas.List.Sums.{prefix_len_stops, split_at_first}
use Rattle.feed_play.specs.Script.{is_space, words}
use Rattle.std.proofs.lemmas.Bool.{not-true as negated, and_from as both}
use Rattle.feed_text.proofs.Choices.{first_true, second_true}
use Rattle.feed_note.proofs.LineEnds.{take_one}

abbrev pub stays : ℕ → Bool
stays b = not (is_space b)

-- a text without a space is one word
pub one_word : (w : List ℕ) → list_all stays w ≡ true → words w ≡ w ∷ []
unfolding words
one_word [] e = refl
one_word (b ∷ w) e =
    rw (negated (is_space b) (first_true (stays b) _ e)) (rw (one_word w (second_true (stays b) _ e)) refl)

-- a word and a space, and what is behind
pub word_more : (w behind : List ℕ) → list_all stays w ≡ true → words (w ++ 32 ∷ behind) ≡ w ∷ words behind
unfolding words
word_more [] behind e = refl
word_more (b ∷ w) behind e =
    rw (negated (is_space b) (first_true (stays b) _ e)) (rw (word_more w behind (second_true (stays b) _ e)) refl)

-- ---- the first space that a search finds

prefix_stays : (xs : List ℕ) → list_all stays (take (position_or_len is_space xs) xs) ≡ true
prefix_stays [] = refl
prefix_stays (x ∷ xs) = by (stays x) refl (prefix_stays xs)
  where
    by : (t : Bool) → stays x ≡ t → list_all stays (take (prefix_len stays xs) xs) ≡ true → list_all stays (take (cond t (1 + prefix_len stays xs) 0) (x ∷ xs)) ≡ true
    by true e h = ap (list_all stays) (take_one (prefix_len stays xs) x xs) ∙ both (stays x) _ e h
    by false e h = refl

-- where none is found, there is one word
pub none_found : (xs : List ℕ) → position is_space xs ≡ None → words xs ≡ xs ∷ []
none_found xs e = one_word xs (by (nat_lt (position_or_len is_space xs) (length xs)) refl e)
  where
    by : (t : Bool) → nat_lt (position_or_len is_space xs) (length xs) ≡ t → cond t (Some (position_or_len is_space xs)) None ≡ None → list_all stays xs ≡ true
    by true is e = cc
    by false is e =
        subst (λ l. list_all stays l ≡ true) (take_all (position_or_len is_space xs) xs (omega (arith, ltb-false _ _ is))) (prefix_stays xs)

passes : (b : ℕ) → stays b ≡ false → is_space b ≡ true
passes b e = by (is_space b) refl e
  where
    by : (t : Bool) → is_space b ≡ t → not t ≡ false → is_space b ≡ true
    by true is e = is
    by false is e = absurd (true≢false e)

found_here : (xs : List ℕ) → position_or_len is_space xs < length xs → words xs ≡ take (position_or_len is_space xs) xs ∷ words (drop (position_or_len is_space xs + 1) xs)
found_here xs h =
    let here : ℕ = position_or_len is_space xs in
    let stop : get_or xs here 0 ≡ 32 = eqb-true (get_or xs here 0) 32 (passes (get_or xs here 0) (prefix_len_stops stays xs 0 h)) in
    let whole : xs ≡ take here xs ++ 32 ∷ drop (here + 1) xs = split_at_first is_space xs 0 h ∙ ap (λ b. take here xs ++ b ∷ drop (here + 1) xs) stop in
    ap words whole ∙ word_more (take here xs) (drop (here + 1) xs) (prefix_stays xs)

-- where one is found, the first word ends
pub found_at : (xs : List ℕ) (k : ℕ) → position is_space xs ≡ Some k → (k < length xs) × (words xs ≡ take k xs ∷ words (drop (k + 1) xs))
found_at xs k e = by (nat_lt (position_or_len is_space xs) (length xs)) refl e
  where
    by : (t : Bool) → nat_lt (position_or_len is_space xs) (length xs) ≡ t → cond t (Some (position_or_len is_space xs)) None ≡ Some k
        → (k < length xs) × (words xs ≡ take k xs ∷ words (drop (k + 1) xs))
    by true is e =
        let same : position_or_len is_space xs ≡ k = cc in
        subst (λ n. (n < length xs) × (words xs ≡ take n xs ∷ words (drop (n + 1) xs))) same (omega (arith, ltb-true _ _ is), found_here xs (omega (arith, ltb-true _ _ is)))
    by false is e = cc
