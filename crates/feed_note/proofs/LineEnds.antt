-- Where the first line of a text ends.
use Rattle.std.proofs.Common.{◌≡◌, refl, sym, ap, ◌∙◌, subst, ℕ, ◌+◌, ◌<◌, ◌≤◌, Bool, true, false, not, true≢false, List, [], ◌∷◌, ◌++◌, length, take, drop, cond, Some, None, arith, eqb-true, get_or, nat_lt, Option, take_all, ltb-false, ltb-true, length-drop, append_assoc}
use Rattle.memchr.specs.Find.{IsFirstByte, is_byte}
use Rattle.std.specs.List.{list_all, prefix_len, position, position_or_len}
use Rattle.std.proofs.Math.Seq.{take-add}
use Rattle.std.proofs.lemmas.List.{take-append-drop, drop-drop, length-take-le}
use Rattle.std.proofs.lemmas.List.Folds.{list_all-append}
use Rattle.std.proofs.lemmas.List.Sums.{prefix_len_stops, split_at_first, position_or_len_is}
use Rattle.std.proofs.lemmas.Bool.{and_from as both}
use Rattle.feed_text.specs.Limits.{line_bytes}
use Rattle.feed_note.specs.Lines.{is_line_feed, lines, rest, HasNoLineFeed}
use Rattle.feed_note.specs.Splitting.{EndsAt, Gives, GivesNone, IsLongNext, first_or, next_of}
use Rattle.feed_note.proofs.LinesCut.{no_lines, one_line, no_rest}

abbrev stays : ℕ → Bool
stays b = not (is_line_feed b)

-- ---- the first line feed that a search finds

pub take_one : (n x : ℕ) (xs : List ℕ) → take (1 + n) (x ∷ xs) ≡ x ∷ take n xs
take_one n x xs = grind arith

unbroken_prefix : (xs : List ℕ) → HasNoLineFeed (take (position_or_len is_line_feed xs) xs)
unbroken_prefix [] = refl
unbroken_prefix (x ∷ xs) = by (stays x) refl (unbroken_prefix xs)
  where
    by : (t : Bool) → stays x ≡ t → HasNoLineFeed (take (prefix_len stays xs) xs) → list_all stays (take (cond t (1 + prefix_len stays xs) 0) (x ∷ xs)) ≡ true
    by true e h = ap (list_all stays) (take_one (prefix_len stays xs) x xs) ∙ both (stays x) _ e h
    by false e h = refl

-- where none is found, there is none
pub unbroken_all : (xs : List ℕ) → position is_line_feed xs ≡ None → HasNoLineFeed xs
unbroken_all xs e = by (nat_lt (position_or_len is_line_feed xs) (length xs)) refl e
  where
    by : (t : Bool) → nat_lt (position_or_len is_line_feed xs) (length xs) ≡ t → cond t (Some (position_or_len is_line_feed xs)) None ≡ None → HasNoLineFeed xs
    by true is e = cc
    by false is e =
        subst HasNoLineFeed (take_all (position_or_len is_line_feed xs) xs (omega (arith, ltb-false _ _ is))) (unbroken_prefix xs)

ends_here : (xs : List ℕ) → position_or_len is_line_feed xs < length xs → EndsAt xs (position_or_len is_line_feed xs)
ends_here xs h =
    let here : ℕ = position_or_len is_line_feed xs in
    let feed : get_or xs here 0 ≡ 10 = eqb-true (get_or xs here 0) 10 (passes (get_or xs here 0) (prefix_len_stops stays xs 0 h)) in
    record { within = h; line = unbroken_prefix xs; whole = split_at_first is_line_feed xs 0 h ∙ ap (λ b. take here xs ++ b ∷ drop (here + 1) xs) feed }
  where
    passes : (b : ℕ) → stays b ≡ false → is_line_feed b ≡ true
    passes b e = by (is_line_feed b) refl e
      where
        by : (t : Bool) → is_line_feed b ≡ t → not t ≡ false → is_line_feed b ≡ true
        by true is e = is
        by false is e = absurd (true≢false e)

-- where one is found, the first line ends
pub ends_at : (xs : List ℕ) (k : ℕ) → position is_line_feed xs ≡ Some k → EndsAt xs k
ends_at xs k e = by (nat_lt (position_or_len is_line_feed xs) (length xs)) refl e
  where
    by : (t : Bool) → nat_lt (position_or_len is_line_feed xs) (length xs) ≡ t → cond t (Some (position_or_len is_line_feed xs)) None ≡ Some k → EndsAt xs k
    by true is e = let same : position_or_len is_line_feed xs ≡ k = cc in subst (EndsAt xs) same (ends_here xs (omega (arith, ltb-true _ _ is)))
    by false is e = cc

-- ---- a search that goes on behind bytes without a line feed

pub unbroken_both : (xs ys : List ℕ) → HasNoLineFeed xs → HasNoLineFeed ys → HasNoLineFeed (xs ++ ys)
unbroken_both xs ys h k = list_all-append stays xs ys ∙ both (list_all stays xs) (list_all stays ys) h k

pub unbroken_behind : (xs : List ℕ) (n : ℕ) → HasNoLineFeed (take n xs) → HasNoLineFeed (drop n xs) → HasNoLineFeed xs
unbroken_behind xs n h k = subst HasNoLineFeed (take-append-drop n xs) (unbroken_both (take n xs) (drop n xs) h k)

pub ends_behind : (xs : List ℕ) (n k : ℕ) → n ≤ length xs → HasNoLineFeed (take n xs) → EndsAt (drop n xs) k → EndsAt xs (n + k)
ends_behind xs n k fits h at =
    let within : k < length (drop n xs) = at.within in
    let cut : take (n + k) xs ≡ take n xs ++ take k (drop n xs) = take-add n k xs in
    record {
      within = omega (arith, length-drop n xs);
      line = subst HasNoLineFeed (sym cut) (unbroken_both (take n xs) (take k (drop n xs)) h at.line);
      whole = sym (take-append-drop n xs)
          ∙ ap (λ t. take n xs ++ t) at.whole
          ∙ sym (append_assoc (take n xs) (take k (drop n xs)) (10 ∷ drop (k + 1) (drop n xs)))
          ∙ ap (λ t. t ++ 10 ∷ drop (k + 1) (drop n xs)) (sym cut)
          ∙ ap (λ t. take (n + k) xs ++ 10 ∷ t) (drop-drop (k + 1) n xs ∙ ap (λ m. drop m xs) same);
    }
  where
    same : n + (k + 1) ≡ n + k + 1
    same = omega arith

-- ---- what a splitter gives

pub gives : (old new : List ℕ) (end : ℕ) → EndsAt old end → end ≤ line_bytes → new ≡ drop (end + 1) old → Gives old (take end old) new
gives old new end at short e =
    let within : end < length old = at.within in
    record {
      first = at.whole ∙ ap (λ t. take end old ++ 10 ∷ t) (sym e);
      whole = at.line;
      short = subst (λ n. n ≤ line_bytes) (sym (length-take-le end old (omega arith))) short;
    }

pub gives_none : (old new : List ℕ) → HasNoLineFeed old → length old ≤ line_bytes → new ≡ old → GivesNone old new
gives_none old new h short e = record { none = no_lines old h; short = subst (λ t. length t ≤ line_bytes) (sym (no_rest old h)) short; same = e }

next_unfinished : (old : List ℕ) → HasNoLineFeed old → next_of old ≡ old
next_unfinished old h = ap (first_or (rest old)) (no_lines old h) ∙ no_rest old h

next_ended : (old : List ℕ) (end : ℕ) → EndsAt old end → next_of old ≡ take end old
next_ended old end at = ap (first_or (rest old)) (ap lines at.whole ∙ one_line (take end old) (drop (end + 1) old) at.line)

pub long_unfinished : (old : List ℕ) → HasNoLineFeed old → line_bytes < length old → IsLongNext old
long_unfinished old h long = subst (λ t. line_bytes < length t) (sym (next_unfinished old h)) long

pub long_ended : (old : List ℕ) (end : ℕ) → EndsAt old end → line_bytes < end → IsLongNext old
long_ended old end at long =
    let within : end < length old = at.within in
    subst (λ n. line_bytes < n) (sym (ap length (next_ended old end at) ∙ length-take-le end old (omega arith))) long

-- no line is given, of the bytes that are left

pub too_long : (left old : List ℕ) (end : ℕ) → left ≡ old → EndsAt left end → line_bytes < end → IsLongNext old
too_long left old end e at long = subst IsLongNext e (long_ended left end at long)

pub too_long_unfinished : (left old : List ℕ) → left ≡ old → HasNoLineFeed left → line_bytes < length left → IsLongNext old
too_long_unfinished left old e h long = subst IsLongNext e (long_unfinished left h long)

pub not_yet : (left old new : List ℕ) → left ≡ old → new ≡ old → HasNoLineFeed left → length left ≤ line_bytes → GivesNone old new
not_yet left old new e f h short = gives_none old new (subst HasNoLineFeed e h) (subst (λ t. length t ≤ line_bytes) e short) f

-- ---- a search for the byte

is_false : (t : Bool) → ¬ (t ≡ true) → t ≡ false
is_false true h = absurd (h refl)
is_false false h = refl

first_is : (xs : List ℕ) (k : ℕ) → k ≤ length xs → ((j : ℕ) → j < k → ¬ (is_line_feed (get_or xs j 0) ≡ true)) → (k < length xs → is_line_feed (get_or xs k 0) ≡ true)
    → position_or_len is_line_feed xs ≡ k
first_is xs k fits none here = position_or_len_is is_line_feed xs k 0 fits (λ j lt. is_false (is_line_feed (get_or xs j 0)) (none j lt)) here

no_position : (xs : List ℕ) → position_or_len is_line_feed xs ≡ length xs → position is_line_feed xs ≡ None
no_position xs e = by (nat_lt (position_or_len is_line_feed xs) (length xs)) refl
  where
    by : (t : Bool) → nat_lt (position_or_len is_line_feed xs) (length xs) ≡ t → cond t (Some (position_or_len is_line_feed xs)) None ≡ None
    by false is = refl
    by true is = absurd (omega (arith, ltb-true _ _ is, e))

some_position : (xs : List ℕ) (k : ℕ) → k < length xs → position_or_len is_line_feed xs ≡ k → position is_line_feed xs ≡ Some k
some_position xs k lt e = by (nat_lt (position_or_len is_line_feed xs) (length xs)) refl
  where
    by : (t : Bool) → nat_lt (position_or_len is_line_feed xs) (length xs) ≡ t → cond t (Some (position_or_len is_line_feed xs)) None ≡ Some k
    by true is = ap Some e
    by false is = absurd (omega (arith, ltb-false _ _ is, e, lt))

-- what a search finds is the first place that passes
pub found_first : (xs : List ℕ) (r : Option ℕ) → IsFirstByte (is_byte 10) xs r → r ≡ position is_line_feed xs
found_first xs None h = sym (no_position xs (first_is xs (length xs) (omega arith) (λ j lt. h j (omega arith) lt) (λ lt. absurd (omega arith))))
found_first xs (Some k) (n, p) = sym (some_position xs k n.high (first_is xs k (omega (arith, n.high)) (λ j lt. n.before j (omega arith) lt) (λ lt. p)))
