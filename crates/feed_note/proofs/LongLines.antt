-- A next line that is too long stays so, whatever follows.
use Rattle.std.proofs.Common.{◌≡◌, refl, sym, ap, ◌∙◌, subst, ℕ, ◌<◌, ◌≤◌, not, false, List, [], ◌∷◌, ◌++◌, length, drop, cond, arith}
use Rattle.std.proofs.lemmas.Bool.{not-true as negated}
use Rattle.feed_text.specs.Limits.{line_bytes}
use Rattle.feed_text.proofs.Choices.{first_true, second_true}
use Rattle.feed_note.specs.Lines.{is_line_feed, onto_first, lines, rest, ended, HasNoLineFeed}
use Rattle.feed_note.specs.Splitting.{first_or, next_of, IsLongNext, LongNextStays}
use Rattle.feed_note.proofs.LinesCut.{lines_cut}
use Rattle.feed_note.proofs.LinesInRow.{lines-append, rest-append}

lines-cons : (b : ℕ) (t : List ℕ) → is_line_feed b ≡ false → lines (b ∷ t) ≡ onto_first b (lines t)
unfolding lines
lines-cons b t e = ap (λ f. cond f ([] ∷ lines t) (onto_first b (lines t))) e

-- a byte before stands in the next line
next-cons : (b : ℕ) (t : List ℕ) → is_line_feed b ≡ false → next_of (b ∷ t) ≡ b ∷ next_of t
unfolding rest
next-cons b t e = ap (λ ls. first_or (drop (length (ended ls)) (b ∷ t)) ls) (lines-cons b t e) ∙ by (lines t)
  where
    by : (ls : List (List ℕ)) → first_or (drop (length (ended (onto_first b ls))) (b ∷ t)) (onto_first b ls) ≡ b ∷ first_or (drop (length (ended ls)) t) ls
    by [] = refl
    by (l ∷ ls) = refl

-- a text without a line feed stands in the next line of every text that it begins
begins_next : (r more : List ℕ) → HasNoLineFeed r → length r ≤ length (next_of (r ++ more))
begins_next [] more h = omega arith
begins_next (b ∷ r) more h =
    let others : length r ≤ length (next_of (r ++ more)) = begins_next r more (second_true (not (is_line_feed b)) _ h) in
    let longer : length (next_of (b ∷ (r ++ more))) ≡ length (b ∷ next_of (r ++ more)) = ap length (next-cons b (r ++ more) (negated _ (first_true (not (is_line_feed b)) _ h))) in
    omega arith

pub long_next_stays : LongNextStays
long_next_stays bytes more h = by (lines bytes) refl h
  where
    by : (ls : List (List ℕ)) → lines bytes ≡ ls → line_bytes < length (first_or (rest bytes) ls) → IsLongNext (bytes ++ more)
    by [] e h =
        let same : next_of (bytes ++ more) ≡ next_of (rest bytes ++ more) =
        λ i. first_or (rest-append bytes more i) ((lines-append bytes more ∙ ap (λ t. t ++ lines (rest bytes ++ more)) e) i) in
        let longer : length (rest bytes) ≤ length (next_of (rest bytes ++ more)) = begins_next (rest bytes) more (lines_cut bytes).part in
        subst (λ t. line_bytes < length t) (sym same) (omega arith)
    by (l ∷ ls) e h =
        subst (λ t. line_bytes < length t) (sym (ap (first_or (rest (bytes ++ more))) (lines-append bytes more ∙ ap (λ t. t ++ lines (rest bytes ++ more)) e))) h
