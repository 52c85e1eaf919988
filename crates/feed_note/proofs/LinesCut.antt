-- A text is cut into its lines and its rest, and in no other way.
use Rattle.std.proofs.Common.{◌≡◌, refl, sym, ap, ◌∙◌, subst, ℕ, Bool, true, false, not, List, [], ◌∷◌, ◌++◌, length, drop, cond, append_assoc, eqb-true}
use Rattle.std.proofs.lemmas.Bool.{and_from as both, not-true as negated}
use Rattle.std.proofs.Math.Seq.{drop-append_seam as drop_prefix}
use Rattle.std.specs.List.{AllByRecursion}
use Rattle.feed_note.specs.Lines.{is_line_feed, onto_first, lines, rest, ended, HasNoLineFeed, IsCutInto, LinesCut, LinesAreTheOnlyCut}
use Rattle.feed_text.proofs.Choices.{first_true, second_true}

-- ---- the lines are a cut

abbrev Cut : List ℕ → List (List ℕ) → Type 0
Cut x ls = (r : List ℕ) × IsCutInto x ls r

cut_byte : (b : ℕ) (bs : List ℕ) (ls : List (List ℕ)) → is_line_feed b ≡ false → Cut bs ls → Cut (b ∷ bs) (onto_first b ls)
cut_byte b bs [] e (r, c) = (b ∷ r, record { whole = tt; part = both (not (is_line_feed b)) _ (ap not e) c.part; text = ap (λ t. b ∷ t) c.text })
cut_byte b bs (l ∷ ls) e (r, c) =
    (r, record { whole = (both (not (is_line_feed b)) _ (ap not e) c.whole.0, c.whole.1); part = c.part; text = ap (λ t. b ∷ t) c.text })

cut_feed : (b : ℕ) (bs : List ℕ) (ls : List (List ℕ)) → is_line_feed b ≡ true → Cut bs ls → Cut (b ∷ bs) ([] ∷ ls)
cut_feed b bs ls e (r, c) = (r, record { whole = (refl, c.whole); part = c.part; text = λ i. eqb-true b 10 e i ∷ c.text i })

cut : (x : List ℕ) → Cut x (lines x)
unfolding lines
cut [] = ([], record { whole = tt; part = refl; text = refl })
cut (b ∷ bs) = by (is_line_feed b) refl (cut bs)
  where
    by : (t : Bool) → is_line_feed b ≡ t → Cut bs (lines bs) → Cut (b ∷ bs) (cond t ([] ∷ lines bs) (onto_first b (lines bs)))
    by true e c = cut_feed b bs (lines bs) e c
    by false e c = cut_byte b bs (lines bs) e c

pub rest_of_cut : (x : List ℕ) (r : List ℕ) → x ≡ ended (lines x) ++ r → rest x ≡ r
unfolding rest
rest_of_cut x r e = ap (drop (length (ended (lines x)))) e ∙ drop_prefix (ended (lines x)) r

pub lines_cut : LinesCut
lines_cut x =
    let c = cut x in
    subst (IsCutInto x (lines x)) (sym (rest_of_cut x c.0 (c.1).text)) c.1

-- ---- and the only one

-- a text without a line feed has no line
pub no_lines : (r : List ℕ) → HasNoLineFeed r → lines r ≡ []
unfolding lines
no_lines [] h = refl
no_lines (b ∷ r) h =
    ap (λ t. cond t ([] ∷ lines r) (onto_first b (lines r))) (negated _ (first_true (not (is_line_feed b)) _ h))
    ∙ ap (onto_first b) (no_lines r (second_true (not (is_line_feed b)) _ h))

-- the text before the first line feed is the first line
pub one_line : (l ys : List ℕ) → HasNoLineFeed l → lines (l ++ 10 ∷ ys) ≡ l ∷ lines ys
unfolding lines
one_line [] ys h = refl
one_line (b ∷ l) ys h =
    ap (λ t. cond t ([] ∷ lines (l ++ 10 ∷ ys)) (onto_first b (lines (l ++ 10 ∷ ys)))) (negated _ (first_true (not (is_line_feed b)) _ h))
    ∙ ap (onto_first b) (one_line l ys (second_true (not (is_line_feed b)) _ h))

lines_of : (ls : List (List ℕ)) (r : List ℕ) → AllByRecursion HasNoLineFeed ls → HasNoLineFeed r → lines (ended ls ++ r) ≡ ls
lines_of [] r h k = no_lines r k
lines_of (l ∷ ls) r h k =
    ap lines (append_assoc (l ++ 10 ∷ []) (ended ls) r ∙ append_assoc l (10 ∷ []) (ended ls ++ r)) ∙ one_line l (ended ls ++ r) h.0 ∙ ap (λ t. l ∷ t) (lines_of ls r h.1 k)

pub lines_are_the_only_cut : LinesAreTheOnlyCut
lines_are_the_only_cut x ls r c =
    let same = ap lines c.text ∙ lines_of ls r c.whole c.part in
    (sym same, sym (rest_of_cut x r (c.text ∙ ap (λ t. ended t ++ r) (sym same))))

-- ---- the text behind the first line

pub no_rest : (r : List ℕ) → HasNoLineFeed r → rest r ≡ r
no_rest r h = rest_of_cut r r (ap (λ ls. ended ls ++ r) (sym (no_lines r h)))

pub rest_behind : (l ys : List ℕ) → HasNoLineFeed l → rest (l ++ 10 ∷ ys) ≡ rest ys
rest_behind l ys h = rest_of_cut (l ++ 10 ∷ ys) (rest ys) (ap (λ t. l ++ 10 ∷ t) (lines_cut ys).text ∙ regroup ∙ ap (λ ls. ended ls ++ rest ys) (sym (one_line l ys h)))
  where
    regroup : l ++ 10 ∷ (ended (lines ys) ++ rest ys) ≡ ended (l ∷ lines ys) ++ rest ys
    regroup = sym (append_assoc (l ++ 10 ∷ []) (ended (lines ys)) (rest ys) ∙ append_assoc l (10 ∷ []) (ended (lines ys) ++ rest ys))
