-- What a connection carries, and what stands behind it.
use Rattle.std.proofs.Common.{◌≡◌, refl, sym, ap, ap₂, ◌∙◌, subst, ℕ, ◌+◌, ◌<◌, Bool, true, false, true≢false, cond, ◌||◌, ◌&&◌, List, [], ◌∷◌, ◌++◌, append_assoc, append-nil, length, arith, Option, None, Some, leb-true}
use Rattle.std.proofs.lemmas.Bool.{or_right}
use Rattle.std.specs.Prelude.{is_some, if◌then◌else◌, ◌==◌, codes}
use Rattle.std.specs.List.{AllByRecursion, ends_with}
use Rattle.feed_text.specs.Limits.{line_bytes}
use Rattle.feed_text.proofs.Choices.{neither_left, neither_right}
use Rattle.feed_note.specs.Lines.{HasNoLineFeed, lines, rest, ended}
use Rattle.feed_note.proofs.LinesCut.{lines_cut, no_lines, one_line, no_rest, rest_behind}
use Rattle.feed_records.specs.Connections.{OpensNone, is_marked, is_short, token_on, status_on, since_in, status_in}
use Rattle.feed_records.specs.Parting.{opens_connection, body_by, count_by, next_by, body_of, body_lines, behind_body, first_opens, is_at_next}
use Rattle.feed_records.proofs.Cutting.{whole_front}

-- ---- whether a connection begins on a line

none_by : (o : Option (List ℕ)) → is_some o ≡ false → o ≡ None
none_by None e = refl
none_by (Some x) e = absurd (true≢false e)

pub marked_opens : (line : List ℕ) → is_marked line ≡ true → opens_connection line ≡ true
marked_opens line e = ap (λ b. b || (is_some (token_on line) || is_some (status_on line))) e

pub named_opens : (line token : List ℕ) → token_on line ≡ Some token → opens_connection line ≡ true
named_opens line token e = or_right (is_marked line) _ (ap (λ o. is_some o || is_some (status_on line)) e)

pub answered_opens : (line status : List ℕ) → status_on line ≡ Some status → opens_connection line ≡ true
answered_opens line status e = or_right (is_marked line) _ (or_right (is_some (token_on line)) _ (ap is_some e))

pub opens_none : (line : List ℕ) → opens_connection line ≡ false → OpensNone line
opens_none line e = record {
  unmarked = neither_left (is_marked line) _ e;
  unnamed = none_by (token_on line) (neither_left (is_some (token_on line)) _ (neither_right (is_marked line) _ e));
  headless = none_by (status_on line) (neither_right (is_some (token_on line)) _ (neither_right (is_marked line) _ e));
}

pub none_opens : (line : List ℕ) → OpensNone line → opens_connection line ≡ false
none_opens line n =
    ap (λ b. b || (is_some (token_on line) || is_some (status_on line))) n.unmarked ∙ ap (λ o. is_some o || is_some (status_on line)) n.unnamed ∙ ap is_some n.headless

pub long_unmarked : (line : List ℕ) → line_bytes < length line → is_short line ≡ false
long_unmarked line long = by (is_short line) refl
  where
    by : (b : Bool) → is_short line ≡ b → is_short line ≡ false
    by true e = let short = leb-true (length line) line_bytes e in absurd (omega (arith, short, long))
    by false e = e

pub opens_long : (line : List ℕ) → line_bytes < length line → opens_connection line ≡ false
opens_long line long =
    let e = long_unmarked line long in
    none_opens line (record {
      unmarked = ap (λ b. b && ends_with (λ x y. x == y) line (codes "# connection")) e;
      unnamed = ap (λ b. if b then since_in line else None) e;
      headless = ap (λ b. if b then status_in line else None) e;
    })

-- ---- a line more

module _ (line : List ℕ) (later : List (List ℕ)) (end : List ℕ) where
  body_hit : opens_connection line ≡ true → body_by (line ∷ later) end ≡ []
  unfolding body_by
  body_hit e = ap (λ t. cond t [] (line ++ 10 ∷ body_by later end)) e

  pub body_miss : opens_connection line ≡ false → body_by (line ∷ later) end ≡ line ++ 10 ∷ body_by later end
  unfolding body_by
  body_miss e = ap (λ t. cond t [] (line ++ 10 ∷ body_by later end)) e

  count_hit : opens_connection line ≡ true → count_by (line ∷ later) ≡ 0
  unfolding count_by
  count_hit e = ap (λ t. cond t 0 (count_by later + 1)) e

  count_miss : opens_connection line ≡ false → count_by (line ∷ later) ≡ count_by later + 1
  unfolding count_by
  count_miss e = ap (λ t. cond t 0 (count_by later + 1)) e

  next_hit : opens_connection line ≡ true → next_by (line ∷ later) end ≡ ended (line ∷ later) ++ end
  unfolding next_by
  next_hit e = ap (λ t. cond t (ended (line ∷ later) ++ end) (next_by later end)) e

  next_miss : opens_connection line ≡ false → next_by (line ∷ later) end ≡ next_by later end
  unfolding next_by
  next_miss e = ap (λ t. cond t (ended (line ∷ later) ++ end) (next_by later end)) e

  pub regroup : line ++ 10 ∷ (ended later ++ end) ≡ ended (line ∷ later) ++ end
  regroup = sym (append_assoc (line ++ 10 ∷ []) (ended later) end ∙ append_assoc line (10 ∷ []) (ended later ++ end))

pub body_nil : (end : List ℕ) → body_by [] end ≡ end
unfolding body_by
body_nil end = refl

count_nil : count_by [] ≡ 0
unfolding count_by
count_nil = refl

next_nil : (end : List ℕ) → next_by [] end ≡ []
unfolding next_by
next_nil end = refl

-- a text that begins with a line
module _ (line behind : List ℕ) (unbroken : HasNoLineFeed line) where
  pub at_line : is_at_next (line ++ 10 ∷ behind) ≡ opens_connection line
  at_line = ap first_opens (one_line line behind unbroken)

  pub body_at : opens_connection line ≡ true → body_of (line ++ 10 ∷ behind) ≡ []
  body_at e = ap₂ body_by (one_line line behind unbroken) (rest_behind line behind unbroken) ∙ body_hit line (lines behind) (rest behind) e

  pub body_behind : opens_connection line ≡ false → body_of (line ++ 10 ∷ behind) ≡ line ++ 10 ∷ body_of behind
  body_behind e = ap₂ body_by (one_line line behind unbroken) (rest_behind line behind unbroken) ∙ body_miss line (lines behind) (rest behind) e

  pub count_behind : opens_connection line ≡ false → body_lines (line ++ 10 ∷ behind) ≡ body_lines behind + 1
  count_behind e = ap count_by (one_line line behind unbroken) ∙ count_miss line (lines behind) (rest behind) e

  pub next_behind : opens_connection line ≡ false → behind_body (line ++ 10 ∷ behind) ≡ behind_body behind
  next_behind e = ap₂ next_by (one_line line behind unbroken) (rest_behind line behind unbroken) ∙ next_miss line (lines behind) (rest behind) e

-- one that has no line
module _ (text : List ℕ) (unbroken : HasNoLineFeed text) where
  pub at_rest : is_at_next text ≡ false
  at_rest = ap first_opens (no_lines text unbroken)

  pub body_rest : body_of text ≡ text
  body_rest = ap₂ body_by (no_lines text unbroken) (no_rest text unbroken) ∙ body_nil text

  pub next_rest : behind_body text ≡ []
  next_rest = ap₂ next_by (no_lines text unbroken) (no_rest text unbroken) ∙ next_nil text

-- one where another connection begins
record AtNext (ls : List (List ℕ)) (end : List ℕ) : Type 0 where
  body_is : body_by ls end ≡ []
  next_is : next_by ls end ≡ ended ls ++ end
  count_is : count_by ls ≡ 0

at_next_by : (ls : List (List ℕ)) (end : List ℕ) → first_opens ls ≡ true → AtNext ls end
at_next_by [] end e = absurd (true≢false (sym e))
at_next_by (l ∷ ls) end e = record { body_is = body_hit l ls end e; next_is = next_hit l ls end e; count_is = count_hit l ls end e }

pub body_next : (text : List ℕ) → is_at_next text ≡ true → body_of text ≡ []
body_next text e = (at_next_by (lines text) (rest text) e).body_is

pub next_next : (text : List ℕ) → is_at_next text ≡ true → behind_body text ≡ text
next_next text e = (at_next_by (lines text) (rest text) e).next_is ∙ sym (lines_cut text).text

pub count_next : (text : List ℕ) → is_at_next text ≡ true → body_lines text ≡ 0
count_next text e = (at_next_by (lines text) (rest text) e).count_is

-- ---- all of it

data SplitBy (ls : List (List ℕ)) (end : List ℕ) : Type 0 where
  alone_by : AllByRecursion OpensNone ls → body_by ls end ≡ ended ls ++ end → next_by ls end ≡ [] → count_by ls ≡ length ls → SplitBy ls end
  before_by : (seen later : List (List ℕ)) → AllByRecursion OpensNone seen → ls ≡ seen ++ later → body_by ls end ≡ ended seen → count_by ls ≡ length seen
      → ended ls ++ end ≡ ended seen ++ next_by ls end → SplitBy ls end

split_by : (ls : List (List ℕ)) (end : List ℕ) → SplitBy ls end
split_by [] end = alone_by tt (body_nil end) (next_nil end) count_nil
split_by (l ∷ ls) end = by (opens_connection l) refl (split_by ls end)
  where
    more : opens_connection l ≡ false → SplitBy ls end → SplitBy (l ∷ ls) end
    more e (alone_by none body_is next_is count_is) =
        alone_by (opens_none l e, none) (body_miss l ls end e ∙ ap (λ t. l ++ 10 ∷ t) body_is ∙ regroup l ls end) (next_miss l ls end e ∙ next_is)
        (let c = count_miss l ls end e in omega (arith, c, count_is))
    more e (before_by seen later none is body_is count_is text_is) =
        before_by (l ∷ seen) later (opens_none l e, none) (ap (λ t. l ∷ t) is)
        (body_miss l ls end e ∙ ap (λ t. l ++ 10 ∷ t) body_is ∙ sym (append_assoc l (10 ∷ []) (ended seen)))
        (let c = count_miss l ls end e in omega (arith, c, count_is))
        (append_assoc (l ++ 10 ∷ []) (ended ls) end ∙ ap (λ t. (l ++ 10 ∷ []) ++ t) text_is ∙ sym (append_assoc (l ++ 10 ∷ []) (ended seen) (next_by ls end))
        ∙ ap (λ t. ended (l ∷ seen) ++ t) (sym (next_miss l ls end e)))

    by : (b : Bool) → opens_connection l ≡ b → SplitBy ls end → SplitBy (l ∷ ls) end
    by true e h = before_by [] (l ∷ ls) tt refl (body_hit l ls end e) (count_hit l ls end e) (sym (next_hit l ls end e))
    by false e h = more e h

-- a text is what the connection carries, alone, or before another one
pub data SplitOf (text : List ℕ) : Type 0 where
  alone : AllByRecursion OpensNone (lines text) → body_of text ≡ text → behind_body text ≡ [] → body_lines text ≡ length (lines text) → SplitOf text
  before_next : (seen : List (List ℕ)) → AllByRecursion OpensNone seen → AllByRecursion HasNoLineFeed seen → body_of text ≡ ended seen → body_lines text ≡ length seen
      → text ≡ ended seen ++ behind_body text → SplitOf text

pub split_of : (text : List ℕ) → SplitOf text
split_of text = by (split_by (lines text) (rest text))
  where
    by : SplitBy (lines text) (rest text) → SplitOf text
    by (alone_by none body_is next_is count_is) = alone none (body_is ∙ sym (lines_cut text).text) next_is count_is
    by (before_by seen later none is body_is count_is text_is) =
        before_next seen none (whole_front seen later (subst (AllByRecursion HasNoLineFeed) is (lines_cut text).whole)) body_is count_is ((lines_cut text).text ∙ text_is)

pub whole_again : (text : List ℕ) → body_of text ++ behind_body text ≡ text
whole_again text = by (split_of text)
  where
    by : SplitOf text → body_of text ++ behind_body text ≡ text
    by (alone none body_is next_is count_is) = ap₂ (λ a b. a ++ b) body_is next_is ∙ append-nil text
    by (before_next seen none whole body_is count_is text_is) = ap (λ t. t ++ behind_body text) body_is ∙ sym text_is

pub body_alone : (text : List ℕ) → AllByRecursion OpensNone (lines text) → body_of text ≡ text
body_alone text none = all_of (lines text) (rest text) none ∙ sym (lines_cut text).text
  where
    all_of : (ls : List (List ℕ)) (end : List ℕ) → AllByRecursion OpensNone ls → body_by ls end ≡ ended ls ++ end
    all_of [] end none = body_nil end
    all_of (l ∷ ls) end none = body_miss l ls end (none_opens l none.0) ∙ ap (λ t. l ++ 10 ∷ t) (all_of ls end none.1) ∙ regroup l ls end

pub body_before : (body : List (List ℕ)) (line : List ℕ) (later : List (List ℕ)) (behind : List ℕ) → AllByRecursion HasNoLineFeed (body ++ line ∷ later) → AllByRecursion OpensNone body
    → opens_connection line ≡ true → body_of (ended body ++ (ended (line ∷ later) ++ behind)) ≡ ended body
body_before [] line later behind whole none e = ap body_of (sym (regroup line later behind)) ∙ body_at line (ended later ++ behind) whole.0 e
body_before (l ∷ body) line later behind whole none e =
    ap body_of (sym (regroup l body (ended (line ∷ later) ++ behind))) ∙ body_behind l (ended body ++ (ended (line ∷ later) ++ behind)) whole.0 (none_opens l none.0)
    ∙ ap (λ t. l ++ 10 ∷ t) (body_before body line later behind whole.1 none.1 e) ∙ sym (append_assoc l (10 ∷ []) (ended body))

pub ends_none : (line : List ℕ) (later : List (List ℕ)) (behind : List ℕ) → [] ≡ ended (line ∷ later) ++ behind → ⊥
ends_none [] later behind is = let n = ap length is in absurd (omega (arith, n))
ends_none (b ∷ line) later behind is = let n = ap length is in absurd (omega (arith, n))
