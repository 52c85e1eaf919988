-- What is at the front of a record that is read connection by connection.
use Rattle.std.proofs.Common.{◌≡◌, refl, sym, ap, ap₂, ◌∙◌, subst, ℕ, ◌+◌, ◌<◌, min, Bool, true, false, true≢false, cond, not, ◌||◌, ◌&&◌, List, [], ◌∷◌, ◌++◌, append_assoc, length, length-append, drop, arith, Option, Some, eqb-true}
use Rattle.std.proofs.lemmas.Bool.{not-true as negated}
use Rattle.std.specs.Prelude.{◌==◌, option_map, slice_index_or}
use Rattle.feed_text.specs.Limits.{line_bytes}
use Rattle.feed_text.proofs.Choices.{first_true, second_true}
use Rattle.feed_text.proofs.PrefixReaders.{map_some}
use Rattle.feed_note.specs.Lines.{HasNoLineFeed, is_line_feed, onto_first, lines, rest, ended}
use Rattle.feed_note.proofs.LinesCut.{lines_cut, one_line, no_lines}
use Rattle.feed_records.specs.Connections.{is_blank_line, is_chunked}
use Rattle.feed_records.specs.Fronts.{IsFront, IsLineAtFront, IsLineBefore}
use Rattle.feed_records.specs.Parting.{opens_connection, body_by, body_of, body_lines, behind_body, first_opens, is_at_next, first_is_blank, is_at_blank, most}
use Rattle.feed_records.specs.ScreenLines.{front_by}
use Rattle.feed_records.specs.declared.reading.Front.{Front}
use Rattle.feed_records.specs.declared.reading.Front.TheVariants.{Line, Rest, Long}
use Rattle.feed_records.proofs.Bodies.{opens_long, body_nil, body_miss, at_line, at_rest, body_at, body_behind, count_behind, next_behind, body_rest, body_next, whole_again}
use Rattle.feed_records.proofs.Passing.{cancel}

-- ---- a line that is too long

-- the first bytes of the first line, if there is one
abbrev onto_all : List ℕ → List (List ℕ) → List (List ℕ)
onto_all front [] = []
onto_all front (l ∷ ls) = (front ++ l) ∷ ls

onto_none : (ls : List (List ℕ)) → ls ≡ onto_all [] ls
onto_none [] = refl
onto_none (l ∷ ls) = refl

onto_more : (b : ℕ) (bs : List ℕ) (ls : List (List ℕ)) → onto_first b (onto_all bs ls) ≡ onto_all (b ∷ bs) ls
onto_more b bs [] = refl
onto_more b bs (l ∷ ls) = refl

lines_onto : (front behind : List ℕ) → HasNoLineFeed front → lines (front ++ behind) ≡ onto_all front (lines behind)
unfolding lines
lines_onto [] behind h = onto_none (lines behind)
lines_onto (b ∷ bs) behind h =
    ap (λ t. cond t ([] ∷ lines (bs ++ behind)) (onto_first b (lines (bs ++ behind)))) (negated _ (first_true (not (is_line_feed b)) _ h))
    ∙ ap (onto_first b) (lines_onto bs behind (second_true (not (is_line_feed b)) _ h)) ∙ onto_more b bs (lines behind)

pub not_so_many : (n m : ℕ) → m < n → (n == m) ≡ false
not_so_many n m h = by (n == m) refl
  where
    by : (b : Bool) → (n == m) ≡ b → (n == m) ≡ false
    by true e = let same = eqb-true n m e in absurd (omega (arith, same, h))
    by false e = e

long_filled : (line : List ℕ) → 1 < length line → is_blank_line line ≡ false
long_filled line h =
    ap (λ b. b || (length line == 1 && slice_index_or line 0 0 == 13)) (not_so_many (length line) 0 (omega (arith, h)))
    ∙ ap (λ b. b && slice_index_or line 0 0 == 13) (not_so_many (length line) 1 h)

module _ (front : List ℕ) (long : line_bytes < length front) where
  longer : (l : List ℕ) → line_bytes < length (front ++ l)
  longer l = let n = length-append front l in omega (arith, n, long)

  not_opened : (ls : List (List ℕ)) → first_opens (onto_all front ls) ≡ false
  not_opened [] = refl
  not_opened (l ∷ ls) = opens_long (front ++ l) (longer l)

  not_blank : (ls : List (List ℕ)) → first_is_blank (onto_all front ls) ≡ false
  not_blank [] = refl
  not_blank (l ∷ ls) = let n = longer l in long_filled (front ++ l) (omega (arith, n))

  module _ (behind : List ℕ) (unbroken : HasNoLineFeed front) where
    pub long_at : is_at_next (front ++ behind) ≡ false
    long_at = ap first_opens (lines_onto front behind unbroken) ∙ not_opened (lines behind)

    pub long_blank : is_at_blank (front ++ behind) ≡ false
    long_blank = ap first_is_blank (lines_onto front behind unbroken) ∙ not_blank (lines behind)

    pub long_body : (more : List ℕ) × (body_of (front ++ behind) ≡ front ++ more)
    long_body = by (lines behind) (lines_onto front behind unbroken)
      where
        by : (ls : List (List ℕ)) → lines (front ++ behind) ≡ onto_all front ls → (more : List ℕ) × (body_of (front ++ behind) ≡ front ++ more)
        by [] e = (
          behind,
          ap (λ ls. body_by ls (rest (front ++ behind))) e ∙ body_nil (rest (front ++ behind))
              ∙ sym ((lines_cut (front ++ behind)).text ∙ ap (λ ls. ended ls ++ rest (front ++ behind)) e),
        )
        by (l ∷ ls) e = (
          l ++ 10 ∷ body_by ls (rest (front ++ behind)),
          ap (λ ls. body_by ls (rest (front ++ behind))) e ∙ body_miss (front ++ l) ls (rest (front ++ behind)) (opens_long (front ++ l) (longer l))
              ∙ append_assoc front l (10 ∷ body_by ls (rest (front ++ behind))),
        )

-- ---- what is at the front

pub line_at : (front text : List ℕ) (h : IsLineAtFront front text) → is_at_next text ≡ opens_connection h.line
line_at front text h = ap is_at_next h.text_is ∙ at_line h.line h.behind h.unbroken

pub blank_line : (line behind : List ℕ) → HasNoLineFeed line → is_at_blank (line ++ 10 ∷ behind) ≡ is_blank_line line
blank_line line behind h = ap first_is_blank (one_line line behind h)

pub blank_at : (front text : List ℕ) (h : IsLineAtFront front text) → is_at_blank text ≡ is_blank_line h.line
blank_at front text h = ap is_at_blank h.text_is ∙ ap first_is_blank (one_line h.line h.behind h.unbroken)

-- on what is no line nothing begins
pub no_line_at : (found : Front) (front text : List ℕ) → ¬ (found ≡ Line) → IsFront found front text → is_at_next text ≡ false
no_line_at Line front text n h = absurd (n refl)
no_line_at Rest front text n h = at_rest text (subst HasNoLineFeed (sym h.text_is) h.unbroken)
no_line_at Long front text n h = ap is_at_next h.text_is ∙ long_at front h.long h.behind h.unbroken

pub no_blank_at : (found : Front) (front text : List ℕ) → ¬ (found ≡ Line) → IsFront found front text → is_at_blank text ≡ false
no_blank_at Line front text n h = absurd (n refl)
no_blank_at Rest front text n h = ap first_is_blank (no_lines text (subst HasNoLineFeed (sym h.text_is) h.unbroken))
no_blank_at Long front text n h = ap is_at_blank h.text_is ∙ long_blank front h.long h.behind h.unbroken

pub next_is_line : (found : Front) (front text : List ℕ) → IsFront found front text → is_at_next text ≡ true → IsLineAtFront front text
next_is_line Line front text h e = h
next_is_line Rest front text h e = absurd (true≢false (sym e ∙ no_line_at Rest front text (λ r. absurd (cc)) h))
next_is_line Long front text h e = absurd (true≢false (sym e ∙ no_line_at Long front text (λ r. absurd (cc)) h))

body_front : (found : Front) (front text : List ℕ) → IsFront found front text → is_at_next text ≡ false → IsFront found front (body_of text)
body_front Line front text h e = record {
  line = h.line;
  behind = body_of h.behind;
  unbroken = h.unbroken;
  short = h.short;
  front_is = h.front_is;
  text_is = ap body_of h.text_is ∙ body_behind h.line h.behind h.unbroken (sym (line_at front text h) ∙ e);
}
body_front Rest front text h e = record { unbroken = h.unbroken; short = h.short; text_is = body_rest text (subst HasNoLineFeed (sym h.text_is) h.unbroken) ∙ h.text_is }
body_front Long front text h e =
    let m = long_body front h.long h.behind h.unbroken in
    record { behind = m.0; unbroken = h.unbroken; long = h.long; text_is = ap body_of h.text_is ∙ m.1 }

-- the first byte at the front is that of the text
chunk_line : (line xs ys : List ℕ) → is_chunked (line ++ 10 ∷ xs) ≡ is_chunked (line ++ 10 ∷ ys)
chunk_line [] xs ys = refl
chunk_line (b ∷ line) xs ys = refl

chunk_long : (front behind : List ℕ) → 0 < length front → is_chunked front ≡ is_chunked (front ++ behind)
chunk_long [] behind h = absurd (omega (arith, h))
chunk_long (b ∷ front) behind h = refl

pub chunk_front : (found : Front) (front text : List ℕ) → IsFront found front text → is_chunked front ≡ is_chunked text
chunk_front Line front text h = ap is_chunked h.front_is ∙ chunk_line h.line [] h.behind ∙ ap is_chunked (sym h.text_is)
chunk_front Rest front text h = ap is_chunked (sym h.text_is)
chunk_front Long front text h = let n = h.long in chunk_long front h.behind (omega (arith, n)) ∙ ap is_chunked (sym h.text_is)

-- ---- what is at the front of a connection

pub look_left : (old new : Option (List ℕ)) (body : List ℕ) → option_map body_of old ≡ Some body → ((t : List ℕ) → old ≡ Some t → new ≡ Some t) → option_map body_of new ≡ Some body
look_left old new body e k = let t = map_some body_of old body e in ap (option_map body_of) (k t.0 t.1) ∙ ap Some t.2

abbrev pub end_of : ℕ → List ℕ → ℕ × List ℕ
end_of count text = (min (count + body_lines text) most, behind_body text)

pub look_beyond : (old new : Option (List ℕ)) (count more : ℕ) (end : ℕ × List ℕ) → option_map (end_of count) old ≡ Some end → more ≡ count → ((t : List ℕ) → old ≡ Some t → new ≡ Some t)
    → option_map (end_of more) new ≡ Some end
look_beyond old new count more end e same k =
    let t = map_some (end_of count) old end e in
    ap (option_map (end_of more)) (k t.0 t.1) ∙ ap Some (ap (λ n. end_of n t.0) same ∙ t.2)

-- where another connection begins nothing is left of this one
pub look_over : (old : Option (List ℕ)) (body front : List ℕ) (over : Bool) → option_map body_of old ≡ Some body → over ≡ true → ((t : List ℕ) → old ≡ Some t → over ≡ is_at_next t)
    → IsFront Rest (front_by over front) body
look_over old body front over e is k =
    let t = map_some body_of old body e in
    subst (λ o. IsFront Rest (front_by o front) body) (sym is)
    (subst (λ b. IsFront Rest [] b) (sym (body_next t.0 (sym (k t.0 t.1) ∙ is)) ∙ t.2) (record { unbroken = refl; short = omega arith; text_is = refl }))

pub look_on : (old : Option (List ℕ)) (body front : List ℕ) (over : Bool) (found : Front) → option_map body_of old ≡ Some body → over ≡ false
    → ((t : List ℕ) → old ≡ Some t → over ≡ is_at_next t) → ((t : List ℕ) → old ≡ Some t → IsFront found front t) → IsFront found (front_by over front) body
look_on old body front over found e is k h =
    let t = map_some body_of old body e in
    subst (λ o. IsFront found (front_by o front) body) (sym is)
    (subst (λ b. IsFront found front b) t.2 (body_front found front t.0 (h t.0 t.1) (sym (k t.0 t.1) ∙ is)))

pub front_on : (over : Bool) (front : List ℕ) → over ≡ false → front_by over front ≡ front
front_on over front is = ap (λ o. front_by o front) is

pub front_over : (over : Bool) (front : List ℕ) → over ≡ true → front_by over front ≡ []
front_over over front is = ap (λ o. front_by o front) is

-- ---- a line of a connection is passed

record PassedIn (text behind front : List ℕ) : Type 0 where
  later : List ℕ
  before : IsLineBefore later front (Some text)
  body_is : body_of later ≡ behind
  count_is : body_lines text ≡ body_lines later + 1
  next_is : behind_body text ≡ behind_body later

not_begun : (text line behind : List ℕ) → HasNoLineFeed line → body_of text ≡ line ++ 10 ∷ behind → text ≡ line ++ 10 ∷ (behind ++ behind_body text) → opens_connection line ≡ false
not_begun text line behind unbroken e is = by (opens_connection line) refl
  where
    by : (b : Bool) → opens_connection line ≡ b → opens_connection line ≡ false
    by true o =
        let n = ap length (sym e ∙ ap body_of is ∙ body_at line (behind ++ behind_body text) unbroken o) in
        let m = length-append line (10 ∷ behind) in
        absurd (omega (arith, n, m))
    by false o = o

passed_in : (text behind front : List ℕ) → IsLineBefore behind front (Some (body_of text)) → PassedIn text behind front
passed_in text behind front f =
    let both : Some (body_of text) ≡ Some (f.line ++ 10 ∷ behind) = f.left_is in
    let e : body_of text ≡ f.line ++ 10 ∷ behind = cc in
    let later = behind ++ behind_body text in
    let is : text ≡ f.line ++ 10 ∷ later = sym (whole_again text) ∙ ap (λ t. t ++ behind_body text) e ∙ append_assoc f.line (10 ∷ behind) (behind_body text) in
    let o = not_begun text f.line behind f.unbroken e is in
    record {
      later = later;
      before = record { line = f.line; unbroken = f.unbroken; front_is = f.front_is; left_is = ap Some is };
      body_is = sym (ap (drop 1) (cancel f.line (10 ∷ behind) (10 ∷ body_of later) (sym e ∙ ap body_of is ∙ body_behind f.line later f.unbroken o)));
      count_is = ap body_lines is ∙ count_behind f.line later f.unbroken o;
      next_is = ap behind_body is ∙ next_behind f.line later f.unbroken o;
    }

module _ (old new : Option (List ℕ)) (front behind : List ℕ) (over : Bool) (pass : (b : List ℕ) → IsLineBefore b front old → new ≡ Some b)
    (f : IsLineBefore behind (front_by over front) (option_map body_of old)) where
  passed : over ≡ false → (text : List ℕ) × (old ≡ Some text) × PassedIn text behind front
  passed is =
      let t = map_some body_of old (f.line ++ 10 ∷ behind) f.left_is in
      let at : IsLineBefore behind front (Some (body_of t.0)) =
      record { line = f.line; unbroken = f.unbroken; front_is = sym (front_on over front is) ∙ f.front_is; left_is = ap Some t.2 } in
      (t.0, t.1, passed_in t.0 behind front at)

  new_is : (is : over ≡ false) → new ≡ Some (passed is).2.later
  new_is is = let p = passed is in pass p.2.later (subst (λ o. IsLineBefore p.2.later front o) (sym p.1) p.2.before)

  pub pass_left : over ≡ false → option_map body_of new ≡ Some behind
  pass_left is = ap (option_map body_of) (new_is is) ∙ ap Some (passed is).2.body_is

  pub pass_beyond : over ≡ false → (count more : ℕ) (end : ℕ × List ℕ) → more ≡ min (count + 1) most → option_map (end_of count) old ≡ Some end → option_map (end_of more) new ≡ Some end
  pass_beyond is count more end more_is e =
      let p = passed is in
      let both : Some (end_of count p.0) ≡ Some end = sym (ap (option_map (end_of count)) p.1) ∙ e in
      let same : end_of count p.0 ≡ end = cc in
      let n = p.2.count_is in
      let counts : min (more + body_lines p.2.later) most ≡ min (count + body_lines p.0) most = omega (arith, n, more_is) in
      ap (option_map (end_of more)) (new_is is) ∙ ap Some (ap₂ (λ (a : ℕ) (b : List ℕ). (a, b)) counts (sym p.2.next_is) ∙ same)

-- nothing is at the front
pub nothing_passed : (over : Bool) (front behind : List ℕ) (old : Option (List ℕ)) → over ≡ true → IsLineBefore behind (front_by over front) old → ⊥
nothing_passed over front behind old is f =
    let n = ap length (sym (front_over over front is) ∙ f.front_is) in
    let m = length-append f.line (10 ∷ []) in
    absurd (omega (arith, n, m))
