-- Lines that are passed in parts, and what connections carry between them.
use Rattle.std.proofs.Common.{◌≡◌, refl, sym, ap, ap₂, ◌∙◌, subst, ℕ, ◌+◌, ◌<◌, min, Bool, true, false, List, [], ◌∷◌, ◌++◌, append_assoc, length, length-append, arith, Option, Some}
use Rattle.feed_note.specs.Lines.{HasNoLineFeed, lines}
use Rattle.feed_note.proofs.LineEnds.{unbroken_both}
use Rattle.std.specs.Prelude.{◌==◌, option_map}
use Rattle.feed_records.specs.Connections.{IsFilled, OpensFeed, announced_by, answered, is_blank_line, is_success}
use Rattle.feed_records.specs.Fronts.{IsFront, IsLeft, IsLineAtFront, IsLineBefore, IsRestAtFront, IsLongAtFront}
use Rattle.feed_records.specs.Parting.{PassesLine, PassesBody, PassesHead, PassedFields, OpensNext, EndsIn, nothing, in_head, SaysOpening, token_announced, since_of, opens_connection, body_lines, behind_body, is_at_next, is_at_blank, most}
use Rattle.feed_records.specs.declared.connections.Opened.{Opened}
use Rattle.feed_records.specs.declared.reading.Front.{Front}
use Rattle.feed_records.proofs.Bodies.{at_line, count_behind, next_behind, next_rest, count_next, next_next, regroup}
use Rattle.feed_records.proofs.Looking.{end_of, next_is_line, line_at, blank_line, not_so_many}
use Rattle.feed_records.proofs.EndedLines.{line_more}
use Rattle.feed_text.proofs.Lists.{each-append}
use Rattle.feed_text.proofs.PrefixReaders.{map_some}

-- the first bytes of a text were passed, which are no line yet
pub record Skips (text behind : List ℕ) : Type 0 where
  pub seen : List ℕ
  pub unbroken : HasNoLineFeed seen
  pub text_is : text ≡ seen ++ behind

pub skips_none : (text : List ℕ) → Skips text text
skips_none text = record { seen = []; unbroken = refl; text_is = refl }

module _ (text : List ℕ) (old new : Option (List ℕ)) (front : List ℕ) (h : IsLeft old (Skips text)) (skip : (b : List ℕ) → old ≡ Some (front ++ b) → new ≡ Some b) where
  pub skips_more : IsLongAtFront front h.0 → IsLeft new (Skips text)
  skips_more f = (
    f.behind,
    skip f.behind (h.1 ∙ ap Some f.text_is),
    record {
      seen = h.2.seen ++ front;
      unbroken = unbroken_both h.2.seen front h.2.unbroken f.unbroken;
      text_is = h.2.text_is ∙ ap (λ t. h.2.seen ++ t) f.text_is ∙ sym (append_assoc h.2.seen front f.behind);
    },
  )

  pub skips_line : IsLineAtFront front h.0 → PassesLine true text new
  skips_line f =
      let is : h.0 ≡ front ++ f.behind = f.text_is ∙ sym (append_assoc f.line (10 ∷ []) f.behind) ∙ ap (λ t. t ++ f.behind) (sym f.front_is) in (
        f.behind,
        skip f.behind (h.1 ∙ ap Some is),
        (
          h.2.seen ++ f.line,
          unbroken_both h.2.seen f.line h.2.unbroken f.unbroken,
          h.2.text_is ∙ ap (λ t. h.2.seen ++ t) f.text_is ∙ sym (append_assoc h.2.seen f.line (10 ∷ f.behind)),
        ),
      )

pub skips_rest : (text : List ℕ) (old : Option (List ℕ)) (front : List ℕ) (h : IsLeft old (Skips text)) → IsRestAtFront front h.0 → PassesLine false text old
skips_rest text old front h f =
    subst HasNoLineFeed (sym h.2.text_is) (unbroken_both h.2.seen h.0 h.2.unbroken (subst HasNoLineFeed (sym f.text_is) f.unbroken))

-- ---- the rest of a connection

module _ (old mid : Option (List ℕ)) (count : ℕ) (end : ℕ × List ℕ) (is : option_map (end_of count) old ≡ Some end) (over : Bool)
    (k : (t : List ℕ) → old ≡ Some t → mid ≡ Some t) (at : (t : List ℕ) → old ≡ Some t → over ≡ is_at_next t) where
  text : (t : List ℕ) × (old ≡ Some t) × (end_of count t ≡ end)
  text = map_some (end_of count) old end is

  -- another one begins
  pub body_found : (front : List ℕ) (found : Front) (more : ℕ) → more ≡ count → over ≡ true → ((t : List ℕ) → old ≡ Some t → IsFront found front t) → PassesBody true end mid front more
  body_found front found more same e h =
      let begins : is_at_next text.0 ≡ true = sym (at text.0 text.1) ∙ e in
      let here : text.0 ≡ end.1 = sym (next_next text.0 begins) ∙ ap (λ (p : ℕ × List ℕ). p.1) text.2 in
      let counts : min (count + body_lines text.0) most ≡ end.0 = ap (λ (p : ℕ × List ℕ). p.0) text.2 in
      let none = count_next text.0 begins in (
        k text.0 text.1 ∙ ap Some here,
        subst (IsLineAtFront front) here (next_is_line found front text.0 (h text.0 text.1) begins),
        subst (λ t. is_at_next t ≡ true) here begins,
        omega (arith, counts, none, same),
      )

  -- a line more
  pub body_more : (new : Option (List ℕ)) (looked more : ℕ) → looked ≡ count → more ≡ min (looked + 1) most → over ≡ false → ((t : List ℕ) → mid ≡ Some t → PassesLine true t new)
      → option_map (end_of more) new ≡ Some end
  body_more new looked more same more_is e skip =
      let s = skip text.0 (k text.0 text.1) in
      let is_at : text.0 ≡ s.2.0 ++ 10 ∷ s.0 = s.2.2 in
      let o : opens_connection s.2.0 ≡ false = sym (ap is_at_next is_at ∙ at_line s.2.0 s.0 s.2.1) ∙ sym (at text.0 text.1) ∙ e in
      let n = ap body_lines is_at ∙ count_behind s.2.0 s.0 s.2.1 o in
      let counts : min (more + body_lines s.0) most ≡ min (count + body_lines text.0) most = omega (arith, n, more_is, same) in
      ap (option_map (end_of more)) s.1
      ∙ ap Some (ap₂ (λ (a : ℕ) (b : List ℕ). (a, b)) counts (sym (ap behind_body is_at ∙ next_behind s.2.0 s.0 s.2.1 o)) ∙ text.2)

  -- no line more
  pub body_ends : (new : Option (List ℕ)) → ((t : List ℕ) → mid ≡ Some t → PassesLine false t new) → end.1 ≡ []
  body_ends new skip = sym (ap (λ (p : ℕ × List ℕ). p.1) text.2) ∙ next_rest text.0 (skip text.0 (k text.0 text.1))

-- ---- the lines of a head

pub fields_none : (text : List ℕ) (count : ℕ) → PassedFields text text count count
fields_none text count = record { fields = []; whole = tt; text_is = refl; filled = tt; counted = omega arith }

module _ (text : List ℕ) (old mid new : Option (List ℕ)) (start count more : ℕ) (last : Bool) (h : IsLeft old (λ behind. PassedFields text behind start count))
    (k : (t : List ℕ) → old ≡ Some t → mid ≡ Some t) (at : (t : List ℕ) → old ≡ Some t → last ≡ is_at_blank t) where
  module _ (skip : (t : List ℕ) → mid ≡ Some t → PassesLine true t new) (more_is : more ≡ min (count + 1) most) where
    s : PassesLine true h.0 new
    s = skip h.0 (k h.0 h.1)

    blank_is : last ≡ is_blank_line s.2.0
    blank_is = at h.0 h.1 ∙ ap is_at_blank s.2.2 ∙ blank_line s.2.0 s.0 s.2.1

    pub fields_more : last ≡ false → IsLeft new (λ behind. PassedFields text behind start more)
    fields_more e = (
      s.0,
      s.1,
      record {
        fields = h.2.fields ++ s.2.0 ∷ [];
        whole = each-append HasNoLineFeed h.2.fields s.2.0 h.2.whole s.2.1;
        text_is = line_more text h.0 s.0 s.2.0 h.2.fields h.2.text_is s.2.2;
        filled = each-append IsFilled h.2.fields s.2.0 h.2.filled (sym blank_is ∙ e);
        counted = let n = length-append h.2.fields (s.2.0 ∷ []) in let c = h.2.counted in omega (arith, n, c, more_is);
      },
    )

    pub head_rest : last ≡ true → PassesHead true text new start more
    head_rest e = (
      s.0,
      s.1,
      record {
        fields = h.2.fields;
        blank = s.2.0;
        whole = each-append HasNoLineFeed h.2.fields s.2.0 h.2.whole s.2.1;
        text_is = line_more text h.0 s.0 s.2.0 h.2.fields h.2.text_is s.2.2;
        filled = h.2.filled;
        ends = sym blank_is ∙ e;
        counted = let n = length-append h.2.fields (s.2.0 ∷ []) in let c = h.2.counted in omega (arith, n, c, more_is);
      },
    )

  pub head_cut_off : ((t : List ℕ) → mid ≡ Some t → PassesLine false t new) → PassesHead false text new start more
  head_cut_off skip = record { fields = h.2.fields; end = h.0; whole = h.2.whole; part = skip h.0 (k h.0 h.1); text_is = h.2.text_is; filled = h.2.filled }

-- ---- how the next connection was opened

announced_is : (direct : Bool) (old : Opened) (count lines : ℕ) (body : List (List ℕ)) → direct ≡ (count == 0) → min count most ≡ lines → lines ≡ min (length body) most
    → token_announced direct old ≡ announced_by (since_of old) body
announced_is direct old count lines [] d c n = let none : count ≡ 0 = omega (arith, c, n) in ap (λ b. token_announced b old) (d ∙ ap (λ m. m == 0) none)
announced_is direct old count lines (l ∷ body) d c n = let some : 0 < count = omega (arith, c, n) in ap (λ b. token_announced b old) (d ∙ not_so_many count 0 some)

module _ (end : ℕ × List ℕ) (front : List ℕ) (count : ℕ) (h : IsLineAtFront front end.1) (begins : is_at_next end.1 ≡ true) (counted : min count most ≡ end.0) where
  pub opens_here : opens_connection h.line ≡ true
  opens_here = sym (line_at front end.1 h) ∙ begins

  pub passed_opening : (left new : Option (List ℕ)) → left ≡ Some end.1 → ((b : List ℕ) → IsLineBefore b front left → new ≡ Some b) → new ≡ Some h.behind
  passed_opening left new is pass = pass h.behind (record { line = h.line; unbroken = h.unbroken; front_is = h.front_is; left_is = is ∙ ap Some h.text_is })

  module _ (line : List ℕ) (line_is : line ≡ h.line) (direct : Bool) (old new : Opened) where
    -- by a line alone
    pub goes_alone : (left : Option (List ℕ)) (more : ℕ) → left ≡ Some h.behind → more ≡ min (count + 1) most → SaysOpening false line direct old new → IsLeft left (OpensNext end old new more)
    goes_alone left more left_is more_is says = (
      h.behind,
      left_is,
      record {
        head = h.line ∷ [];
        whole = (h.unbroken, tt);
        text_is = h.text_is ∙ regroup h.line [] h.behind;
        opens = λ body n. subst (λ l. OpensFeed (announced_by (since_of old) body) (l ∷ []) new.is_feed (since_of new)) line_is (says (announced_by (since_of old) body));
        counted = omega (arith, counted, more_is);
      },
    )

    -- by a head
    pub goes_headed : (left : Option (List ℕ)) (between more : ℕ) → between ≡ min (count + 1) most → direct ≡ (count == 0) → SaysOpening true line direct old new
        → PassesHead true h.behind left between more → IsLeft left (OpensNext end old new more)
    goes_headed left between more between_is direct_is says r =
        let says_it : SaysOpening true h.line direct old new = subst (λ l. SaysOpening true l direct old new) line_is says in (
          r.0,
          r.1,
          record {
            head = h.line ∷ (r.2.fields ++ r.2.blank ∷ []);
            whole = (h.unbroken, r.2.whole);
            text_is = h.text_is ∙ ap (λ t. h.line ++ 10 ∷ t) r.2.text_is ∙ regroup h.line (r.2.fields ++ r.2.blank ∷ []) r.0;
            opens = λ body n.
                subst (λ f. OpensFeed (announced_by (since_of old) body) (h.line ∷ (r.2.fields ++ r.2.blank ∷ [])) f (since_of new)) (sym says_it.2.2)
                (subst (λ s. OpensFeed (announced_by (since_of old) body) (h.line ∷ (r.2.fields ++ r.2.blank ∷ [])) (is_success says_it.2.0) s)
                (sym (says_it.3 ∙ announced_is direct old count end.0 body direct_is counted n))
                (answered h.line r.2.fields r.2.blank says_it.2.0 says_it.0 says_it.1 says_it.2.1 r.2.filled r.2.ends));
            counted = let c = r.2.counted in omega (arith, counted, between_is, c);
          },
        )

    pub ends_headed : (left : Option (List ℕ)) (between more : ℕ) → SaysOpening true line direct old new → PassesHead false h.behind left between more → EndsIn end.1
    ends_headed left between more says r =
        let says_it : SaysOpening true h.line direct old new = subst (λ l. SaysOpening true l direct old new) line_is says in
        subst EndsIn (sym h.text_is) (in_head h.line says_it.2.0 h.behind h.unbroken says_it.0 says_it.1 says_it.2.1 r)

pub ends_nowhere : (end : ℕ × List ℕ) → end.1 ≡ [] → EndsIn end.1
ends_nowhere end e = subst EndsIn (sym e) nothing
