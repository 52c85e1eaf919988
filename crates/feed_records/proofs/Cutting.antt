-- Each text is cut into connections.
use Rattle.std.proofs.Common.{◌≡◌, ◌⊎◌, inl, inr, refl, sym, ap, ◌∙◌, subst, ℕ, zero, suc, ◌+◌, ◌≤◌, Bool, true, false, List, [], ◌∷◌, ◌++◌, length, length-append, append_assoc, arith, Option, None, Some}
use Rattle.std.specs.List.{AllByRecursion}
use Rattle.feed_note.specs.Lines.{HasNoLineFeed, lines, rest, ended}
use Rattle.feed_note.proofs.LinesCut.{lines_cut, lines_are_the_only_cut}
use Rattle.feed_note.proofs.LinesInRow.{ended-append}
use Rattle.feed_records.specs.Connections.{Cut, Recorded, part, OpensFeed, OpensNone, IsFilled, is_blank_line, is_marked, is_success, token_on, status_on, announced_by, last, opened, headless, marked, named, answered}

-- how a connection begins on a line
pub data Begins (line : List ℕ) : Type 0 where
  by_mark : is_marked line ≡ true → Begins line
  by_name : (token : List ℕ) → is_marked line ≡ false → token_on line ≡ Some token → Begins line
  by_head : (status : List ℕ) → is_marked line ≡ false → token_on line ≡ None → status_on line ≡ Some status → Begins line

begins_or_not : (line : List ℕ) → OpensNone line ⊎ Begins line
begins_or_not line = by (is_marked line) refl
  where
    by_status : is_marked line ≡ false → token_on line ≡ None → (o : Option (List ℕ)) → status_on line ≡ o → OpensNone line ⊎ Begins line
    by_status e n None f = inl (record { unmarked = e; unnamed = n; headless = f })
    by_status e n (Some status) f = inr (by_head status e n f)

    by_token : is_marked line ≡ false → (o : Option (List ℕ)) → token_on line ≡ o → OpensNone line ⊎ Begins line
    by_token e None n = by_status e n (status_on line) refl
    by_token e (Some token) n = inr (by_name token e n)

    by : (b : Bool) → is_marked line ≡ b → OpensNone line ⊎ Begins line
    by true e = inr (by_mark e)
    by false e = by_token e (token_on line) refl

-- the first line on which one does
record FirstOf (ls : List (List ℕ)) : Type 0 where
  seen : List (List ℕ)
  line : List ℕ
  later : List (List ℕ)
  is : ls ≡ seen ++ line ∷ later
  none : AllByRecursion OpensNone seen
  begins : Begins line

first_of : (ls : List (List ℕ)) → AllByRecursion OpensNone ls ⊎ FirstOf ls
first_of [] = inl tt
first_of (l ∷ ls) = by (begins_or_not l) (first_of ls)
  where
    on : OpensNone l → AllByRecursion OpensNone ls ⊎ FirstOf ls → AllByRecursion OpensNone (l ∷ ls) ⊎ FirstOf (l ∷ ls)
    on e (inl none) = inl (e, none)
    on e (inr f) = inr (record { seen = l ∷ f.seen; line = f.line; later = f.later; is = ap (λ t. l ∷ t) f.is; none = (e, f.none); begins = f.begins })

    by : OpensNone l ⊎ Begins l → AllByRecursion OpensNone ls ⊎ FirstOf ls → AllByRecursion OpensNone (l ∷ ls) ⊎ FirstOf (l ∷ ls)
    by (inl e) more = on e more
    by (inr b) more = inr (record { seen = []; line = l; later = ls; is = refl; none = tt; begins = b })

-- the first empty line
record BlankIn (ls : List (List ℕ)) : Type 0 where
  fields : List (List ℕ)
  blank : List ℕ
  later : List (List ℕ)
  is : ls ≡ fields ++ blank ∷ later
  filled : AllByRecursion IsFilled fields
  ends : is_blank_line blank ≡ true

blank_in : (ls : List (List ℕ)) → AllByRecursion IsFilled ls ⊎ BlankIn ls
blank_in [] = inl tt
blank_in (l ∷ ls) = by (is_blank_line l) refl (blank_in ls)
  where
    on : is_blank_line l ≡ false → AllByRecursion IsFilled ls ⊎ BlankIn ls → AllByRecursion IsFilled (l ∷ ls) ⊎ BlankIn (l ∷ ls)
    on e (inl none) = inl (e, none)
    on e (inr f) = inr (record { fields = l ∷ f.fields; blank = f.blank; later = f.later; is = ap (λ t. l ∷ t) f.is; filled = (e, f.filled); ends = f.ends })

    by : (b : Bool) → is_blank_line l ≡ b → AllByRecursion IsFilled ls ⊎ BlankIn ls → AllByRecursion IsFilled (l ∷ ls) ⊎ BlankIn (l ∷ ls)
    by true e more = inr (record { fields = []; blank = l; later = ls; is = refl; filled = tt; ends = e })
    by false e more = on e more

-- ---- cut anywhere

pub whole_front : (xs ys : List (List ℕ)) → AllByRecursion HasNoLineFeed (xs ++ ys) → AllByRecursion HasNoLineFeed xs
whole_front [] ys h = tt
whole_front (x ∷ xs) ys h = (h.0, whole_front xs ys h.1)

pub whole_back : (xs ys : List (List ℕ)) → AllByRecursion HasNoLineFeed (xs ++ ys) → AllByRecursion HasNoLineFeed ys
whole_back [] ys h = h
whole_back (x ∷ xs) ys h = whole_back xs ys h.1

-- the text behind some of its lines
abbrev behind : List ℕ → List (List ℕ) → List ℕ
behind text later = ended later ++ rest text

text_cut : (text : List ℕ) (front later : List (List ℕ)) → lines text ≡ front ++ later → text ≡ ended front ++ behind text later
text_cut text front later e =
    (lines_cut text).text ∙ ap (λ ls. ended ls ++ rest text) e ∙ ap (λ t. t ++ rest text) (ended-append front later)
    ∙ append_assoc (ended front) (ended later) (rest text)

lines_behind : (text : List ℕ) (front later : List (List ℕ)) → lines text ≡ front ++ later → lines (behind text later) ≡ later
lines_behind text front later e = sym (lines_are_the_only_cut (behind text later) later (rest text) (record {
  whole = whole_back front later (subst (AllByRecursion HasNoLineFeed) e (lines_cut text).whole);
  part = (lines_cut text).part;
  text = refl;
})).0

-- ---- all of it

abbrev Cuts : ℕ → Bool → Option (List ℕ) → List ℕ → Type 0
Cuts before is_feed since text = (parts : List Recorded) × Cut before is_feed since text parts

-- texts of so many lines at most are cut
abbrev CutsUpTo : ℕ → Type 0
CutsUpTo n = (at : ℕ) (feed : Bool) (token : Option (List ℕ)) (t : List ℕ) → length (lines t) ≤ n → Cuts at feed token t

-- behind lines, where what follows is cut
cut_behind : (n before : ℕ) (is_feed next : Bool) (since token : Option (List ℕ)) (text : List ℕ) (body head later : List (List ℕ)) → lines text ≡ body ++ (head ++ later)
    → AllByRecursion OpensNone body → OpensFeed (announced_by since body) head next token → length (lines text) ≤ suc n → 1 ≤ length head
    → CutsUpTo n → Cuts before is_feed since text
cut_behind n before is_feed next since token text body head later e none opens size some cuts =
    let whole = subst (AllByRecursion HasNoLineFeed) (e ∙ sym (append_assoc body head later)) (lines_cut text).whole in
    let joined : lines text ≡ (body ++ head) ++ later = e ∙ sym (append_assoc body head later) in
    let long = ap length joined in
    let l1 = length-append (body ++ head) later in
    let l2 = length-append body head in
    let small : length (lines (behind text later)) ≤ n = subst (λ ls. length ls ≤ n) (sym (lines_behind text (body ++ head) later joined)) (omega arith) in
    let c = cuts (before + length (body ++ head)) next token (behind text later) small in
    let is : text ≡ ended body ++ (ended head ++ behind text later) =
    text_cut text (body ++ head) later joined ∙ ap (λ t. t ++ behind text later) (ended-append body head)
    ∙ append_assoc (ended body) (ended head) (behind text later) in (
      part before is_feed since (ended body) ∷ c.0,
      opened body head next token (behind text later) c.0 is (whole_front (body ++ head) later whole) none opens c.1,
    )

all_filled : (before : ℕ) (is_feed : Bool) (since : Option (List ℕ)) (text line status : List ℕ) (body fields : List (List ℕ)) → lines text ≡ body ++ line ∷ fields
    → AllByRecursion OpensNone body → is_marked line ≡ false → token_on line ≡ None → status_on line ≡ Some status → AllByRecursion IsFilled fields → Cuts before is_feed since text
all_filled before is_feed since text line status body fields e none unmarked unnamed has filled =
    let whole = subst (AllByRecursion HasNoLineFeed) e (lines_cut text).whole in
    let is : text ≡ ended body ++ (ended (line ∷ fields) ++ rest text) =
    (lines_cut text).text ∙ ap (λ ls. ended ls ++ rest text) e ∙ ap (λ t. t ++ rest text) (ended-append body (line ∷ fields))
    ∙ append_assoc (ended body) (ended (line ∷ fields)) (rest text) in
    (part before is_feed since (ended body) ∷ [], headless body fields line status (rest text) is whole (lines_cut text).part none unmarked unnamed has filled)

no_lines_left : (ls seen later : List (List ℕ)) (line : List ℕ) → ls ≡ seen ++ line ∷ later → length ls ≤ 0 → ⊥
no_lines_left ls seen later line e h = let l = ap length e in let k = length-append seen (line ∷ later) in absurd (omega arith)

cuts_by : (n before : ℕ) (is_feed : Bool) (since : Option (List ℕ)) (text : List ℕ) → length (lines text) ≤ suc n → CutsUpTo n
    → AllByRecursion OpensNone (lines text) ⊎ FirstOf (lines text) → Cuts before is_feed since text
cuts_by n before is_feed since text size cuts (inl none) = (part before is_feed since text ∷ [], last none)
cuts_by n before is_feed since text size cuts (inr f) = by f.begins
  where
    by_blank : (status : List ℕ) → is_marked f.line ≡ false → token_on f.line ≡ None → status_on f.line ≡ Some status → AllByRecursion IsFilled f.later ⊎ BlankIn f.later
        → Cuts before is_feed since text
    by_blank status unmarked unnamed has (inl filled) = all_filled before is_feed since text f.line status f.seen f.later f.is f.none unmarked unnamed has filled
    by_blank status unmarked unnamed has (inr b) =
        let is : lines text ≡ f.seen ++ ((f.line ∷ (b.fields ++ b.blank ∷ [])) ++ b.later) =
        f.is ∙ ap (λ t. f.seen ++ f.line ∷ t) (b.is ∙ sym (append_assoc b.fields (b.blank ∷ []) b.later)) in
        cut_behind n before is_feed (is_success status) since (announced_by since f.seen) text f.seen (f.line ∷ (b.fields ++ b.blank ∷ [])) b.later is f.none
        (answered f.line b.fields b.blank status unmarked unnamed has b.filled b.ends) size (omega arith) cuts

    by : Begins f.line → Cuts before is_feed since text
    by (by_mark e) = cut_behind n before is_feed true since None text f.seen (f.line ∷ []) f.later f.is f.none (marked f.line e) size (omega arith) cuts
    by (by_name token e h) = cut_behind n before is_feed true since (Some token) text f.seen (f.line ∷ []) f.later f.is f.none (named f.line token e h) size (omega arith) cuts
    by (by_head status e n' h) = by_blank status e n' h (blank_in f.later)

cuts_none : (before : ℕ) (is_feed : Bool) (since : Option (List ℕ)) (text : List ℕ) → length (lines text) ≤ 0 → AllByRecursion OpensNone (lines text) ⊎ FirstOf (lines text)
    → Cuts before is_feed since text
cuts_none before is_feed since text size (inl none) = (part before is_feed since text ∷ [], last none)
cuts_none before is_feed since text size (inr f) = absurd (no_lines_left (lines text) f.seen f.later f.line f.is size)

cuts_all : (n before : ℕ) (is_feed : Bool) (since : Option (List ℕ)) (text : List ℕ) → length (lines text) ≤ n → Cuts before is_feed since text
cuts_all zero before is_feed since text size = cuts_none before is_feed since text size (first_of (lines text))
cuts_all (suc n) before is_feed since text size = cuts_by n before is_feed since text size (cuts_all n) (first_of (lines text))

pub each_cuts : (before : ℕ) (is_feed : Bool) (since : Option (List ℕ)) (text : List ℕ) → (parts : List Recorded) × Cut before is_feed since text parts
each_cuts before is_feed since text = cuts_all (length (lines text)) before is_feed since text (omega arith)
