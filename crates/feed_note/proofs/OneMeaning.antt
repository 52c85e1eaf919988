-- A line has one meaning at most, or one reason at most, and not both.
use Rattle.std.proofs.Common.{◌≡◌, refl, sym, ap, ◌∙◌, subst, ℕ, List, Option, Some, None, IsUtf8}
use Rattle.feed_text.specs.Json.{Value, HoldsObject, TextDeterminesObject}
use Rattle.feed_note.specs.declared.line.Line.{Line}
use Rattle.feed_note.specs.declared.line.Line.TheVariants.{KeepAlive, Note}
use Rattle.feed_note.specs.declared.line.LineFault.{LineFault}
use Rattle.feed_note.specs.declared.line.LineFault.TheVariants.{Utf8, Deep, Syntax, NoType, BadMember, BadData, NoMeaning, BadElement, LongName, BigObject, Memory}
use Rattle.feed_note.specs.Meaning.{IsKeepAlive, NestsTooDeep, IsScanned, Means, Reason, OnlyOne, fault_of, changes_of, token_of}

abbrev FirstOf : List ℕ → Option LineFault → Type 0
FirstOf x o = (v : Value) × IsScanned x v × (fault_of v ≡ o)

-- the objects of a line agree on their first fault
same_first : TextDeterminesObject → (x : List ℕ) (o p : Option LineFault) → FirstOf x o → FirstOf x p → o ≡ p
same_first law x o p (u, s, e) (v, t, f) = sym e ∙ ap fault_of (law x u v s.2 t.2) ∙ f

-- the stage at which the reading of a line ends
data Stage : Type 0 where
  at_keep_alive at_utf8 at_deep at_syntax : Stage
  at_members : Option LineFault → Stage

abbrev Ends : List ℕ → Stage → Type 0
Ends x at_keep_alive = IsKeepAlive x
Ends x at_utf8 = ¬ (IsKeepAlive x) × ¬ (IsUtf8 x)
Ends x at_deep = ¬ (IsKeepAlive x) × IsUtf8 x × NestsTooDeep x
Ends x at_syntax = ¬ (IsKeepAlive x) × IsUtf8 x × ¬ (NestsTooDeep x) × ((v : Value) → ¬ (HoldsObject x v))
Ends x (at_members o) = FirstOf x o

same_stage : TextDeterminesObject → (x : List ℕ) (s t : Stage) → Ends x s → Ends x t → s ≡ t
same_stage law x at_keep_alive at_keep_alive h k = refl
same_stage law x at_keep_alive at_utf8 h k = absurd (k.0 h)
same_stage law x at_keep_alive at_deep h k = absurd (k.0 h)
same_stage law x at_keep_alive at_syntax h k = absurd (k.0 h)
same_stage law x at_keep_alive (at_members p) h k = absurd (k.1.0 h)
same_stage law x at_utf8 at_keep_alive h k = absurd (h.0 k)
same_stage law x at_utf8 at_utf8 h k = refl
same_stage law x at_utf8 at_deep h k = absurd (h.1 k.1)
same_stage law x at_utf8 at_syntax h k = absurd (h.1 k.1)
same_stage law x at_utf8 (at_members p) h k = absurd (h.1 (k.1.2).encoding)
same_stage law x at_deep at_keep_alive h k = absurd (h.0 k)
same_stage law x at_deep at_utf8 h k = absurd (k.1 h.1)
same_stage law x at_deep at_deep h k = refl
same_stage law x at_deep at_syntax h k = absurd (k.2 h.2)
same_stage law x at_deep (at_members p) h k = absurd (k.1.1 h.2)
same_stage law x at_syntax at_keep_alive h k = absurd (h.0 k)
same_stage law x at_syntax at_utf8 h k = absurd (k.1 h.1)
same_stage law x at_syntax at_deep h k = absurd (h.2 k.2)
same_stage law x at_syntax at_syntax h k = refl
same_stage law x at_syntax (at_members p) h k = absurd (h.3 k.0 k.1.2)
same_stage law x (at_members o) at_keep_alive h k = absurd (h.1.0 k)
same_stage law x (at_members o) at_utf8 h k = absurd (k.1 (h.1.2).encoding)
same_stage law x (at_members o) at_deep h k = absurd (h.1.1 k.2)
same_stage law x (at_members o) at_syntax h k = absurd (k.3 h.0 h.1.2)
same_stage law x (at_members o) (at_members p) h k = ap at_members (same_first law x o p h k)

abbrev stage_of : LineFault → Stage
stage_of Utf8 = at_utf8
stage_of Deep = at_deep
stage_of Syntax = at_syntax
stage_of NoType = at_members (Some NoType)
stage_of BadMember = at_members (Some BadMember)
stage_of BadData = at_members (Some BadData)
stage_of NoMeaning = at_members (Some NoMeaning)
stage_of BadElement = at_members (Some BadElement)
stage_of LongName = at_members (Some LongName)
stage_of BigObject = at_members (Some BigObject)
stage_of Memory = at_keep_alive

-- the fault of a stage, or Memory where it names none
abbrev fault_at : Stage → LineFault
fault_at at_keep_alive = Memory
fault_at at_utf8 = Utf8
fault_at at_deep = Deep
fault_at at_syntax = Syntax
fault_at (at_members None) = Memory
fault_at (at_members (Some f)) = f

fault_of_stage : (f : LineFault) → fault_at (stage_of f) ≡ f
fault_of_stage Utf8 = refl
fault_of_stage Deep = refl
fault_of_stage Syntax = refl
fault_of_stage NoType = refl
fault_of_stage BadMember = refl
fault_of_stage BadData = refl
fault_of_stage NoMeaning = refl
fault_of_stage BadElement = refl
fault_of_stage LongName = refl
fault_of_stage BigObject = refl
fault_of_stage Memory = refl

reason_ends : (x : List ℕ) (f : LineFault) → Reason x f → Ends x (stage_of f)
reason_ends x Utf8 h = h
reason_ends x Deep h = h
reason_ends x Syntax h = h
reason_ends x NoType h = h
reason_ends x BadMember h = h
reason_ends x BadData h = h
reason_ends x NoMeaning h = h
reason_ends x BadElement h = h
reason_ends x LongName h = h
reason_ends x BigObject h = h
reason_ends x Memory h = absurd h

same_reason : TextDeterminesObject → (x : List ℕ) (f g : LineFault) → Reason x f → Reason x g → f ≡ g
same_reason law x f g h k = sym (fault_of_stage f) ∙ ap fault_at (same_stage law x (stage_of f) (stage_of g) (reason_ends x f h) (reason_ends x g k)) ∙ fault_of_stage g

same_meaning : TextDeterminesObject → (x : List ℕ) (l m : Line) → Means x l → Means x m → l ≡ m
same_meaning law x KeepAlive KeepAlive h k = refl
same_meaning law x KeepAlive (Note cs t) h k = absurd (k.1.0 h)
same_meaning law x (Note cs t) KeepAlive h k = absurd (h.1.0 k)
same_meaning law x (Note cs t) (Note ds u) h k =
    let same = law x h.0 k.0 h.1.2 k.1.2 in
    let changes : cs ≡ ds = h.3 ∙ ap changes_of same ∙ sym k.3 in
    let token : t ≡ u = h.4 ∙ ap token_of same ∙ sym k.4 in
    λ i. Note (changes i) (token i)

meaning_stage : (x : List ℕ) (l : Line) → Means x l → (s : Stage) × Ends x s × (fault_at s ≡ Memory)
meaning_stage x KeepAlive h = (at_keep_alive, h, refl)
meaning_stage x (Note cs t) h = (at_members None, (h.0, h.1, h.2), refl)

no_memory : (x : List ℕ) (f : LineFault) → Reason x f → f ≡ Memory → ⊥
no_memory x f h e = subst (Reason x) e h

not_both : TextDeterminesObject → (x : List ℕ) (l : Line) (f : LineFault) → Means x l → Reason x f → ⊥
not_both law x l f h k =
    let m = meaning_stage x l h in
    no_memory x f k (sym (fault_of_stage f) ∙ ap fault_at (same_stage law x (stage_of f) m.0 (reason_ends x f k) m.1) ∙ m.2)

pub only_one : TextDeterminesObject → OnlyOne
only_one law = record { meaning = same_meaning law; reason = same_reason law; either = not_both law }
