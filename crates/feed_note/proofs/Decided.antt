-- A line has a meaning or a reason.
use Rattle.std.proofs.Common.{◌≡◌, refl, sym, ap, ◌∙◌, subst, ℕ, ◌+◌, Bool, true, false, true≢false, List, [], ◌∷◌, ◌++◌, append_assoc, arith, inl, inr, IsUtf8}
use Rattle.std.specs.Prelude.{◌⊎◌}
use Rattle.std.specs.List.{list_all}
use Rattle.std.specs.Str.{is_utf8}
use Rattle.std.proofs.lemmas.Bool.{cases_lt}
use Rattle.std.proofs.lemmas.Str.{IsUtf8-from_is_utf8, is_utf8-from_IsUtf8}
use Rattle.feed_text.specs.Json.{Value, ObjectOrNone}
use Rattle.feed_text.specs.Limits.{line_depth}
use Rattle.feed_text.specs.Nesting.{openings, closings, LevelReaches}
use Rattle.feed_note.specs.declared.line.Line.{Line}
use Rattle.feed_note.specs.declared.line.Line.TheVariants.{KeepAlive, Note}
use Rattle.feed_note.specs.declared.line.LineFault.{LineFault}
use Rattle.feed_note.specs.declared.line.LineFault.TheVariants.{Utf8, Deep, Syntax, NoType, BadMember, BadData, NoMeaning, BadElement, LongName, BigObject}
use Rattle.feed_note.specs.Meaning.{IsKeepAlive, NestsTooDeep, IsScanned, Means, Reason, MeaningOrReason, is_blank, fault_of, changes_of, token_of, first_fault, notification, has_no_type, has_bad_member, has_bad_data, has_no_meaning, has_bad_element, has_long_name, has_big_object}

-- ---- a text nests to a level or doesn't

reaches : (p : List ℕ) (n : ℕ) → LevelReaches p n ⊎ ¬ (LevelReaches p n)
reaches p n = elim (cases_lt (openings p) (closings p + n)) [ inl lt ↦ inr (λ le. omega arith) | inr le ↦ inl le ]

-- some prefix of what stands behind the prefix has the level, together with the prefix
abbrev NestsBehind : List ℕ → List ℕ → ℕ → Type 0
NestsBehind prefix x n = (p : List ℕ) × (rest : List ℕ) × (x ≡ p ++ rest) × LevelReaches (prefix ++ p) n

head_of : ℕ → List ℕ → ℕ
head_of d [] = d
head_of d (b ∷ bs) = b

tail_of : List ℕ → List ℕ
tail_of [] = []
tail_of (b ∷ bs) = bs

module _ (n : ℕ) where
  -- a prefix is empty, or goes on behind one byte more
  later : (prefix : List ℕ) (b : ℕ) (bs : List ℕ) → ¬ (LevelReaches (prefix ++ []) n) → ¬ (NestsBehind (prefix ++ b ∷ []) bs n) → (p rest : List ℕ) → b ∷ bs ≡ p ++ rest → ¬ (LevelReaches (prefix ++ p) n)
  unfolding head_of tail_of
  later prefix b bs low none [] rest e reach = low reach
  later prefix b bs low none (c ∷ p) rest e reach =
      let same : b ≡ c = ap (head_of b) e in
      none (p, rest, ap tail_of e, subst (λ t. LevelReaches t n) (ap (λ d. prefix ++ d ∷ p) (sym same) ∙ sym (append_assoc prefix (b ∷ []) p)) reach)

  nests_behind : (prefix x : List ℕ) → NestsBehind prefix x n ⊎ ¬ (NestsBehind prefix x n)
  nests_behind prefix [] = elim (reaches (prefix ++ []) n) [
    | inl reach ↦ inl ([], [], refl, reach)
    | inr low ↦ inr (λ h. only h.0 h.1 h.2 h.3 low)
  ]
    where
      only : (p rest : List ℕ) → [] ≡ p ++ rest → LevelReaches (prefix ++ p) n → ¬ (LevelReaches (prefix ++ []) n) → ⊥
      only [] rest e reach low = low reach
      only (c ∷ p) rest e reach low = absurd cc
  nests_behind prefix (b ∷ bs) = elim (reaches (prefix ++ []) n) [
    | inl reach ↦ inl ([], b ∷ bs, refl, reach)
    | inr low ↦ elim (nests_behind (prefix ++ b ∷ []) bs) [
      | inl found ↦ inl (b ∷ found.0, found.1, ap (λ t. b ∷ t) found.2, subst (λ t. LevelReaches t n) (append_assoc prefix (b ∷ []) found.0) found.3)
      | inr none ↦ inr (λ h. later prefix b bs low none h.0 h.1 h.2 h.3)
    ]
  ]

deep_or_not : (x : List ℕ) → NestsTooDeep x ⊎ ¬ (NestsTooDeep x)
deep_or_not x = nests_behind (line_depth + 1) [] x

-- ---- an object's conditions

abbrev Decided : List ℕ → Type 0
Decided x = ((l : Line) × Means x l) ⊎ ((f : LineFault) × Reason x f)

module _ (x : List ℕ) (v : Value) (scanned : IsScanned x v) where
  by_conditions : (a b c d e g h : Bool)
      → fault_of v ≡ first_fault ((a, NoType) ∷ (b, BadMember) ∷ (c, BadData) ∷ (d, NoMeaning) ∷ (e, BadElement) ∷ (g, LongName) ∷ (h, BigObject) ∷ [])
      → Decided x
  by_conditions true b c d e g h is = inr (NoType, (v, scanned, is))
  by_conditions false true c d e g h is = inr (BadMember, (v, scanned, is))
  by_conditions false false true d e g h is = inr (BadData, (v, scanned, is))
  by_conditions false false false true e g h is = inr (NoMeaning, (v, scanned, is))
  by_conditions false false false false true g h is = inr (BadElement, (v, scanned, is))
  by_conditions false false false false false true h is = inr (LongName, (v, scanned, is))
  by_conditions false false false false false false true is = inr (BigObject, (v, scanned, is))
  by_conditions false false false false false false false is = inl (Note (changes_of v) (token_of v), (v, scanned, is, refl, refl))

  by_members : Decided x
  by_members =
      let n = notification v in
      by_conditions (has_no_type n) (has_bad_member n) (has_bad_data n) (has_no_meaning n) (has_bad_element n) (has_long_name n) (has_big_object n) refl

-- ---- lines

module _ (law : ObjectOrNone) (x : List ℕ) where
  by_object : ¬ (IsKeepAlive x) → IsUtf8 x → Decided x
  by_object loud utf8 = elim (deep_or_not x) [
    | inl deep ↦ inr (Deep, (loud, utf8, deep))
    | inr shallow ↦ elim (law x utf8) [
      | inl object ↦ by_members x object.0 (loud, shallow, object.1)
      | inr none ↦ inr (Syntax, (loud, utf8, shallow, none))
    ]
  ]

  by_encoding : ¬ (IsKeepAlive x) → (b : Bool) → is_utf8 x ≡ b → Decided x
  by_encoding loud true e = by_object loud (IsUtf8-from_is_utf8 x e)
  by_encoding loud false e = inr (Utf8, (loud, λ utf8. true≢false (sym (is_utf8-from_IsUtf8 x utf8) ∙ e)))

  by_blanks : (b : Bool) → list_all is_blank x ≡ b → Decided x
  by_blanks true e = inl (KeepAlive, e)
  by_blanks false e = by_encoding (λ blank. true≢false (sym blank ∙ e)) (is_utf8 x) refl

pub meaning_or_reason : ObjectOrNone → MeaningOrReason
meaning_or_reason law x = by_blanks law x (list_all is_blank x) refl
