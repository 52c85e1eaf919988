-- The states that are kept, and the steps between them.
use Rattle.std.proofs.Common.{◌≡◌, ◌≢◌, refl, sym, ap, ◌∙◌, subst, ℕ, zero, suc, ◌+◌, ◌<◌, ◌≤◌, Bool, true, false, true≢false, List, [], ◌∷◌, ◌++◌, length, length-append, arith, inl, inr, ◌⊎◌, Option, None, Some, nat_le, leb-true, leb-false, get_or, take}
use Rattle.std.specs.Prelude.{if◌then◌else◌, IfSome, option_map, slice_get}
use Rattle.feed_settings.specs.Limits.{Limits}
use Rattle.feed_changes.specs.declared.change.Change.{Change}
use Rattle.feed_tables.specs.Tables.{Contents, after, after_all}
use Rattle.feed_node.specs.Publishing.{Published}
use Rattle.feed_node.specs.States.{tables_or_none, token_of}
use Rattle.feed_audit.specs.Pasts.{IsPast, Leads}
use Rattle.feed_audit.specs.States.{IsStateOf}
use Rattle.feed_audit.specs.Walks.{IsSinceIn}
use Rattle.feed_audit.specs.declared.past.Step.{Step}
use Rattle.feed_audit.specs.declared.past.Mark.{Mark}
use Rattle.feed_audit.specs.declared.past.Past.{Past}
use Rattle.feed_audit.specs.declared.since.Since.{Since}

-- an item of a list and one more
pub get_snoc : {X : Type 0} (xs : List X) (y : X) (i : ℕ) (x : X) → slice_get (xs ++ y ∷ []) i ≡ Some x
    → ((i < length xs) × (slice_get xs i ≡ Some x)) ⊎ ((i ≡ length xs) × (y ≡ x))
get_snoc [] y zero x e = inr (refl, (cc))
get_snoc [] y (suc i) x e = absurd (cc)
get_snoc (z ∷ xs) y zero x e = inl (omega arith, e)
get_snoc (z ∷ xs) y (suc i) x e = elim (get_snoc xs y i x e) [
  | inl p ↦ let lt = p.0 in inl (omega arith, p.1)
  | inr p ↦ let is = p.0 in inr (omega arith, p.1)
]

-- tables after one step more
abbrev grown : (ℕ → Contents) → ℕ → Contents → ℕ → Contents
grown tables n new i = if nat_le i n then tables i else new

grown_old : (tables : ℕ → Contents) (n : ℕ) (new : Contents) (i : ℕ) → i ≤ n → grown tables n new i ≡ tables i
grown_old tables n new i h = by (nat_le i n) refl
  where
    by : (t : Bool) → nat_le i n ≡ t → grown tables n new i ≡ tables i
    by true e = ap (λ b. if b then tables i else new) e
    by false e = let long = leb-false _ _ e in absurd (omega arith)

grown_new : (tables : ℕ → Contents) (n : ℕ) (new : Contents) (i : ℕ) → i ≡ n + 1 → grown tables n new i ≡ new
grown_new tables n new i is = by (nat_le i n) refl
  where
    by : (t : Bool) → nat_le i n ≡ t → grown tables n new i ≡ new
    by true e = let short = leb-true _ _ e in absurd (omega arith)
    by false e = ap (λ b. if b then tables i else new) e

-- they part
pub parts : (since : Since) (ours theirs : Contents) → since.is_known ≡ false → IsSinceIn since ours theirs
parts since ours theirs apart known = absurd (true≢false (sym known ∙ apart))

-- ---- what is at hand moves

pub moved : (limits : Limits) (text : List ℕ) (old new : Past) (end theirs others : Contents) (p : IsPast limits text old end theirs)
    → new.steps.items ≡ old.steps.items → new.marks.items ≡ old.marks.items → new.at ≤ length old.steps.items
    → new.tables.contents ≡ p.tables new.at → IsSinceIn new.since (p.tables new.at) others → IsPast limits text new end others
moved limits text old new end theirs others p same marks within here since = record {
  tables = p.tables;
  here = here;
  within = subst (λ s. new.at ≤ length s) (sym same) within;
  leads = λ i step e. p.leads i step (sym (ap (λ s. slice_get s i) same) ∙ e);
  last = ap (λ s. p.tables (length s)) same ∙ p.last;
  marked = λ i mark e. let m = p.marked i mark (sym (ap (λ s. slice_get s i) marks) ∙ e) in
      (subst (λ s. mark.at ≤ length s) (sym same) m.0, m.1);
  since = since;
}

pub goes_forth : (limits : Limits) (text : List ℕ) (old new : Past) (end theirs : Contents) (step : Step) → IsPast limits text old end theirs
    → slice_get old.steps.items old.at ≡ Some step → old.at < length old.steps.items
    → new.steps.items ≡ old.steps.items → new.marks.items ≡ old.marks.items → new.at ≡ old.at + 1
    → new.tables.contents ≡ after old.tables.contents step.redo
    → ((ours others : Contents) → IsSinceIn old.since ours others → IsSinceIn new.since (after ours step.redo) others)
    → IsPast limits text new end theirs
goes_forth limits text old new end theirs step p there lt same marks at made since =
    let next = (p.leads old.at step there).forth in
    let here : after old.tables.contents step.redo ≡ p.tables new.at = ap (λ t. after t step.redo) p.here ∙ next ∙ ap p.tables (sym at) in
    moved limits text old new end theirs theirs p same marks (omega arith) (made ∙ here)
    (subst (λ t. IsSinceIn new.since t theirs) (next ∙ ap p.tables (sym at)) (since (p.tables old.at) theirs p.since))

pub goes_back : (limits : Limits) (text : List ℕ) (old new : Past) (end theirs : Contents) (step : Step) → IsPast limits text old end theirs
    → slice_get old.steps.items new.at ≡ Some step → new.at + 1 ≡ old.at
    → new.steps.items ≡ old.steps.items → new.marks.items ≡ old.marks.items
    → new.tables.contents ≡ after old.tables.contents step.undo
    → ((ours others : Contents) → IsSinceIn old.since ours others → IsSinceIn new.since (after ours step.undo) others)
    → IsPast limits text new end theirs
goes_back limits text old new end theirs step p there at same marks made since =
    let before = (p.leads new.at step there).back in
    let hand : p.tables old.at ≡ p.tables (new.at + 1) = ap p.tables (sym at) in
    let within = p.within in
    moved limits text old new end theirs theirs p same marks (omega arith) (made ∙ ap (λ t. after t step.undo) (p.here ∙ hand) ∙ before)
    (subst (λ t. IsSinceIn new.since t theirs) (ap (λ t. after t step.undo) hand ∙ before) (since (p.tables old.at) theirs p.since))

-- ---- one step more

pub pushed : (limits : Limits) (text : List ℕ) (old new : Past) (end theirs : Contents) (change : Change) (step : Step) → IsPast limits text old end theirs
    → old.at ≡ length old.steps.items → new.steps.items ≡ old.steps.items ++ step ∷ [] → new.at ≡ length new.steps.items → new.marks.items ≡ old.marks.items
    → new.tables.contents ≡ after old.tables.contents change → step.redo ≡ change
    → after (after old.tables.contents change) step.undo ≡ old.tables.contents
    → ((ours others : Contents) → IsSinceIn old.since ours others → IsSinceIn new.since (after ours change) others)
    → IsPast limits text new (after end change) theirs
pushed limits text old new end theirs change step p at_end more at marks made redo undo since = record {
  tables = tables;
  here = made ∙ ap (λ t. after t change) hand ∙ sym (newest new.at at_is);
  within = omega (arith, at);
  leads = λ i other e. elim (get_snoc old.steps.items step i other (sym (ap (λ s. slice_get s i) more) ∙ e)) [
    | inl b ↦ let lt = b.0 in let l = p.leads i other b.1 in
        record {
          forth = ap (λ t. after t other.redo) (earlier i (omega arith)) ∙ l.forth ∙ sym (earlier (i + 1) (omega arith));
          back = ap (λ t. after t other.undo) (earlier (i + 1) (omega arith)) ∙ l.back ∙ sym (earlier i (omega arith));
        }
    | inr b ↦ let is = b.0 in subst (λ s. Leads (tables i) s (tables (i + 1))) b.1 (record {
      forth = ap (λ t. after t step.redo) (last_was i is) ∙ ap (after end) redo ∙ sym (newest (i + 1) (omega arith));
      back = ap (λ t. after t step.undo) (newest (i + 1) (omega arith)) ∙ ap (λ t. after (after t change) step.undo) (sym hand) ∙ undo ∙ hand ∙ sym (last_was i is);
    })
  ];
  last = newest _ size;
  marked = λ i mark e. let m = p.marked i mark (sym (ap (λ s. slice_get s i) marks) ∙ e) in let low = m.0 in (
    omega (arith, size),
    subst (λ t. IsStateOf limits text (record { tables = t; token = mark.token })) (sym (earlier mark.at m.0)) m.1,
  );
  since = subst (λ t. IsSinceIn new.since t theirs) (ap (λ t. after t change) (ap p.tables at_end ∙ p.last) ∙ sym (newest new.at at_is)) (since (p.tables old.at) theirs p.since);
}
  where
    n : ℕ
    n = length old.steps.items

    tables : ℕ → Contents
    tables = grown p.tables n (after end change)

    size : length new.steps.items ≡ n + 1
    size = ap length more ∙ length-append old.steps.items (step ∷ [])

    at_is : new.at ≡ n + 1
    at_is = at ∙ size

    hand : old.tables.contents ≡ end
    hand = p.here ∙ ap p.tables at_end ∙ p.last

    earlier : (i : ℕ) → i ≤ n → tables i ≡ p.tables i
    earlier i h = grown_old p.tables n (after end change) i h

    newest : (i : ℕ) → i ≡ n + 1 → tables i ≡ after end change
    newest i is = grown_new p.tables n (after end change) i is

    last_was : (i : ℕ) → i ≡ length old.steps.items → tables i ≡ end
    last_was i is = earlier i (omega arith) ∙ ap p.tables is ∙ p.last

-- ---- states

pub marked_last : (limits : Limits) (text : List ℕ) (old new : Past) (end theirs : Contents) (token : List ℕ) (mark : Mark) → IsPast limits text old end theirs
    → IsStateOf limits text (record { tables = end; token = token }) → mark.at ≡ length old.steps.items → mark.token ≡ token
    → new.marks.items ≡ old.marks.items ++ mark ∷ [] → new.steps.items ≡ old.steps.items → new.at ≡ old.at → new.tables.contents ≡ old.tables.contents → new.since ≡ old.since
    → IsPast limits text new end theirs
marked_last limits text old new end theirs token mark p is at named more same at_is made since_is = record {
  tables = p.tables;
  here = made ∙ p.here ∙ ap p.tables (sym at_is);
  within = let w = p.within in let s = ap length same in omega arith;
  leads = λ i step e. p.leads i step (sym (ap (λ s. slice_get s i) same) ∙ e);
  last = ap (λ s. p.tables (length s)) same ∙ p.last;
  marked = λ i other e. elim (get_snoc old.marks.items mark i other (sym (ap (λ s. slice_get s i) more) ∙ e)) [
    | inl b ↦ let m = p.marked i other b.1 in (subst (λ s. other.at ≤ length s) (sym same) m.0, m.1)
    | inr b ↦ subst (λ o. (o.at ≤ length new.steps.items) × IsStateOf limits text (record { tables = p.tables o.at; token = o.token })) b.1 (
      (let s = ap length same in omega arith),
      subst (λ t. IsStateOf limits text (record { tables = t; token = mark.token })) (sym (ap p.tables at ∙ p.last))
          (subst (λ t. IsStateOf limits text (record { tables = end; token = t })) (sym named) is),
    )
  ];
  since = subst (λ s. IsSinceIn s (p.tables new.at) theirs) (sym since_is) (subst (λ a. IsSinceIn old.since (p.tables a) theirs) (sym at_is) p.since);
}

-- the one that has a mark
pub found_at : (limits : Limits) (text : List ℕ) (past : Past) (end theirs : Contents) (place : ℕ) (mark : Mark) (token : List ℕ) → IsPast limits text past end theirs
    → slice_get past.marks.items place ≡ Some mark → mark.token ≡ token → past.at ≡ mark.at
    → IsStateOf limits text (record { tables = past.tables.contents; token = token })
found_at limits text past end theirs place mark token p there named at =
    subst (λ t. IsStateOf limits text (record { tables = past.tables.contents; token = t })) named
    (subst (λ t. IsStateOf limits text (record { tables = t; token = mark.token })) (ap p.tables (sym at) ∙ sym p.here) (p.marked place mark there).1)

-- and is shown
pub shown_at : (P : Published → Type 0) (tables others : Contents) (token : List ℕ) (shown : Option Published) → P (record { tables = tables; token = token })
    → tables ≡ others → ((state : Published) → shown ≡ Some state → (state.tables ≡ others) × (state.token ≡ token)) → IfSome shown P
shown_at P tables others token None is same parts = tt
shown_at P tables others token (Some state) is same parts =
    let both = parts state refl in
    subst P (λ i. record { tables = (same ∙ sym both.0) i; token = (sym both.1) i }) is

-- ---- what nodes show

pub tables_shown : (shown : Option Published) (tables : Contents) → option_map (λ (p : Published). p.tables) shown ≡ Some tables → tables_or_none shown ≡ tables
tables_shown None tables e = absurd (cc)
tables_shown (Some state) tables e = cc

pub state_shown : (P : Published → Type 0) (shown : Option Published) (token : List ℕ) → token_of shown ≡ Some token → IfSome shown P
    → P (record { tables = tables_or_none shown; token = token })
state_shown P None token e h = absurd (cc)
state_shown P (Some state) token e h =
    let named : state.token ≡ token = cc in
    subst (λ t. P (record { tables = state.tables; token = t })) named h

pub shown_parts : (shown : Option Published) (tables : Contents) (token : List ℕ) → option_map (λ (p : Published). p.tables) shown ≡ Some tables → token_of shown ≡ Some token
    → (state : Published) → shown ≡ Some state → (state.tables ≡ tables) × (state.token ≡ token)
shown_parts None tables token e f state is = absurd (cc)
shown_parts (Some s) tables token e f state is =
    let same : s ≡ state = cc in
    let ours : s.tables ≡ tables = cc in
    let named : s.token ≡ token = cc in
    (ap (λ (p : Published). p.tables) (sym same) ∙ ours, ap (λ (p : Published). p.token) (sym same) ∙ named)

-- both show the same now
pub met : (since : Since) (ours theirs : Contents) → since.ours.items ≡ [] → since.theirs.items ≡ [] → ours ≡ theirs → IsSinceIn since ours theirs
met since ours theirs e f same known = record { base = theirs; ours_are = same ∙ ap (after_all theirs) (sym e); theirs_are = ap (after_all theirs) (sym f) }

-- one state alone is kept
pub begun : (limits : Limits) (text : List ℕ) (past : Past) (end theirs : Contents) → past.at ≡ 0 → past.tables.contents ≡ end → past.steps.items ≡ [] → past.marks.items ≡ []
    → IsSinceIn past.since end theirs → IsPast limits text past end theirs
begun limits text past end theirs at here steps marks since = record {
  tables = λ _. end;
  here = here;
  within = omega (arith, at);
  leads = λ i step e. let none : None ≡ Some step = ap (λ s. slice_get s i) (sym steps) ∙ e in absurd (cc);
  last = refl;
  marked = λ i mark e. let none : None ≡ Some mark = ap (λ s. slice_get s i) (sym marks) ∙ e in absurd (cc);
  since = since;
}

-- one change more
pub one_more : (end : Contents) (changes : List Change) (i : ℕ) (change : Change) → i < length changes → change ≡ get_or changes i change
    → after (after_all end (take i changes)) change ≡ after_all end (take (i + 1) changes)
one_more end [] i change lt is = absurd (omega arith)
one_more end (x ∷ xs) zero change lt is = ap (after end) is
one_more end (x ∷ xs) (suc i) change lt is =
    let next : suc (i + 1) ≡ suc i + 1 = omega arith in
    one_more (after end x) xs i change (omega arith) is ∙ ap (λ n. after_all end (take n (x ∷ xs))) next
