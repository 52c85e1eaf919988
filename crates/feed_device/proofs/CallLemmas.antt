-- How often devices were called.
use Rattle.std.proofs.Common.{◌≡◌, refl, ap, sym, ◌∙◌, subst, ℕ, suc, ◌+◌, ◌⊎◌, inl, inr, arith, List, [], ◌∷◌, ◌++◌, append_assoc, Option, Some, None}
use Rattle.std.specs.Prelude.{option_map, Result}
use Rattle.feed_device.specs.declared.device.Stop.{Stop}
use Rattle.feed_device.specs.Calls.{CalledOnce, CalledSince, CalledAtLeastOnce, Answers, HasAnswered, AnsweredSince, AnsweredAtLeastOnce}

pub called_once : (old new : Option ℕ) → CalledOnce old new → CalledAtLeastOnce old new
called_once None new is = (0, is)
called_once (Some n) new is = let one : suc n ≡ suc 0 + n = omega arith in (0, is ∙ ap (λ x. Some x) one)

pub called_more : (old new later : Option ℕ) → CalledAtLeastOnce old new → CalledOnce new later → CalledAtLeastOnce old later
called_more None new later some is = (suc some.0, is ∙ ap (option_map (λ x. suc x)) some.1)
called_more (Some n) new later some is =
    let more = some.0 in
    let one : suc (suc more + n) ≡ suc (suc more) + n = omega arith in
    (suc more, is ∙ ap (option_map (λ x. suc x)) some.1 ∙ ap (λ x. Some x) one)

-- and after one more call
pub called_on : {W : Type 0} (old before new : Option ℕ) → (W × (before ≡ old)) ⊎ CalledAtLeastOnce old before → CalledOnce before new → CalledAtLeastOnce old new
called_on old before new (inl (_, none)) once = called_once old new (subst (λ b. CalledOnce b new) none once)
called_on old before new (inr some) once = called_more old before new some once

pub called_or : {V W : Type 0} (first old before new : Option ℕ) → old ≡ first → (W × (before ≡ old)) ⊎ CalledAtLeastOnce old before → CalledOnce before new ⊎ V → CalledAtLeastOnce first new ⊎ V
called_or first old before new same so (inl once) = inl (subst (λ a. CalledAtLeastOnce a new) same (called_on old before new so once))
called_or first old before new same so (inr paused) = inr paused

-- ---- as often, or more often

pub since_same : (old new : Option ℕ) → new ≡ old → CalledSince old new
since_same None new is = (0, is)
since_same (Some n) new is = let one : n ≡ 0 + n = omega arith in (0, is ∙ ap (λ x. Some x) one)

pub since_once : (old new : Option ℕ) → CalledOnce old new → CalledSince old new
since_once None new is = (1, is)
since_once (Some n) new is = let one : suc n ≡ 1 + n = omega arith in (1, is ∙ ap (λ x. Some x) one)

pub since_then : (old new later : Option ℕ) → CalledSince old new → CalledSince new later → CalledSince old later
since_then None new later one two = (0, two.1 ∙ ap (option_map (λ x. two.0 + x)) one.1)
since_then (Some n) new later one two =
    let sum : two.0 + (one.0 + n) ≡ (two.0 + one.0) + n = omega arith in
    (two.0 + one.0, two.1 ∙ ap (option_map (λ x. two.0 + x)) one.1 ∙ ap (λ x. Some x) sum)

pub least_then : (old new later : Option ℕ) → CalledAtLeastOnce old new → CalledSince new later → CalledAtLeastOnce old later
least_then None new later one two = (0, two.1 ∙ ap (option_map (λ x. two.0 + x)) one.1)
least_then (Some n) new later one two =
    let sum : two.0 + (suc one.0 + n) ≡ suc (two.0 + one.0) + n = omega arith in
    (two.0 + one.0, two.1 ∙ ap (option_map (λ x. two.0 + x)) one.1 ∙ ap (λ x. Some x) sum)

pub then_least : (old new later : Option ℕ) → CalledSince old new → CalledAtLeastOnce new later → CalledAtLeastOnce old later
then_least None new later one two = (0, two.1 ∙ ap (option_map (λ x. suc two.0 + x)) one.1)
then_least (Some n) new later one two =
    let sum : suc two.0 + (one.0 + n) ≡ suc (two.0 + one.0) + n = omega arith in
    (two.0 + one.0, two.1 ∙ ap (option_map (λ x. suc two.0 + x)) one.1 ∙ ap (λ x. Some x) sum)

-- ---- what was answered

pub answered_once : {A : Type 0} (answer : Result A Stop) (old new : Answers A) → HasAnswered answer old new → AnsweredAtLeastOnce old new
answered_once answer old new is = (answer, [], is)

option_same : {A : Type 0} (one : Answers A) → option_map (λ all. [] ++ all) one ≡ one
option_same None = refl
option_same (Some all) = refl

pub answers_same : {A : Type 0} (old new : Answers A) → new ≡ old → AnsweredSince old new
answers_same None new is = ([], is)
answers_same (Some all) new is = ([], is)

pub answers_once : {A : Type 0} (answer : Result A Stop) (old new : Answers A) → HasAnswered answer old new → AnsweredSince old new
answers_once answer old new is = (answer ∷ [], is)

pub answers_then : {A : Type 0} (old new later : Answers A) → AnsweredSince old new → AnsweredSince new later → AnsweredSince old later
answers_then None new later one two = ([], two.1 ∙ ap (option_map (λ all. two.0 ++ all)) one.1)
answers_then (Some all) new later one two =
    (two.0 ++ one.0, two.1 ∙ ap (option_map (λ all. two.0 ++ all)) one.1 ∙ ap (λ x. Some x) (sym (append_assoc two.0 one.0 all)))

pub answered_then : {A : Type 0} (old new later : Answers A) → AnsweredAtLeastOnce old new → AnsweredSince new later → AnsweredAtLeastOnce old later
answered_then old new later (answer, more, is) ([], after) =
    (answer, more, after ∙ option_same new ∙ is)
answered_then None new later (answer, more, is) (first ∷ rest, after) = (answer, more, after ∙ ap (option_map (λ all. (first ∷ rest) ++ all)) is)
answered_then (Some all) new later (answer, more, is) (first ∷ rest, after) = (
  first,
  rest ++ (answer ∷ more),
  after ∙ ap (option_map (λ all. (first ∷ rest) ++ all)) is
      ∙ ap (λ x. Some (first ∷ x)) (sym (append_assoc rest (answer ∷ more) all)),
)

pub then_answered : {A : Type 0} (old new later : Answers A) → AnsweredSince old new → AnsweredAtLeastOnce new later → AnsweredAtLeastOnce old later
then_answered None new later one (answer, more, is) = (answer, more, is ∙ ap (option_map (λ all. (answer ∷ more) ++ all)) one.1)
then_answered (Some all) new later one (answer, more, is) = (
  answer,
  more ++ one.0,
  is ∙ ap (option_map (λ all. (answer ∷ more) ++ all)) one.1
      ∙ ap (λ x. Some (answer ∷ x)) (sym (append_assoc more one.0 all)),
)
