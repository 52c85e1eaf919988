-- Lemmas on options that have a rule on another one.
use Rattle.std.proofs.Common.{◌≡◌, refl, ap, sym, ◌∙◌, ℕ, Bool, true, false, List, [], ◌∷◌, ◌++◌, Option, Some, None, length, append_assoc, arith}
use Rattle.std.proofs.lemmas.Bool.Decides.{nat_tests}
use Rattle.std.proofs.lemmas.List.{nil_from_length}
use Rattle.std.specs.Borrow.{Bor}
use Rattle.std.specs.Prelude.{◌&&◌, not}
use Rattle.clap.proofs.SimpleLemmas.{not_empty}
use Rattle.clap.specs.Walk.{is_empty}
use Rattle.clap.specs.Words.{AddsConflicts, AddsRequirements, AddsRequiredUnless, Rule, Text, rule_of}
use Rattle.clap.specs.declared.builder.arg.Arg.{Arg}
use Rattle.clap.specs.declared.builder.arg.ArgPredicate.{ArgPredicate}
use Rattle.clap.specs.declared.builder.arg.ArgPredicate.TheVariants.{IsPresent}
use Rattle.feed_arguments.proofs.Conjunctions.{second, third, sixth}
use Rattle.feed_arguments.specs.Declaring.{IsDeclared, conflicts_by, default_rule, needs_by, rule_by, tie_rule, unless_by, value_rule}
use Rattle.feed_arguments.specs.Options.{tied}
use Rattle.feed_arguments.specs.declared.words.declaring.Declared.{Declared}
use Rattle.feed_arguments.specs.declared.words.declaring.Tie.TheVariants as tie
use Rattle.feed_arguments.specs.declared.words.declaring.Value.{Value}
use Rattle.feed_arguments.specs.declared.words.declaring.Value.TheVariants as value

is_more : {X : Type 0} (now xs : List X) (x : X) → now ≡ xs ++ x ∷ [] → is_empty now ≡ false
is_more now xs x more = ap is_empty more ∙ not_empty xs x

fails_first : (a b : Bool) → a ≡ false → (a && b) ≡ false
fails_first a b none = ap (λ x. x && b) none

fails_then : (a b : Bool) → b ≡ false → (a && b) ≡ false
fails_then true b none = none
fails_then false b none = refl

-- an option that requires another one, one that another may stand for, and one that another
-- excludes
requires : (old new : Arg) (x : ArgPredicate × Bor (List ℕ)) → AddsRequirements old new (x ∷ [])
    → rule_of new ≡ tied (rule_of old)
requires old new x (same, more) =
    ap rule_of same ∙ ap (λ free. record (rule_of old) { is_free = free })
    (fails_then _ _ (fails_then _ _ (fails_first _ _ (is_more new.needs.items old.needs.items x more))))

unless : (old new : Arg) (x : Bor (List ℕ)) → AddsRequiredUnless old new (x ∷ []) → rule_of new ≡ tied (rule_of old)
unless old new x (same, more) =
    ap rule_of same ∙ ap (λ free. record (rule_of old) { is_free = free })
    (fails_then (not old.exclusive) _ (fails_then (is_empty old.conflicts.items) _
    (fails_then (is_empty old.needs.items) _
    (fails_then (is_empty old.r_ifs.items) _ (fails_then (is_empty old.r_ifs_all.items) _
    (fails_first (is_empty new.r_unless.items) (is_empty old.r_unless_all.items)
    (is_more new.r_unless.items old.r_unless.items x more)))))))

excludes : (old new : Arg) (x : Bor (List ℕ)) → AddsConflicts old new (x ∷ []) → rule_of new ≡ tied (rule_of old)
excludes old new x (same, more) =
    ap rule_of same ∙ ap (λ free. record (rule_of old) { is_free = free })
    (fails_then _ _ (fails_first _ _ (is_more new.conflicts.items old.conflicts.items x more)))

-- an option without a tie has no rule on another one, so it has to do with none
value_is_free : (name : Text) (v : Value) → (value_rule name v).is_free ≡ true
value_is_free name value.Nothing = refl
value_is_free name (value.Text word) = refl
value_is_free name (value.Alone word) = refl
value_is_free name (value.Number word least most) = refl

default_is_free : (o : Option (Bor (List ℕ))) (r : Rule) → r.is_free ≡ true → (default_rule o r).is_free ≡ true
default_is_free None r e = e
default_is_free (Some value) r e = e

abbrev pub untied : Declared → Declared
untied d = record d { tie = tie.Free }

is_free : (d : Declared) (a : Arg) → rule_of a ≡ rule_by (untied d) → (rule_of a).is_free ≡ true
is_free d a is = ap (λ r. r.is_free) is ∙ default_is_free d.default _ (value_is_free d.name.now d.value)

empty_is_nil : {X : Type 0} (xs : List X) → is_empty xs ≡ true → xs ≡ []
empty_is_nil [] e = refl
empty_is_nil (x ∷ xs) e =
    let none : length (x ∷ xs) ≡ 0 = grind (arith, nat_tests) in
    nil_from_length (x ∷ xs) none

-- what an option without a tie has to do with others
record IsAlone (a : Arg) : Type 0 where
  needs : a.needs.items ≡ []
  unless : a.r_unless.items ≡ []
  conflicts : a.conflicts.items ≡ []

is_alone : (a : Arg) → (rule_of a).is_free ≡ true → IsAlone a
is_alone a free = record {
  needs = empty_is_nil _ (third (not a.exclusive) (is_empty a.conflicts.items) (is_empty a.needs.items)
      (is_empty a.r_ifs.items)
      (is_empty a.r_ifs_all.items) (is_empty a.r_unless.items) (is_empty a.r_unless_all.items) free);
  unless = empty_is_nil _ (sixth (not a.exclusive) (is_empty a.conflicts.items) (is_empty a.needs.items)
      (is_empty a.r_ifs.items)
      (is_empty a.r_ifs_all.items) (is_empty a.r_unless.items) (is_empty a.r_unless_all.items) free);
  conflicts = empty_is_nil _ (second (not a.exclusive) (is_empty a.conflicts.items) (is_empty a.needs.items)
      (is_empty a.r_ifs.items)
      (is_empty a.r_ifs_all.items) (is_empty a.r_unless.items) (is_empty a.r_unless_all.items) free);
}

-- with its tie, an option is the one that is declared
pub free_is : (d : Declared) (a : Arg) → d.tie ≡ tie.Free → rule_of a ≡ rule_by (untied d) → a.global ≡ false
    → IsDeclared d a
free_is d a t is local =
    let alone = is_alone a (is_free d a is) in
    let e : rule_by (untied d) ≡ rule_by d = ap (λ t. tie_rule t (rule_by (untied d))) (sym t) in
    record {
      rule = is ∙ e;
      needs = alone.needs ∙ ap needs_by (sym t);
      unless = alone.unless ∙ ap unless_by (sym t);
      conflicts = alone.conflicts ∙ ap conflicts_by (sym t);
      local = local;
    }

pub needs_is : (d : Declared) (old new : Arg) (other : Bor (List ℕ)) → d.tie ≡ tie.Needs other
    → rule_of old ≡ rule_by (untied d) → old.global ≡ false → AddsRequirements old new ((IsPresent, other) ∷ [])
    → IsDeclared d new
needs_is d old new other t is local adds =
    let alone = is_alone old (is_free d old is) in
    let e : tied (rule_by (untied d)) ≡ rule_by d = ap (λ t. tie_rule t (rule_by (untied d))) (sym t) in
    record {
      rule = requires old new _ adds ∙ ap tied is ∙ e;
      needs = adds.1 ∙ ap (λ xs. xs ++ (IsPresent, other) ∷ []) alone.needs ∙ ap needs_by (sym t);
      unless = ap (λ a. a.r_unless.items) adds.0 ∙ alone.unless ∙ ap unless_by (sym t);
      conflicts = ap (λ a. a.conflicts.items) adds.0 ∙ alone.conflicts ∙ ap conflicts_by (sym t);
      local = ap (λ a. a.global) adds.0 ∙ local;
    }

pub unless_is : (d : Declared) (old new : Arg) (other : Bor (List ℕ)) → d.tie ≡ tie.Unless other
    → rule_of old ≡ rule_by (untied d) → old.global ≡ false → AddsRequiredUnless old new (other ∷ []) → IsDeclared d new
unless_is d old new other t is local adds =
    let alone = is_alone old (is_free d old is) in
    let e : tied (rule_by (untied d)) ≡ rule_by d = ap (λ t. tie_rule t (rule_by (untied d))) (sym t) in
    record {
      rule = unless old new _ adds ∙ ap tied is ∙ e;
      needs = ap (λ a. a.needs.items) adds.0 ∙ alone.needs ∙ ap needs_by (sym t);
      unless = adds.1 ∙ ap (λ xs. xs ++ other ∷ []) alone.unless ∙ ap unless_by (sym t);
      conflicts = ap (λ a. a.conflicts.items) adds.0 ∙ alone.conflicts ∙ ap conflicts_by (sym t);
      local = ap (λ a. a.global) adds.0 ∙ local;
    }

pub excludes_is : (d : Declared) (old new : Arg) (other : Bor (List ℕ)) → d.tie ≡ tie.Excludes other
    → rule_of old ≡ rule_by (untied d) → old.global ≡ false → AddsConflicts old new (other ∷ []) → IsDeclared d new
excludes_is d old new other t is local adds =
    let alone = is_alone old (is_free d old is) in
    let e : tied (rule_by (untied d)) ≡ rule_by d = ap (λ t. tie_rule t (rule_by (untied d))) (sym t) in
    record {
      rule = excludes old new _ adds ∙ ap tied is ∙ e;
      needs = ap (λ a. a.needs.items) adds.0 ∙ alone.needs ∙ ap needs_by (sym t);
      unless = ap (λ a. a.r_unless.items) adds.0 ∙ alone.unless ∙ ap unless_by (sym t);
      conflicts = adds.1 ∙ ap (λ xs. xs ++ other ∷ []) alone.conflicts ∙ ap conflicts_by (sym t);
      local = ap (λ a. a.global) adds.0 ∙ local;
    }

-- an option that excludes one more, and further ones
pub excludes_more : (old middle new : Arg) (first : Bor (List ℕ)) (others : List (Bor (List ℕ)))
    → AddsConflicts old middle (first ∷ []) → AddsConflicts middle new others
    → AddsConflicts old new (first ∷ others)
excludes_more old middle new first others (same, more) (still, further) = (
  still ∙ ap {A = Arg} (λ a. record a { conflicts = new.conflicts }) same,
  further ∙ ap (λ xs. xs ++ others) more ∙ append_assoc old.conflicts.items (first ∷ []) others,
)

cons_is_some : {X : Type 0} (x : X) (xs : List X) → is_empty (x ∷ xs) ≡ false
cons_is_some x xs = grind (arith, nat_tests)

is_some_more : {X : Type 0} (now xs : List X) (x : X) (others : List X) → now ≡ xs ++ x ∷ others → is_empty now ≡ false
is_some_more now [] x others more = ap is_empty more ∙ cons_is_some x others
is_some_more now (y ∷ xs) x others more = ap is_empty more ∙ cons_is_some y (xs ++ x ∷ others)

excludes_all : (old new : Arg) (x : Bor (List ℕ)) (others : List (Bor (List ℕ))) → AddsConflicts old new (x ∷ others)
    → rule_of new ≡ tied (rule_of old)
excludes_all old new x others (same, more) =
    ap rule_of same ∙ ap (λ free. record (rule_of old) { is_free = free })
    (fails_then _ _ (fails_first _ _ (is_some_more new.conflicts.items old.conflicts.items x others more)))

pub replaces_is : (d : Declared) (old new : Arg) (first : Bor (List ℕ)) (others : Bor (List (Bor (List ℕ))))
    → d.tie ≡ tie.Replaces first others → rule_of old ≡ rule_by (untied d) → old.global ≡ false
    → AddsConflicts old new (first ∷ others.now) → IsDeclared d new
replaces_is d old new first others t is local adds =
    let alone = is_alone old (is_free d old is) in
    let e : tied (rule_by (untied d)) ≡ rule_by d = ap (λ t. tie_rule t (rule_by (untied d))) (sym t) in
    record {
      rule = excludes_all old new first others.now adds ∙ ap tied is ∙ e;
      needs = ap (λ a. a.needs.items) adds.0 ∙ alone.needs ∙ ap needs_by (sym t);
      unless = ap (λ a. a.r_unless.items) adds.0 ∙ alone.unless ∙ ap unless_by (sym t);
      conflicts = adds.1 ∙ ap (λ xs. xs ++ first ∷ others.now) alone.conflicts ∙ ap conflicts_by (sym t);
      local = ap (λ a. a.global) adds.0 ∙ local;
    }
