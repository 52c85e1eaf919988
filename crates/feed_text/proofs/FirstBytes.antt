-- The first byte of a value's text tells its kind.
use Rattle.std.proofs.Common.{◌≡◌, ℕ, zero, suc, true, List, [], refl, sym, subst, append-nil}
use Rattle.std.proofs.lemmas.Bool.{ne_eqb}
use Rattle.feed_text.specs.declared.Kind.{Kind}
use Rattle.feed_text.specs.declared.Kind.TheVariants as kind
use Rattle.feed_text.specs.Json.{kind_at}
use Rattle.feed_text.specs.Reading.{first}
use Rattle.feed_text.proofs.Grammar.{IsNumber, IsScalar, IsOver, IsJson, Values}
use Rattle.feed_text.proofs.Depths.{scalar_over}
use Rattle.feed_text.proofs.Numbers.{begins_number, number_first, apart}

tells : (text shown : List ℕ) (k : Kind) → kind_at shown ≡ k → text ≡ shown → kind_at text ≡ k
tells text shown k h e = subst (λ (t : List ℕ). kind_at t ≡ k) (sym e) h

number_tells : (text : List ℕ) → IsNumber text → kind_at text ≡ kind.Num
unfolding kind_at
number_tells text h =
    let c = first text in
    let n : begins_number c ≡ true = subst (λ (t : List ℕ). begins_number (first t) ≡ true) (append-nil text) (number_first text [] h) in
    rw (ne_eqb c 123 (apart begins_number c 123 n refl), ne_eqb c 91 (apart begins_number c 91 n refl), ne_eqb c 34 (apart begins_number c 34 n refl), ne_eqb c 116 (apart begins_number c 116 n refl), ne_eqb c 102 (apart begins_number c 102 n refl), ne_eqb c 110 (apart begins_number c 110 n refl)) refl

over_tells : (V : Values) (text : List ℕ) (k : Kind) → IsOver V text k → kind_at text ≡ k
unfolding kind_at
over_tells V text kind.Object h = tells text _ kind.Object refl h.2
over_tells V text kind.Array h = tells text _ kind.Array refl h.2
over_tells V text kind.Str h = tells text _ kind.Str refl h.2
over_tells V text kind.Num h = number_tells text h
over_tells V text kind.True h = tells text _ kind.True refl h
over_tells V text kind.False h = tells text _ kind.False refl h
over_tells V text kind.Null h = tells text _ kind.Null refl h

pub kind_told : (levels : ℕ) (text : List ℕ) (k : Kind) → IsJson levels text k → kind_at text ≡ k
unfolding IsJson
kind_told zero text k h = over_tells IsScalar text k (scalar_over IsScalar text k h)
kind_told (suc levels) text k h = over_tells (IsJson levels) text k h
