-- Two lines of a server whose tokens are no numbers.
use Rattle.std.proofs.Common.{◌≡◌, ◌≢◌, refl, sym, ap, subst, ℕ, zero, suc, ◌≤◌, Bool, true, false, true≢false, ◌&&◌, nat_lt, ltb-true, arith, List, [], ◌∷◌, length}
use Rattle.std.specs.Prelude.{codes, AllPairs, IsAscii}
use Rattle.std.proofs.lemmas.Str.{IsUtf8-from_ascii}
use Rattle.feed_text.specs.Strings.{written_string}
use Rattle.feed_changes.specs.Changes.{IsChange}
use Rattle.feed_changes.specs.Names.{IsName}
use Rattle.feed_node.specs.Mirroring.{new_mirror}
use Rattle.feed_live.specs.Examples.{text, one, other, TheirFeedIsHonest}
use Rattle.feed_live.specs.Telling.{tokened_text, tokened_log, TokenedIsHonest}
use Rattle.feed_files.specs.Input.{IsHonestInput}

pub text_is : tokened_text (one ∷ other ∷ []) ≡ text
unfolding written_string
text_is = refl

-- ---- names

abbrev below : List ℕ → Bool
below [] = true
below (b ∷ bs) = nat_lt b 128 && below bs

is_ascii : (bs : List ℕ) → below bs ≡ true → IsAscii bs
is_ascii [] e i = omega arith
is_ascii (b ∷ bs) e zero = ltb-true b 128 (by (nat_lt b 128) (below bs) e)
  where
    by : (x y : Bool) → (x && y) ≡ true → x ≡ true
    by true y f = refl
    by false y f = f
is_ascii (b ∷ bs) e (suc i) = is_ascii bs (by (nat_lt b 128) (below bs) e) i
  where
    by : (x y : Bool) → (x && y) ≡ true → y ≡ true
    by true y f = f
    by false y f = absurd (true≢false (sym f))

pub a_name : (bs : List ℕ) → below bs ≡ true → length bs ≤ 255 → IsName bs
a_name bs e short = (IsUtf8-from_ascii bs (is_ascii bs e), short)

apart : codes "cds7" ≢ codes "cds1495"
apart e = let l = ap length e in absurd (omega (arith, l))

distinct : AllPairs (λ x y. x ≢ y) (codes "cds7" ∷ codes "cds1495" ∷ [])
distinct zero zero d less within = absurd (omega arith)
distinct zero (suc zero) d less within = apart
distinct zero (suc (suc j)) d less within = absurd (omega (arith, within))
distinct (suc i) zero d less within = absurd (omega (arith, less))
distinct (suc i) (suc zero) d less within = absurd (omega (arith, less))
distinct (suc i) (suc (suc j)) d less within = absurd (omega (arith, within))

pub their_feed_is_honest : TokenedIsHonest → TheirFeedIsHonest
their_feed_is_honest law limits is_object =
    let change : IsChange one.0 = (a_name (codes "teams") refl (omega arith), a_name (codes "1") refl (omega arith), is_object) in
    subst (IsHonestInput limits (tokened_log one (other ∷ [])) (new_mirror limits)) text_is
    (law limits one (other ∷ []) (new_mirror limits)
    (record { changes = (change, (change, tt)); names = (a_name (codes "cds7") refl (omega arith), (a_name (codes "cds1495") refl (omega arith), tt)); distinct = distinct }) refl)
