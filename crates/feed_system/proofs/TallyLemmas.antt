-- Who has how many connections, as they come and go.
use Rattle.std.proofs.Common.{◌≡◌, refl, sym, ap, ◌∙◌, subst, ℕ, zero, suc, ◌+◌, ◌<◌, ◌≤◌, ◌-◌, ◌^◌, arith}
use Rattle.std.proofs.Common.{Bool, true, false, cond, List, [], ◌∷◌, ◌++◌, length, Option, Some, None, min}
use Rattle.std.specs.Prelude.{if◌then◌else◌, slice_set}
use Rattle.std.specs.Option.{unwrap_or}
use Rattle.std.specs.BTreeMap.{BTreeMap, get, Updates, IsEmpty}
use Rattle.std.specs.Map.{lookup}
use Rattle.std.specs.declared.cmp.Ordering.{Ordering}
use Rattle.std.specs.declared.cmp.Ordering.TheVariants.{Less, Equal, Greater}
use Rattle.std.specs.Ordering.{is_eq, nat_cmp}
use Rattle.std.proofs.lemmas.Map.Lookups.{exact_unsigned}
use Rattle.std.proofs.lemmas.List.Sums.{sum_by-set, sum_by_push, count_by-le-length}
use Rattle.feed_system.specs.declared.tally.Owner.{Owner}
use Rattle.feed_system.specs.declared.tally.Owner.TheVariants.{V4, V6}
use Rattle.feed_system.specs.Tally.{compared, count_in, is_of, is_same, holders, owner_at, HaveRightTallies, AreFew}

-- ---- who it is

equal_is : (o : Ordering) → is_eq o ≡ true → o ≡ Equal
equal_is Less same = absurd (cc)
equal_is Equal same = refl
equal_is Greater same = absurd (cc)

same_is : (a b : Owner) → is_eq (compared a b) ≡ true → a ≡ b
same_is (V4 a) (V4 b) same = ap (λ x. V4 x) (exact_unsigned a b (equal_is (nat_cmp a b) same))
same_is (V6 a) (V6 b) same = ap (λ x. V6 x) (exact_unsigned a b (equal_is (nat_cmp a b) same))
same_is (V4 a) (V6 b) same = absurd (cc)
same_is (V6 a) (V4 b) same = absurd (cc)

-- ---- places

-- 1 where one counts as somebody's
part : Owner → Option Owner → ℕ
part owner held = cond (is_of owner held) 1 0

pub owner_at_pushed : (owners : List (Option Owner)) (at : ℕ)
    → owner_at (owners ++ None ∷ []) at ≡ owner_at owners at
owner_at_pushed [] zero = refl
owner_at_pushed [] (suc n) = refl
owner_at_pushed (p ∷ ps) zero = refl
owner_at_pushed (p ∷ ps) (suc n) = owner_at_pushed ps n

pub holders_pushed : (owner : Owner) (owners : List (Option Owner))
    → holders owner (owners ++ None ∷ []) ≡ holders owner owners
unfolding holders part
holders_pushed owner owners = omega (arith, sum_by_push (part owner) owners None)

holders_set : (owner : Owner) (owners : List (Option Owner)) (at : ℕ) (held next : Option Owner)
    → at < length owners → owner_at owners at ≡ held
    → holders owner (slice_set owners at next) + part owner held ≡ holders owner owners + part owner next
unfolding holders part
holders_set owner owners at held next within is =
    subst (λ h. holders owner (slice_set owners at next) + part owner h ≡ holders owner owners + part owner next) is
    (sum_by-set (part owner) owners at next None within)

holders_few : (owner : Owner) (owners : List (Option Owner)) → holders owner owners ≤ length owners
unfolding holders
holders_few owner owners = count_by-le-length (is_of owner) owners

part_is : (b : Bool) (k q : Owner) → is_eq (compared k q) ≡ b → part q (Some k) ≡ cond b 1 0
unfolding part
part_is b k q is = ap (λ b. cond b 1 0) is

part_none : (q : Owner) → part q None ≡ 0
unfolding part
part_none q = refl

-- what a map has at a key after a step
has : (b : Bool) (k q : Owner) (w : Option ℕ) (old new : BTreeMap Owner ℕ) → is_eq (compared k q) ≡ b
    → Updates compared old new k w
    → unwrap_or (get compared new q) 0 ≡ unwrap_or (cond b w (get compared old q)) 0
has b k q w old new is updates =
    ap (λ o. unwrap_or o 0) (updates.0 q ∙ ap (λ b. cond b w (get compared old q)) is)

-- ---- one comes

-- what it takes for a connection to come to a place
pub record Comes (k : Owner) (owners : List (Option Owner)) (at : ℕ) : Type 0 where
  pub within : at < length owners
  pub free : owner_at owners at ≡ None

pub comes : {k : Owner} {owners : List (Option Owner)} {at : ℕ} → at < length owners → owner_at owners at ≡ None
    → Comes k owners at
comes within free = record { within = within; free = free }

more : {k : Owner} {owners : List (Option Owner)} {at : ℕ} → Comes k owners at → (q : Owner) (b : Bool)
    → is_eq (compared k q) ≡ b → holders q (slice_set owners at (Some k)) ≡ holders q owners + cond b 1 0
more {k} {owners} {at} coming q b is =
    let set = holders_set q owners at None (Some k) coming.within coming.free in
    let one = part_is b k q is in
    let none = part_none q in
    omega (arith, set, one, none)

pub counted_more : {k : Owner} {owners : List (Option Owner)} {at : ℕ} → Comes k owners at
    → (n m : ℕ) (old new : BTreeMap Owner ℕ) → n ≡ holders k owners → m ≡ min (n + 1) (2 ^ 64 - 1)
    → length owners < 2 ^ 63 → Updates compared old new k (Some m)
    → HaveRightTallies old owners → HaveRightTallies new (slice_set owners at (Some k))
counted_more {k} {owners} {at} coming n m old new is one small updates counted =
    λ q. by q (is_eq (compared k q)) refl
  where
    by : (q : Owner) (b : Bool) → is_eq (compared k q) ≡ b
        → unwrap_or (get compared new q) 0 ≡ holders q (slice_set owners at (Some k))
    by q true same =
        let step = has true k q (Some m) old new same updates in
        let so = more coming q true same in
        let its : holders k owners ≡ holders q owners = ap (λ x. holders x owners) (same_is k q same) in
        let few = holders_few k owners in
        omega (arith, step, so, its, is, one, small, few)
    by q false differs =
        let step = has false k q (Some m) old new differs updates in
        let so = more coming q false differs in
        let was = counted q in
        omega (arith, step, so, was)

pub few_more : {k : Owner} {owners : List (Option Owner)} {at : ℕ} → Comes k owners at
    → (most : ℕ) → holders k owners < most → AreFew most owners → AreFew most (slice_set owners at (Some k))
few_more {k} {owners} {at} coming most room few =
    λ q. by q (is_eq (compared k q)) refl
  where
    by : (q : Owner) (b : Bool) → is_eq (compared k q) ≡ b → holders q (slice_set owners at (Some k)) ≤ most
    by q true same =
        let so = more coming q true same in
        let its : holders k owners ≡ holders q owners = ap (λ x. holders x owners) (same_is k q same) in
        omega (arith, so, its, room)
    by q false differs =
        let so = more coming q false differs in
        let was = few q in
        omega (arith, so, was)

-- ---- one goes

-- a connection of somebody is at a place
pub record Goes (k : Owner) (owners : List (Option Owner)) (at : ℕ) : Type 0 where
  pub within : at < length owners
  pub held : owner_at owners at ≡ Some k

pub goes : {k : Owner} {owners : List (Option Owner)} {at : ℕ} → at < length owners → owner_at owners at ≡ Some k
    → Goes k owners at
goes within held = record { within = within; held = held }

less : {k : Owner} {owners : List (Option Owner)} {at : ℕ} → Goes k owners at → (q : Owner) (b : Bool)
    → is_eq (compared k q) ≡ b → holders q (slice_set owners at None) + cond b 1 0 ≡ holders q owners
less {k} {owners} {at} going q b is =
    let set = holders_set q owners at (Some k) None going.within going.held in
    let one = part_is b k q is in
    let none = part_none q in
    omega (arith, set, one, none)

pub counted_less : {k : Owner} {owners : List (Option Owner)} {at : ℕ} → Goes k owners at
    → (n : ℕ) (old new : BTreeMap Owner ℕ) → n ≡ holders k owners
    → ((q : Owner) → count_in new q ≡ (if is_same k q then n - 1 else count_in old q))
    → HaveRightTallies old owners → HaveRightTallies new (slice_set owners at None)
counted_less {k} {owners} {at} going n old new is lower counted =
    λ q. by q (is_eq (compared k q)) refl
  where
    by : (q : Owner) (b : Bool) → is_eq (compared k q) ≡ b → count_in new q ≡ holders q (slice_set owners at None)
    by q true same =
        let step : count_in new q ≡ n - 1 = lower q ∙ ap (λ b. if b then n - 1 else count_in old q) same in
        let so = less going q true same in
        let its : holders k owners ≡ holders q owners = ap (λ x. holders x owners) (same_is k q same) in
        omega (arith, step, so, its, is)
    by q false differs =
        let step : count_in new q ≡ count_in old q = lower q ∙ ap (λ b. if b then n - 1 else count_in old q) differs in
        let so = less going q false differs in
        let was = counted q in
        omega (arith, step, so, was)

pub fewer : {k : Owner} {owners : List (Option Owner)} {at : ℕ} → Goes k owners at → (q : Owner)
    → holders q (slice_set owners at None) ≤ holders q owners
fewer {k} going q = let so = less going q (is_eq (compared k q)) refl in omega (arith, so)

pub few_less : {k : Owner} {owners : List (Option Owner)} {at : ℕ} → Goes k owners at → (most : ℕ)
    → AreFew most owners → AreFew most (slice_set owners at None)
few_less going most few = λ q. let so = fewer going q in let was = few q in omega (arith, so, was)

-- ---- nobody

pub counted_nobody : (counts : BTreeMap Owner ℕ) (owners : List (Option Owner)) → IsEmpty counts → owners ≡ []
    → HaveRightTallies counts owners
unfolding holders
counted_nobody counts owners empty none =
    λ q. ap (λ es. unwrap_or (lookup (λ k. is_eq (compared q k)) es) 0) empty ∙ sym (ap (holders q) none)

pub few_nobody : (most : ℕ) (owners : List (Option Owner)) → owners ≡ [] → AreFew most owners
unfolding holders
few_nobody most owners none = λ q. subst (λ os. holders q os ≤ most) (sym none) (omega arith)
