-- What the first bytes of a line say of its opening.
use Rattle.std.proofs.Common.{◌≡◌, refl, ap, ℕ, drop, cond, true, false, List, [], ◌∷◌, length, arith, None, Some}
use Rattle.std.specs.Prelude.{◌==◌, codes, slice_index_or}
use Rattle.std.specs.List.{starts_with}
use Rattle.feed_records.specs.Connections.{is_status_line, is_since, is_success, since_in, status_in}

-- ---- a status line

pub status_hit : (bs : List ℕ) → is_status_line bs ≡ true → status_in bs ≡ Some (drop 5 bs)
unfolding status_in
status_hit [] e = absurd (cc)
status_hit (b ∷ bs) e = ap (λ t. cond t (Some (drop 5 (b ∷ bs))) (status_in bs)) e

pub status_miss : (bs : List ℕ) → is_status_line bs ≡ false → status_in bs ≡ status_in (drop 1 bs)
unfolding status_in
status_miss [] e = refl
status_miss (b ∷ bs) e = ap (λ t. cond t (Some (drop 5 (b ∷ bs))) (status_in bs)) e

pub status_none : (bs : List ℕ) → length bs ≡ 0 → status_in bs ≡ None
unfolding status_in
status_none [] e = refl
status_none (b ∷ bs) e = absurd (omega arith)

-- and a line that says a token
pub since_hit : (bs : List ℕ) → is_since bs ≡ true → since_in bs ≡ Some (drop 19 bs)
unfolding since_in
since_hit [] e = absurd (cc)
since_hit (b ∷ bs) e = ap (λ t. cond t (Some (drop 19 (b ∷ bs))) (since_in bs)) e

pub since_miss : (bs : List ℕ) → is_since bs ≡ false → since_in bs ≡ since_in (drop 1 bs)
unfolding since_in
since_miss [] e = refl
since_miss (b ∷ bs) e = ap (λ t. cond t (Some (drop 19 (b ∷ bs))) (since_in bs)) e

pub since_none : (bs : List ℕ) → length bs ≡ 0 → since_in bs ≡ None
unfolding since_in
since_none [] e = refl
since_none (b ∷ bs) e = absurd (omega arith)

pub success_hit : (bs : List ℕ) → (slice_index_or bs 0 0 == 32) ≡ true → is_success bs ≡ starts_with (λ x y. x == y) (drop 1 bs) (codes "200")
unfolding is_success
success_hit [] e = absurd (cc)
success_hit (b ∷ bs) e = ap (λ t. cond t (starts_with (λ x y. x == y) bs (codes "200")) (is_success bs)) e

pub success_miss : (bs : List ℕ) → (slice_index_or bs 0 0 == 32) ≡ false → is_success bs ≡ is_success (drop 1 bs)
unfolding is_success
success_miss [] e = refl
success_miss (b ∷ bs) e = ap (λ t. cond t (starts_with (λ x y. x == y) bs (codes "200")) (is_success bs)) e

pub success_none : (bs : List ℕ) → length bs ≡ 0 → is_success bs ≡ false
unfolding is_success
success_none [] e = refl
success_none (b ∷ bs) e = absurd (omega arith)
