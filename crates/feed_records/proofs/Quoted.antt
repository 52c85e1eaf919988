-- No connection begins before a quotation mark of a line.
use Rattle.std.proofs.Common.{◌≡◌, refl, sym, ap, ◌∙◌, ℕ, zero, suc, ◌-◌, ◌<◌, ◌≤◌, get_or, take, drop, cond, Bool, true, false, true≢false, List, [], ◌∷◌, length, arith, Option, Some}
use Rattle.std.specs.Prelude.{◌==◌, ◌&&◌, ◌||◌, not, codes}
use Rattle.std.proofs.lemmas.List.Folds.{list_any_at}
use Rattle.std.specs.List.{list_any, starts_with}
use Rattle.feed_records.specs.Connections.{is_since, is_status_line, since_in, status_in}
use Rattle.feed_records.proofs.EndedLines.{tail_is}

neither : (s t : Bool) → (s || t) ≡ false → (s ≡ false) × (t ≡ false)
neither true t h = absurd (true≢false h)
neither false t h = (refl, h)

less : (s p q : Bool) → (p && q) ≡ false → ((s && p) && q) ≡ false
less true p q h = h
less false p q h = refl

-- bytes with a quotation mark don't begin with these, which have none, with none behind them
has_one : (first bs : List ℕ) (n : ℕ) → list_any (λ b. b == 34) first ≡ false → n < length bs → get_or bs n 0 ≡ 34
    → (starts_with (λ x y. x == y) bs first && not (list_any (λ b. b == 34) (drop (length first) bs))) ≡ false
has_one [] bs n none h e = ap not (list_any_at (λ b. b == 34) bs n 0 h (ap (λ b. b == 34) e))
has_one (m ∷ ms) [] n none h e = absurd (omega arith)
has_one (m ∷ ms) (b ∷ bs) zero none h e =
    let other : (m == b) ≡ false = ap (λ x. m == x) e ∙ (neither (m == 34) (list_any (λ b. b == 34) ms) none).0 in
    ap (λ t. (t && starts_with (λ x y. x == y) bs ms) && not (list_any (λ b. b == 34) (drop (length ms) bs))) other
has_one (m ∷ ms) (b ∷ bs) (suc n) none h e =
    less (m == b) _ _ (has_one ms bs n (neither (m == 34) (list_any (λ b. b == 34) ms) none).1 (omega arith) e)

narrower : (s a b : Bool) → (s && not a) ≡ false → (s && not (a || b)) ≡ false
narrower true true b h = refl
narrower true false b h = absurd (true≢false h)
narrower false a b h = refl

not_since : (bs : List ℕ) (n : ℕ) → n < length bs → get_or bs n 0 ≡ 34 → is_since bs ≡ false
not_since bs n h e = has_one (codes "# connection since ") bs n refl h e

not_status : (bs : List ℕ) (n : ℕ) → n < length bs → get_or bs n 0 ≡ 34 → is_status_line bs ≡ false
not_status bs n h e = narrower _ _ _ (has_one (codes "HTTP/") bs n refl h e)

-- so what is found in a line is found behind any of its quotation marks
since_behind : (bs : List ℕ) (n : ℕ) → n < length bs → get_or bs n 0 ≡ 34 → since_in (drop (suc n) bs) ≡ since_in bs
unfolding since_in
since_behind [] n h e = absurd (omega arith)
since_behind (b ∷ bs) zero h e = sym (ap (λ t. cond t (Some (drop 19 (b ∷ bs))) (since_in bs)) (not_since (b ∷ bs) 0 h e))
since_behind (b ∷ bs) (suc n) h e =
    since_behind bs n (omega arith) e ∙ sym (ap (λ t. cond t (Some (drop 19 (b ∷ bs))) (since_in bs)) (not_since (b ∷ bs) (suc n) h e))

status_behind : (bs : List ℕ) (n : ℕ) → n < length bs → get_or bs n 0 ≡ 34 → status_in (drop (suc n) bs) ≡ status_in bs
unfolding status_in
status_behind [] n h e = absurd (omega arith)
status_behind (b ∷ bs) zero h e = sym (ap (λ t. cond t (Some (drop 5 (b ∷ bs))) (status_in bs)) (not_status (b ∷ bs) 0 h e))
status_behind (b ∷ bs) (suc n) h e =
    status_behind bs n (omega arith) e ∙ sym (ap (λ t. cond t (Some (drop 5 (b ∷ bs))) (status_in bs)) (not_status (b ∷ bs) (suc n) h e))

found_behind : (found : List ℕ → Option (List ℕ)) (bs : List ℕ) (from : ℕ) → ((n : ℕ) → n < length bs → get_or bs n 0 ≡ 34 → found (drop (suc n) bs) ≡ found bs)
    → 0 < from → from ≤ length bs → get_or bs (from - 1) 0 ≡ 34 → found (take (length bs - from) (drop from bs)) ≡ found bs
found_behind found bs from on above within e =
    let next : from ≡ suc (from - 1) = omega arith in
    ap found (sym (tail_is from bs)) ∙ ap (λ k. found (drop k bs)) next ∙ on (from - 1) (omega arith) e

pub since_from : (bs : List ℕ) (from : ℕ) → 0 < from → from ≤ length bs → get_or bs (from - 1) 0 ≡ 34 → since_in (take (length bs - from) (drop from bs)) ≡ since_in bs
since_from bs from above within e = found_behind since_in bs from (since_behind bs) above within e

pub status_from : (bs : List ℕ) (from : ℕ) → 0 < from → from ≤ length bs → get_or bs (from - 1) 0 ≡ 34 → status_in (take (length bs - from) (drop from bs)) ≡ status_in bs
status_from bs from above within e = found_behind status_in bs from (status_behind bs) above within e
