-- When a relay shows what came of a feed. What came is two lists: the times of the arrivals, and
-- how much had come in all by each; and the feed was read until some time.
use Rattle.std.specs.Prelude.{◌≡◌, ◌⊎◌, ℕ, zero, suc, ◌+◌, ◌-◌, ◌/◌, ◌<◌, Bool, ◌&&◌, List, [], ◌∷◌, Option, Some, None, length, slice_index, count_by, nat_le, nat_lt, max}
use Rattle.feed_probe.specs.First.{IsFirst}

-- how much had come before the arrival of this number
abbrev pub total_before : List ℕ → ℕ → ℕ
total_before totals number = slice_index (0 ∷ totals) number

-- how much had come by so long after a time
abbrev pub came_within : List ℕ → List ℕ → ℕ → ℕ → ℕ
came_within times totals at pause =
    total_before totals (count_by (λ time. nat_le (time - at) pause) times)

-- the feed was read for so long behind the arrival of this number, and at most one part in 64 of all
-- came meanwhile: a relay that waits for this pause shows what it has then
abbrev pub is_calm : List ℕ → List ℕ → ℕ → ℕ → ℕ → Bool
is_calm times totals until pause number =
    let at = slice_index times number in
    let came = came_within times totals at pause in
    nat_le pause (until - at) && nat_le (came - total_before totals (number + 1)) (came / 64)

-- how much the second brings that begins with the arrival of this number
abbrev pub second_from : List ℕ → List ℕ → ℕ → ℕ
second_from times totals number =
    came_within times totals (slice_index times number) 1000 - total_before totals number

-- the most that a second brings which begins with one of the first so many arrivals
unfoldable pub busiest : List ℕ → List ℕ → ℕ → ℕ
busiest times totals zero = 0
busiest times totals (suc count) =
    max (second_from times totals count) (busiest times totals count)

-- More of the same begins with this arrival behind the shown one: its second brings over one part
-- in 64 of all that had come when it was shown, and over one in 8 of the busiest second until then.
abbrev pub is_burst : List ℕ → List ℕ → ℕ → ℕ → Bool
is_burst times totals shown number =
    let brought = second_from times totals number in
    nat_lt shown number
    && (nat_lt (total_before totals (shown + 1) / 64) brought
    && nat_lt (busiest times totals (shown + 1) / 8) brought)

-- a relay that waits for this pause shows what came, and no more of the same comes then
pub record IsEnough (times totals : List ℕ) (until pause : ℕ) : Type 0 where
  pub shown : ℕ
  pub is_shown : IsFirst (is_calm times totals until pause) (length times) (Some shown)
  pub is_all : IsFirst (is_burst times totals shown) (length times) None

-- more comes
pub record IsTooShort (times totals : List ℕ) (until pause : ℕ) : Type 0 where
  pub shown : ℕ
  pub number : ℕ
  pub is_shown : IsFirst (is_calm times totals until pause) (length times) (Some shown)
  pub is_more : IsFirst (is_burst times totals shown) (length times) (Some number)

-- more comes, or it isn't shown by then
abbrev pub IsWrong : List ℕ → List ℕ → ℕ → ℕ → Type 0
IsWrong times totals until pause =
    IsFirst (is_calm times totals until pause) (length times) None
    ⊎ IsTooShort times totals until pause

-- the pauses that are tried, in order, in milliseconds: the usual one, longer and shorter ones
abbrev pub pauses : List ℕ
pauses =
    2000 ∷ 3000 ∷ 4000 ∷ 5000 ∷ 8000 ∷ 10000 ∷ 15000 ∷ 20000 ∷ 30000 ∷ 60000 ∷ 1000 ∷ 500 ∷ []

-- the first of them that is enough, or none
abbrev pub IsPauseFor : List ℕ → List ℕ → ℕ → Option ℕ → Type 0
IsPauseFor times totals until (Some pause) =
    IsEnough times totals until pause
    × ((number : ℕ) × (number < length pauses) × (pause ≡ slice_index pauses number)
    × ((other : ℕ) → other < number → IsWrong times totals until (slice_index pauses other)))
IsPauseFor times totals until None =
    (other : ℕ) → other < length pauses → IsWrong times totals until (slice_index pauses other)
