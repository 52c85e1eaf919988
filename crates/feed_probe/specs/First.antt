-- The first number of which something is so.
use Rattle.std.specs.Prelude.{◌≡◌, ℕ, ◌<◌, Bool, true, false, Option, Some, None}

-- of those below a count: none before it; or none at all
abbrev pub IsFirst : (ℕ → Bool) → ℕ → Option ℕ → Type 0
IsFirst is_so count (Some number) =
    (number < count) × (is_so number ≡ true)
    × ((other : ℕ) → other < number → is_so other ≡ false)
IsFirst is_so count None = (other : ℕ) → other < count → is_so other ≡ false
