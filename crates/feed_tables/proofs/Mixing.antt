-- Bytes that are mixed into a number, eight at a time.
use Rattle.std.proofs.Common.{◌≡◌, ℕ, ◌<◌, ◌≤◌, List, [], ◌∷◌, take, drop, length, refl, arith}
use Rattle.feed_tables.specs.Numbers.{stirred, mixed}

pub mixed_step : (n : ℕ) (xs : List ℕ) → 8 ≤ length xs → mixed n xs ≡ mixed (stirred n (take 8 xs)) (drop 8 xs)
mixed_step n [] many = absurd (omega (arith, many))
mixed_step n (a ∷ []) many = absurd (omega (arith, many))
mixed_step n (a ∷ b ∷ []) many = absurd (omega (arith, many))
mixed_step n (a ∷ b ∷ c ∷ []) many = absurd (omega (arith, many))
mixed_step n (a ∷ b ∷ c ∷ d ∷ []) many = absurd (omega (arith, many))
mixed_step n (a ∷ b ∷ c ∷ d ∷ e ∷ []) many = absurd (omega (arith, many))
mixed_step n (a ∷ b ∷ c ∷ d ∷ e ∷ f ∷ []) many = absurd (omega (arith, many))
mixed_step n (a ∷ b ∷ c ∷ d ∷ e ∷ f ∷ g ∷ []) many = absurd (omega (arith, many))
mixed_step n (a ∷ b ∷ c ∷ d ∷ e ∷ f ∷ g ∷ h ∷ rest) many = refl

pub mixed_end : (n : ℕ) (xs : List ℕ) → length xs < 8 → mixed n xs ≡ n
mixed_end n [] few = refl
mixed_end n (a ∷ []) few = refl
mixed_end n (a ∷ b ∷ []) few = refl
mixed_end n (a ∷ b ∷ c ∷ []) few = refl
mixed_end n (a ∷ b ∷ c ∷ d ∷ []) few = refl
mixed_end n (a ∷ b ∷ c ∷ d ∷ e ∷ []) few = refl
mixed_end n (a ∷ b ∷ c ∷ d ∷ e ∷ f ∷ []) few = refl
mixed_end n (a ∷ b ∷ c ∷ d ∷ e ∷ f ∷ g ∷ []) few = refl
mixed_end n (a ∷ b ∷ c ∷ d ∷ e ∷ f ∷ g ∷ h ∷ rest) few = absurd (omega (arith, few))
