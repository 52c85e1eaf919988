-- The counts of `Nesting`, by what stands before each place.
use Rattle.std.specs.Prelude.{ℕ, zero, suc, ◌+◌, ◌≤◌, Bool, false, ◌&&◌, ◌==◌, not, List, [], ◌∷◌, ◌++◌, length, reverse, take, if◌then◌else◌}
use Rattle.feed_text.specs.Ascii.{quotation_mark, backslash}
use Rattle.feed_text.specs.Nesting.{is_opening, is_closing}
use Rattle.feed_text.specs.Reading.{prefix_while}

abbrev pub is_odd : ℕ → Bool
is_odd zero = false
is_odd (suc n) = not (is_odd n)

-- at how many places of a text the test holds of what stands before the place and of the byte there
abbrev pub places_behind : (List ℕ → ℕ → Bool) → List ℕ → List ℕ → ℕ
places_behind test before [] = 0
places_behind test before (b ∷ text) = (if test before b then 1 else 0) + places_behind test (before ++ b ∷ []) text

unfoldable pub places : (List ℕ → ℕ → Bool) → List ℕ → ℕ
places test text = places_behind test [] text

-- an odd number of backslashes stands at the end
unfoldable pub is_escaped : List ℕ → Bool
is_escaped before = is_odd (length (prefix_while (λ b. b == backslash) (reverse before)))

-- a quotation mark that no backslash escapes
abbrev pub is_delimiter : List ℕ → ℕ → Bool
is_delimiter before b = b == quotation_mark && not (is_escaped before)

-- the end of the text is inside a string: an odd number of delimiters stands before it
unfoldable pub is_inside : List ℕ → Bool
is_inside before = is_odd (places is_delimiter before)

-- the opening and the closing brackets outside strings
abbrev pub openings : List ℕ → ℕ
openings text = places (λ before b. is_opening b && not (is_inside before)) text

abbrev pub closings : List ℕ → ℕ
closings text = places (λ before b. is_closing b && not (is_inside before)) text

-- some prefix has a level, its opening brackets less its closing ones, of at least this
abbrev pub HasLevel : ℕ → List ℕ → Type 0
HasLevel level text = (end : ℕ) × (end ≤ length text) × (closings (take end text) + level ≤ openings (take end text))
