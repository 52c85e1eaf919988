-- What a server sends to who asks with a token, beside the feed that it had sent before.
use Rattle.std.specs.Prelude.{◌≡◌, ℕ, ◌+◌, ◌-◌, Bool, true, not, ◌||◌, ◌&&◌, ◌==◌, List, Option, Some, None, drop, take, length, position, slice_index, nat_lt, if◌then◌else◌}
use Rattle.std.specs.List.{starts_with}
use Rattle.std.specs.Option.{option_map_or}
use Rattle.feed_probe.specs.First.{IsFirst}
use Rattle.feed_probe.specs.declared.behaviour.Behaviour.{Behaviour}
use Rattle.feed_probe.specs.declared.behaviour.Behaviour.TheVariants.{Nothing, GoesOn, BeginsAgain, SendsAgain, LeavesOut, Differs}

-- one text is the beginning of another one
abbrev pub begins_with : List ℕ → List ℕ → Bool
begins_with text other = starts_with (λ a b. a == b) text other

-- two texts say the same, as far as both go
abbrev pub agree : List ℕ → List ℕ → Bool
agree text other = begins_with text other || begins_with other text

abbrev pub is_line_feed : ℕ → Bool
is_line_feed b = b == 10

-- the first line, with its line feed if it has one
abbrev pub first_line : List ℕ → List ℕ
first_line text =
    option_map_or (λ end. take (end + 1) text) (position is_line_feed text) text

-- a line begins at this place
abbrev pub is_start : List ℕ → ℕ → Bool
is_start feed place = place == 0 || is_line_feed (slice_index feed (place - 1))

-- this line stands there
abbrev pub stands_at : List ℕ → List ℕ → ℕ → Bool
stands_at feed line place = is_start feed place && begins_with (drop place feed) line

-- what an answer is whose first line stands at this place of the feed
abbrev pub from_place : List ℕ → ℕ → List ℕ → ℕ → Behaviour
from_place feed token_end answer place =
    if not (agree (drop place feed) answer) then Differs
    else (if place == 0 then BeginsAgain
    else (if nat_lt place token_end then SendsAgain
    else LeavesOut))

-- the same of one whose first line the feed lacks, or has there
abbrev pub by_place : List ℕ → ℕ → List ℕ → Option ℕ → Behaviour
by_place feed token_end answer None =
    if nat_lt token_end (length feed) then Differs else GoesOn
by_place feed token_end answer (Some place) = from_place feed token_end answer place

-- something stands behind the token's line, and the answer is that, as far as both go
abbrev pub goes_on : List ℕ → ℕ → List ℕ → Bool
goes_on feed token_end answer =
    nat_lt token_end (length feed) && agree (drop token_end feed) answer

abbrev pub is_empty : List ℕ → Bool
is_empty text = length text == 0

-- the first that holds
abbrev pub behaviour : List ℕ → ℕ → List ℕ → Option ℕ → Behaviour
behaviour feed token_end answer place =
    if is_empty answer then Nothing
    else (if goes_on feed token_end answer then GoesOn
    else by_place feed token_end answer place)

-- what the answer is to a token whose line ends at this place of the feed
pub record Behaves (feed : List ℕ) (token_end : ℕ) (answer : List ℕ) (is : Behaviour)
    : Type 0 where
  pub place : Option ℕ
  pub found : IsFirst (stands_at feed (first_line answer)) (length feed) place
  pub so : is ≡ behaviour feed token_end answer place
