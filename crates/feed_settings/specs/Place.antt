-- Where a feed is asked for.
use Rattle.std.specs.Prelude.{◌≡◌, ℕ, ◌-◌, Bool, true, not, ◌&&◌, ◌||◌, ◌==◌, nat_lt, nat_le, List, [], ◌∷◌, length, slice_index, codes, if◌then◌else◌, Result, Ok, Err}
use Rattle.std.specs.List.{list_all, list_any}
use Rattle.std.specs.Char.{is_ascii_alphanumeric}
use Rattle.feed_settings.specs.declared.place.PlaceFault.{PlaceFault}
use Rattle.feed_settings.specs.declared.place.PlaceFault.TheVariants.{BadHost, BadBase, BadContest, Memory}

-- the server's host, the base path of its API, and the id of the contest
pub record Place : Type 0 where
  pub host : List ℕ
  pub base : List ℕ
  pub contest : List ℕ

-- a letter, a digit, or one of these marks
abbrev pub is_alphanumeric_or : List ℕ → ℕ → Bool
is_alphanumeric_or marks b = is_ascii_alphanumeric b || list_any (λ mark. mark == b) marks

-- at most so many bytes, each of them a letter, a digit or one of these marks
abbrev pub is_text_of : ℕ → List ℕ → List ℕ → Bool
is_text_of most marks text = nat_le (length text) most && list_all (is_alphanumeric_or marks) text

-- 1 to 255 characters that a host and a port may have; that they make a host (RFC 3986, section
-- 3.2.2) isn't looked at
abbrev pub is_host : List ℕ → Bool
is_host text = nat_lt 0 (length text) && is_text_of 255 (codes ".-:[]") text

-- the text is empty, or it begins with a slash and doesn't end in one
abbrev pub is_rooted : List ℕ → Bool
is_rooted [] = true
is_rooted (b ∷ bytes) = b == 47 && not (slice_index (b ∷ bytes) (length (b ∷ bytes) - 1) == 47)

-- a base path, of at most 255 bytes
abbrev pub is_base : List ℕ → Bool
is_base text = is_text_of 255 (codes "._-~/") text && is_rooted text

-- a contest's id: 1 to 64 of the characters of ids in the CLICS Contest API (the length is this
-- profile's limit; where `.` and `-` stand isn't looked at)
abbrev pub is_contest : List ℕ → Bool
is_contest text = nat_lt 0 (length text) && is_text_of 64 (codes "._-") text

-- the place of these three texts
abbrev pub make_place : List ℕ → List ℕ → List ℕ → Place
make_place host base contest = record { host = host; base = base; contest = contest }

-- the place that the three texts make, or the first of them that is no such text
abbrev pub place_of : List ℕ → List ℕ → List ℕ → Result Place PlaceFault
place_of host base contest =
    if not (is_host host) then Err BadHost
    else (if not (is_base base) then Err BadBase
    else (if not (is_contest contest) then Err BadContest
    else Ok (make_place host base contest)))

-- the texts of a place have the forms that they should have
abbrev pub IsPlace : Place → Type 0
IsPlace place = place_of place.host place.base place.contest ≡ Ok place

-- why three texts are no place: the first of the reasons; or memory ran out, and nothing else is
-- wrong
abbrev pub RefusesPlace : List ℕ → List ℕ → List ℕ → PlaceFault → Type 0
RefusesPlace host base contest Memory = IsPlace (make_place host base contest)
RefusesPlace host base contest fault = place_of host base contest ≡ Err fault
