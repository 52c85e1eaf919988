-- The escapes of a JSON string (RFC 8259, section 7). Only the clauses of private functions cite
-- this file; it is proved to read what `decoded` says.
use Rattle.std.specs.Prelude.{◌≡◌, ℕ, ◌&&◌, ◌==◌, List, drop, slice_index, Option, Some, None, option_map, option_and_then, if◌then◌else◌}
use Rattle.json.specs.Text.{code_unit, short_escape, is_high_surrogate, is_low_surrogate, surrogate_pair}
use Rattle.json.specs.Lex.{lex, in_string, between}
use Rattle.feed_text.specs.Ascii.{backslash, lower_u}
use Rattle.feed_text.specs.Reading.{first}

-- a number that was read, and the rest
abbrev pub Read : Type 0
Read = Option (ℕ × List ℕ)

-- the code unit of four hexadecimal digits
unfoldable pub unit_at : List ℕ → Read
unit_at text =
    option_map (λ u. (u, drop 4 text))
    (code_unit (slice_index text 0) (slice_index text 1) (slice_index text 2) (slice_index text 3))

-- the other half of a surrogate pair
abbrev pub pair_of : ℕ → ℕ × List ℕ → Read
pair_of high low =
    if is_low_surrogate low.0 then Some (surrogate_pair high low.0, low.1) else None

unfoldable pub low_half_at : ℕ → List ℕ → Read
low_half_at high text =
    if slice_index text 0 == backslash && slice_index text 1 == lower_u
    then option_and_then (pair_of high) (unit_at (drop 2 text)) else None

-- the character of a code unit, with what stands behind it
abbrev pub character_of : ℕ × List ℕ → Read
character_of unit =
    if is_high_surrogate unit.0 then low_half_at unit.0 unit.1
    else (if is_low_surrogate unit.0 then None else Some unit)

-- the character of an escape whose backslash was read
unfoldable pub escaped_at : List ℕ → Read
escaped_at text =
    if first text == lower_u then option_and_then character_of (unit_at (drop 1 text))
    else option_map (λ c. (c, drop 1 text)) (short_escape (first text))

-- the closing quotation mark of the string in which inside stands is what comes before rest
abbrev pub ClosesBefore : List ℕ → List ℕ → Type 0
ClosesBefore inside rest = lex in_string inside ≡ lex between rest
