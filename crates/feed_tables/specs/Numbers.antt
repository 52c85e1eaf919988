-- Numbers by name, in parts.
use Rattle.std.specs.Prelude.{◌≡◌, ◌≢◌, ℕ, ◌+◌, ◌*◌, ◌-◌, ◌%◌, ◌/◌, ◌^◌, ◌<◌, bit_and, bit_xor, None, List, [], ◌∷◌, take, drop, length}
use Rattle.std.specs.Int.{w64, from_be_bytes}
use Rattle.std.specs.FinMap.{FinMap, empty, get}
use Rattle.feed_tables.specs.Bytes.{byte_order}
use Rattle.feed_tables.specs.Map.{map_over}
use Rattle.feed_tables.specs.declared.numbers.TheConstants.{MIXER}

-- bytes as the digits of a decimal number, behind others
abbrev pub decimal : ℕ → List ℕ → ℕ
decimal before [] = before
decimal before (byte ∷ bytes) = decimal ((before * 10 % 2 ^ 64 + byte) % 2 ^ 64) bytes

-- a number whose upper half is mixed into the lower one
abbrev pub spread : ℕ → ℕ
spread n = bit_xor n (n / 2 ^ 32)

-- a number with eight bytes more mixed in
abbrev pub stirred : ℕ → List ℕ → ℕ
stirred number word = spread (bit_xor number (from_be_bytes w64 word) * MIXER % 2 ^ 64)

-- bytes mixed into a number, eight at a time; what is left of fewer doesn't count
abbrev pub mixed : ℕ → List ℕ → ℕ
mixed number (a ∷ b ∷ c ∷ d ∷ e ∷ f ∷ g ∷ h ∷ rest) =
    mixed (stirred number (a ∷ b ∷ c ∷ d ∷ e ∷ f ∷ g ∷ h ∷ [])) rest
mixed number rest = number

-- the part of a name among so many, by its last eight bytes as digits and those before them mixed
abbrev pub part_of : ℕ → List ℕ → ℕ
part_of parts name =
    bit_and
    ((decimal 0 (drop (length name - 8) name) + mixed 0 (take (length name - 8) name)) % 2 ^ 64)
    (parts - 1)

-- the numbers of the names of all parts
abbrev pub joined : {V : Type 0} → List (FinMap byte_order V) → FinMap byte_order V
joined [] = empty
joined (part ∷ parts) = map_over part (joined parts)

-- each of these parts, counted from this number on, has names of its own alone, among so many
abbrev pub AreApart : {V : Type 0} → ℕ → ℕ → List (FinMap byte_order V) → Type 0
AreApart count n [] = Unit
AreApart count n (part ∷ parts) =
    ((name : List ℕ) → part_of count name ≢ n → get part name ≡ None)
    × AreApart count (n + 1) parts

-- these are the parts of some names, at least one
abbrev pub AreParts : {V : Type 0} → List (FinMap byte_order V) → Type 0
AreParts parts = (0 < length parts) × AreApart (length parts) 0 parts
