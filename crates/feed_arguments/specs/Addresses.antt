-- Addresses of servers, as a list of `host:port` separated by commas.
use Rattle.std.specs.Prelude.{◌≡◌, ℕ, ◌<◌, ◌≤◌, true, List, [], ◌∷◌, ◌++◌, ◌==◌, length}
use Rattle.std.specs.List.{slice_split, AllWithin, HoldsAt}
use Rattle.std.specs.Str.Parse.{AllDigits, digits_value}
use Rattle.feed_settings.specs.Place.{is_host}
use Rattle.feed_arguments.specs.declared.address.AddressFault.{AddressFault}
use Rattle.feed_arguments.specs.declared.address.AddressFault.TheVariants.{BadAddress, TooMany, Memory}

-- what stands before a port, and what between two addresses
abbrev pub colon : ℕ
colon = 58

abbrev pub comma : ℕ
comma = 44

-- the greatest number of a port
abbrev pub most_port : ℕ
most_port = 65535

-- the most addresses of a list
abbrev pub most_addresses : ℕ
most_addresses = 16

-- 1 to 5 decimal digits that say the number of a port
pub record IsPort (text : List ℕ) (port : ℕ) : Type 0 where
  pub digits : AllDigits 10 text
  pub some : 1 ≤ length text
  pub few : length text ≤ 5
  pub said : digits_value 10 text ≡ port
  pub least : 1 ≤ port
  pub greatest : port ≤ most_port

-- a host, a colon and a port; the colon is the last one, since a port has none
pub record IsAddress (text : List ℕ) (address : List ℕ × ℕ) : Type 0 where
  pub digits : List ℕ
  pub is : text ≡ address.0 ++ colon ∷ digits
  pub host : is_host address.0 ≡ true
  pub port : IsPort digits address.1

-- the text is an address, or is none
abbrev pub IsSomeAddress : List ℕ → Type 0
IsSomeAddress text = (address : List ℕ × ℕ) × IsAddress text address

abbrev pub IsNoAddress : List ℕ → Type 0
IsNoAddress text = ¬ (IsSomeAddress text)

-- what stands between the commas
abbrev pub parts : List ℕ → List (List ℕ)
parts text = slice_split (λ b. b == comma) text

-- each of these parts is the address at its place
abbrev pub AreAddresses : List (List ℕ) → List (List ℕ × ℕ) → Type 0
AreAddresses [] [] = Unit {0}
AreAddresses (part ∷ rest) (address ∷ addresses) =
    IsAddress part address × AreAddresses rest addresses
AreAddresses [] (address ∷ addresses) = ⊥
AreAddresses (part ∷ rest) [] = ⊥

-- the text is a list of these addresses
pub record IsListOf (text : List ℕ) (addresses : List (List ℕ × ℕ)) : Type 0 where
  pub all : AreAddresses (parts text) addresses
  pub few : length addresses ≤ most_addresses

-- the part of this number is the first that is no address
pub record IsFirstBad (parts : List (List ℕ)) (number : ℕ) : Type 0 where
  pub inside : number < length parts
  pub bad : HoldsAt IsNoAddress parts number
  pub earlier : AllWithin IsSomeAddress parts 0 number

-- each part is an address
abbrev pub AreGood : List (List ℕ) → Type 0
AreGood parts = AllWithin IsSomeAddress parts 0 (length parts)

-- why the text is no list of addresses: the first of the reasons; or memory ran out, and nothing
-- else is wrong
abbrev pub RefusesList : List ℕ → AddressFault → Type 0
RefusesList text (BadAddress number) = IsFirstBad (parts text) number
RefusesList text TooMany = AreGood (parts text) × (most_addresses < length (parts text))
RefusesList text Memory = AreGood (parts text) × (length (parts text) ≤ most_addresses)
