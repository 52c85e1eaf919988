-- Networks of addresses, as a list of `address/bits` separated by commas (RFC 4632, section 3.1;
-- RFC 4291, section 2.3).
use Rattle.std.specs.Prelude.{◌≡◌, ◌≢◌, ◌⊎◌, ℕ, ◌+◌, ◌-◌, ◌/◌, ◌%◌, ◌^◌, ◌<◌, ◌≤◌, Bool, false, ◌==◌, List, [], ◌∷◌, ◌++◌, length, take, bytes_eq, if◌then◌else◌}
use Rattle.std.specs.List.{AllWithin, HoldsAt}
use Rattle.std.specs.Int.{w32, from_be_bytes}
use Rattle.std.specs.Net.Addr.{ipv4_bits, ipv6_bits, ipv6_segments, low_octets}
use Rattle.std.specs.Net.Grammar.{IsIpText}
use Rattle.std.specs.Str.Parse.{AllDigits, digits_value}
use Rattle.std.specs.declared.net.ip_addr.IpAddr.{IpAddr}
use Rattle.std.specs.declared.net.ip_addr.IpAddr.TheVariants as ip
use Rattle.feed_arguments.specs.declared.address.AddressFault.{AddressFault}
use Rattle.feed_arguments.specs.declared.address.AddressFault.TheVariants.{BadAddress, TooMany, Memory}
use Rattle.feed_arguments.specs.declared.network.Origin.{Origin}
use Rattle.feed_arguments.specs.declared.network.Origin.TheVariants.{V4, V6}
use Rattle.feed_arguments.specs.declared.network.Network.{Network}

-- the most networks of a list
abbrev pub most_networks : ℕ
most_networks = 64

-- the segments are those of an IPv4 address (RFC 4291, section 2.5.5.2)
abbrev pub is_mapped : List ℕ → Bool
is_mapped segments = bytes_eq (take 6 segments) (0 ∷ 0 ∷ 0 ∷ 0 ∷ 0 ∷ 0xffff ∷ [])

-- who an address is, as a number: an IPv4-mapped one is the IPv4 address
abbrev pub origin_of : IpAddr → Origin
origin_of (ip.V4 a) = V4 (ipv4_bits a)
origin_of (ip.V6 a) =
    if is_mapped (ipv6_segments a) then V4 (from_be_bytes w32 (low_octets a)) else V6 (ipv6_bits a)

-- how many bits an address has, as it is written, and as it counts
abbrev pub written_bits : IpAddr → ℕ
written_bits (ip.V4 a) = 32
written_bits (ip.V6 a) = 128

abbrev pub origin_bits : Origin → ℕ
origin_bits (V4 number) = 32
origin_bits (V6 number) = 128

abbrev pub number_of : Origin → ℕ
number_of (V4 number) = number
number_of (V6 number) = number

-- what a number of so many bits begins with, in so many bits
abbrev pub first_bits : ℕ → ℕ → ℕ → ℕ
first_bits all bits number = number / 2 ^ (all - bits)

-- numbers of one family that begin with the same bits
abbrev pub is_alike : Origin → ℕ → Origin → Bool
is_alike (V4 base) bits (V4 number) = first_bits 32 bits base == first_bits 32 bits number
is_alike (V6 base) bits (V6 number) = first_bits 128 bits base == first_bits 128 bits number
is_alike (V4 base) bits (V6 number) = false
is_alike (V6 base) bits (V4 number) = false

-- the origin is in the network
abbrev pub is_within : Network → Origin → Bool
is_within network origin = is_alike network.base network.bits origin

-- the first so many bits of an address, as it is written, make the network; the bits after them are
-- 0
pub record IsNetworkOf (address : IpAddr) (written : ℕ) (network : Network) : Type 0 where
  pub base : network.base ≡ origin_of address
  pub counted : network.bits + written_bits address ≡ written + origin_bits network.base
  pub fits : network.bits ≤ origin_bits network.base
  pub clear : number_of network.base % 2 ^ (origin_bits network.base - network.bits) ≡ 0

-- 1 to 3 decimal digits that say how many bits
pub record IsBits (digits : List ℕ) (bits : ℕ) : Type 0 where
  pub digits_are : AllDigits 10 digits
  pub some : 1 ≤ length digits
  pub few : length digits ≤ 3
  pub said : digits_value 10 digits ≡ bits
  pub greatest : bits ≤ 128

-- an address, a slash, and how many of its bits count
pub record IsSlashed (text : List ℕ) (network : Network) : Type 0 where
  pub written : List ℕ
  pub digits : List ℕ
  pub address : IpAddr
  pub bits : ℕ
  pub is : text ≡ written ++ 47 ∷ digits
  pub names : IsIpText written address
  pub said : IsBits digits bits
  pub makes : IsNetworkOf address bits network

-- the text is a network: that, or an address alone, of which all bits count
abbrev pub IsNetwork : List ℕ → Network → Type 0
IsNetwork text network =
    ((address : IpAddr) × IsIpText text address
    × IsNetworkOf address (written_bits address) network)
    ⊎ IsSlashed text network

-- why a text is no address, and no number of bits; and why an address has no network of so many
abbrev pub IsNoIp : List ℕ → Type 0
IsNoIp text = (address : IpAddr) → ¬ (IsIpText text address)

abbrev pub SaysNoBits : List ℕ → Type 0
SaysNoBits digits = (bits : ℕ) → ¬ (IsBits digits bits)

abbrev pub HasNoNetwork : IpAddr → ℕ → Type 0
HasNoNetwork address bits = (network : Network) → ¬ (IsNetworkOf address bits network)

-- what stands around the last slash makes no network
pub record IsBadlySlashed (text : List ℕ) : Type 0 where
  pub written : List ℕ
  pub digits : List ℕ
  pub is : text ≡ written ++ 47 ∷ digits
  pub why : SaysNoBits digits ⊎ (IsNoIp written
      ⊎ ((address : IpAddr) × (bits : ℕ) × IsIpText written address × IsBits digits bits
      × HasNoNetwork address bits))

-- the text has no slash
abbrev pub HasNoSlash : List ℕ → Type 0
HasNoSlash text = (written digits : List ℕ) → text ≢ written ++ 47 ∷ digits

-- the text is no address, and no network either
abbrev pub IsNoNetwork : List ℕ → Type 0
IsNoNetwork text = IsNoIp text × (HasNoSlash text ⊎ IsBadlySlashed text)

-- each of these parts is the network at its place
abbrev pub AreNetworks : List (List ℕ) → List Network → Type 0
AreNetworks [] [] = Unit {0}
AreNetworks (part ∷ rest) (network ∷ networks) =
    IsNetwork part network × AreNetworks rest networks
AreNetworks [] (network ∷ networks) = ⊥
AreNetworks (part ∷ rest) [] = ⊥

-- the text is a network
abbrev pub IsGoodNetwork : List ℕ → Type 0
IsGoodNetwork text = (network : Network) × IsNetwork text network

-- the part of this number is the first that is no network
pub record IsFirstNoNetwork (parts : List (List ℕ)) (number : ℕ) : Type 0 where
  pub inside : number < length parts
  pub bad : HoldsAt IsNoNetwork parts number
  pub earlier : AllWithin IsGoodNetwork parts 0 number

-- each part is a network
abbrev pub AreGoodNetworks : List (List ℕ) → Type 0
AreGoodNetworks parts = AllWithin IsGoodNetwork parts 0 (length parts)

-- why parts are no list of networks: the first of the reasons; or memory ran out, and nothing else
-- is wrong
abbrev pub RefusesNetworks : List (List ℕ) → AddressFault → Type 0
RefusesNetworks parts (BadAddress number) = IsFirstNoNetwork parts number
RefusesNetworks parts TooMany = AreGoodNetworks parts × (most_networks < length parts)
RefusesNetworks parts Memory = AreGoodNetworks parts × (length parts ≤ most_networks)
