-- A port that is listened at, with an address of this machine before it: one of IPv6 stands in
-- brackets (RFC 3986, section 3.2.2).
use Rattle.std.specs.Prelude.{◌≡◌, ◌⊎◌, ℕ, List, [], ◌∷◌, ◌++◌}
use Rattle.std.specs.Net.Grammar.{IsIpv4Text, IsIpv6Text}
use Rattle.std.specs.declared.net.ipv4_addr.Ipv4Addr.{Ipv4Addr}
use Rattle.std.specs.declared.net.ipv6_addr.Ipv6Addr.{Ipv6Addr}
use Rattle.feed_arguments.specs.Addresses.{IsAddress}

abbrev pub IsV4 : List ℕ → Type 0
IsV4 text = (address : Ipv4Addr) × IsIpv4Text text address

abbrev pub IsV6 : List ℕ → Type 0
IsV6 text = (address : Ipv6Addr) × IsIpv6Text text address

-- the text in its brackets
abbrev pub in_brackets : List ℕ → List ℕ
in_brackets text = 91 ∷ (text ++ 93 ∷ [])

-- so the address is written: one of IPv6 in brackets, and one of IPv4 as it stands
abbrev pub IsInBrackets : List ℕ → List ℕ → Type 0
IsInBrackets written address = (written ≡ in_brackets address) × IsV6 address

abbrev pub IsWritten : List ℕ → List ℕ → Type 0
IsWritten written address =
    ((written ≡ address) × IsV4 address) ⊎ IsInBrackets written address

-- the text says this address and this port
pub record IsPortAt (text address : List ℕ) (port : ℕ) : Type 0 where
  pub written : List ℕ
  pub is : IsAddress text (written, port)
  pub written_is : IsWritten written address
