-- Lemmas on networks.
use Rattle.std.proofs.Common.{◌≡◌, refl, sym, ap, ◌∙◌, subst, ◌+◌, ◌/◌, ◌%◌, ◌^◌, ◌<◌, ◌≤◌, ◌++◌, ◌∷◌, [], inl, inr, List, ℕ, true, false, Option, None, Some, IfSome, length, arith, take, map}
use Rattle.std.specs.Borrow.{Bor}
use Rattle.std.specs.Int.{w32, from_be_bytes}
use Rattle.std.specs.Net.Addr.{MatchIp, IsCanonicalOf, ipv4_bits, ipv6_bits, ipv6_segments, low_octets}
use Rattle.std.specs.Prelude.{if◌then◌else◌, nat_lt, slice_index_or}
use Rattle.std.specs.declared.net.ip_addr.IpAddr.{IpAddr}
use Rattle.std.specs.declared.net.ip_addr.IpAddr.TheVariants as ip
use Rattle.std.specs.declared.net.ipv4_addr.Ipv4Addr.{Ipv4Addr}
use Rattle.std.proofs.lemmas.Bool.{cases_lt}
use Rattle.std.proofs.lemmas.Bool.Decides.{nat_tests}
use Rattle.std.proofs.lemmas.Slice.Eq.{bytes_eq-Decides}
use Rattle.std.proofs.Math.Nat.{div-eq_of_lt, mod-eq_of_lt}
use Rattle.std.proofs.Math.Pow.{pow_mono}
use Rattle.feed_arguments.specs.Addresses.{parts}
use Rattle.std.specs.List.{AllWithin, HoldsAt}
use Rattle.std.specs.Option.{MatchOption}
use Rattle.std.proofs.lemmas.List.{length-map}
use Rattle.feed_arguments.specs.Networks.{origin_of, is_mapped, HasNoSlash, IsNetwork, AreNetworks}
use Rattle.feed_arguments.specs.Networks.{IsNoNetwork, IsGoodNetwork, IsFirstNoNetwork, AreGoodNetworks}
use Rattle.feed_arguments.specs.declared.network.Network.{Network}
use Rattle.feed_arguments.specs.declared.network.Origin.TheVariants.{V4, V6}
use Rattle.feed_arguments.proofs.AddressLemmas.{Lacks, not_in, mapped_at, mapped_next}

-- a text that lacks the byte has no slash
pub no_slash : (text : List ℕ) → Lacks 47 text → HasNoSlash text
no_slash text lacks written digits is = not_in 47 text written digits lacks is

-- one more part is a network
pub are_more : (parts : List (List ℕ)) (part : List ℕ) (networks : List Network)
    (network : Network) → AreNetworks parts networks → IsNetwork part network
    → AreNetworks (parts ++ part ∷ []) (networks ++ network ∷ [])
are_more [] part [] network are is = (is, tt)
are_more [] part (n ∷ networks) network are is = absurd are
are_more (p ∷ parts) part [] network are is = absurd are
are_more (p ∷ parts) part (n ∷ networks) network are is =
    (are.0, are_more parts part networks network are.1 is)

pub as_many : (parts : List (List ℕ)) (networks : List Network) → AreNetworks parts networks
    → length parts ≡ length networks
as_many [] [] are = refl
as_many [] (n ∷ networks) are = absurd are
as_many (p ∷ parts) [] are = absurd are
as_many (p ∷ parts) (n ∷ networks) are = omega (arith, as_many parts networks are.1)

pub few_networks : (text : List ℕ) (found : List (List ℕ)) (networks : List Network)
    → found ≡ parts text → AreNetworks found networks → length (parts text) ≤ 64
    → length networks ≤ 64
few_networks text found networks is are few = omega (
  arith,
  as_many found networks are,
  ap length is,
)

-- the next part is the next network
pub next_network : (all : List (Bor (List ℕ))) (i : ℕ) (d : Bor (List ℕ))
    (networks now : List Network) (network : Network) → i < length all
    → AreNetworks (take i (map (λ part. part.now) all)) networks
    → IsNetwork (slice_index_or all i d).now network → now ≡ networks ++ network ∷ []
    → AreNetworks (take (i + 1) (map (λ part. part.now) all)) now
next_network all i d networks now network inside are is more =
    subst (λ l. AreNetworks l now)
    (sym (mapped_next (λ part. part.now) all i d (slice_index_or all i d) inside refl))
    (subst (λ l. AreNetworks (take i (map (λ part. part.now) all)
    ++ (slice_index_or all i d).now ∷ []) l) (sym more)
    (are_more (take i (map (λ part. part.now) all)) (slice_index_or all i d).now networks network are
    is))

-- the first part that a search finds is the first that is no network
pub first_network : (all : List (List ℕ)) (r : Option ℕ)
    → MatchOption r (AreGoodNetworks all)
    (λ i. (i < length all) × HoldsAt IsNoNetwork all i × AllWithin IsGoodNetwork all 0 i)
    → MatchOption r (AreGoodNetworks all) (IsFirstNoNetwork all)
first_network all None h = h
first_network all (Some i) h = record { inside = h.0; bad = h.1; earlier = h.2 }

-- of parts that are networks, the one at this place; and what there is once it was taken
pub good_network : (all : List (Bor (List ℕ))) (i : ℕ) (d : Bor (List ℕ)) → i < length all
    → AreGoodNetworks (map (λ part. part.now) all)
    → IsGoodNetwork (slice_index_or all i d).now
good_network all i d inside good =
    subst IsGoodNetwork
    (mapped_at (λ part. part.now) all i d (slice_index_or all i d) inside refl [])
    (good i [] (omega arith) (omega (arith, inside, length-map all (λ part. part.now))))

pub more_networks : (all : List (Bor (List ℕ))) (i : ℕ) (d : Bor (List ℕ))
    (networks now : List Network) → i < length all
    → AreNetworks (take i (map (λ part. part.now) all)) networks
    → (network : Network) × IsNetwork (slice_index_or all i d).now network
    × (now ≡ networks ++ network ∷ [])
    → AreNetworks (take (i + 1) (map (λ part. part.now) all)) now
more_networks all i d networks now inside are more =
    next_network all i d networks now more.0 inside are more.1 more.2

-- ---- numbers

below : (n m p : ℕ) → n < m → m ≤ p → n < p
below n m p less most = omega arith

-- what is left of a number of 128 bits, where the last ones go
pub last_bits : (n k : ℕ) → n < 2 ^ 128
    → (if nat_lt k 128 then n / 2 ^ k else 0) ≡ n / 2 ^ k
last_bits n k fits = elim (cases_lt k 128) [
  | inl under ↦ let under_it : nat_lt k 128 ≡ true = grind (arith, nat_tests) in
      ap (λ b. if b then n / 2 ^ k else 0) under_it
  | inr over ↦ let past : nat_lt k 128 ≡ false = grind (arith, nat_tests) in
      ap (λ b. if b then n / 2 ^ k else 0) past
      ∙ sym (div-eq_of_lt (below n (2 ^ 128) (2 ^ k) fits (pow_mono over)))
]

not_less : (m p : ℕ) → ¬ (p < m) → m ≤ p
not_less m p never = elim (cases_lt p m) [ inl less ↦ absurd (never less) | inr most ↦ most ]

-- a number of 128 bits is what its last bits are, where there are as many
pub all_bits : (n k : ℕ) → n < 2 ^ 128 → ¬ (2 ^ k < 2 ^ 128) → n % 2 ^ k ≡ n
all_bits n k fits never =
    mod-eq_of_lt (below n (2 ^ 128) (2 ^ k) fits (not_less (2 ^ 128) (2 ^ k) never))

-- ---- origins

pub mapped_origin : (address r : IpAddr) (a : Ipv4Addr) (bits : ℕ)
    → MatchIp address (λ _. r ≡ address) (λ b. IsCanonicalOf b r) → r ≡ ip.V4 a
    → bits ≡ ipv4_bits a → V4 bits ≡ origin_of address
unfolding ipv4_bits
mapped_origin (ip.V4 b) r a bits h is e =
    let same : a ≡ b = cc in ap V4 (e ∙ ap ipv4_bits same)
mapped_origin (ip.V6 b) (ip.V4 c) a bits h is e =
    let same : a ≡ c = cc in
    let number : bits ≡ from_be_bytes w32 (low_octets b) =
    e ∙ ap ipv4_bits same ∙ ap (from_be_bytes w32) h.1 in
    let mapped : is_mapped (ipv6_segments b) ≡ true =
    (bytes_eq-Decides (take 6 (ipv6_segments b)) (0 ∷ 0 ∷ 0 ∷ 0 ∷ 0 ∷ 0xffff ∷ [])).1 h.0 in
    ap V4 number
    ∙ ap (λ x. if x then V4 (from_be_bytes w32 (low_octets b)) else V6 (ipv6_bits b)) (sym mapped)
mapped_origin (ip.V6 b) (ip.V6 c) a bits h is e = absurd (cc)
