-- The URL of a feed: the server, the base and the contest that it names (RFC 3986, section 3; CLICS
-- Contest API 2023-06, event feed).
use Rattle.std.specs.Prelude.{◌≡◌, ◌≢◌, ◌⊎◌, ℕ, ◌<◌, ◌-◌, Bool, true, not, ◌&&◌, ◌||◌, ◌==◌, List, [], ◌∷◌, ◌++◌, length, map, slice_index, codes}
use Rattle.std.specs.Char.{to_ascii_lowercase}
use Rattle.std.specs.List.{list_any}
use Rattle.std.specs.Str.Iter.{HasSubslice}
use Rattle.feed_settings.specs.Place.{is_host}
use Rattle.feed_arguments.specs.Addresses.{IsAddress, IsNoAddress, colon}
use Rattle.feed_arguments.specs.declared.url.FeedUrl.{FeedUrl}
use Rattle.feed_arguments.specs.declared.url.Listed.{Listed}
use Rattle.feed_arguments.specs.declared.url.Listed.TheVariants.{Address, Url}
use Rattle.feed_arguments.specs.declared.url.ListedFault.{ListedFault}
use Rattle.feed_arguments.specs.declared.url.ListedFault.TheVariants.{BadAddress, BadUrl}
use Rattle.feed_arguments.specs.declared.url.UrlFault.{UrlFault}
use Rattle.feed_arguments.specs.declared.url.UrlFault.TheVariants.{NotHttp, Tls, Rest, NoPath, User, BadServer, NoContest}

abbrev pub slash : ℕ
slash = 47

-- the port of a URL that names none (RFC 9110, section 4.2.1)
abbrev pub plain_port : ℕ
plain_port = 80

-- the byte stands in the text, or doesn't
abbrev pub Has : ℕ → List ℕ → Type 0
Has c text = (i : ℕ) × (i < length text) × (slice_index text i ≡ c)

abbrev pub Lacks : ℕ → List ℕ → Type 0
Lacks c text = (i : ℕ) → i < length text → slice_index text i ≢ c

-- a scheme, in letters of any case, stands before this rest
pub record IsBehind (scheme text rest : List ℕ) : Type 0 where
  pub written : List ℕ
  pub is : text ≡ written ++ colon ∷ slash ∷ slash ∷ rest
  pub same : map to_ascii_lowercase written ≡ map to_ascii_lowercase scheme
  pub letters : Lacks colon written

-- no query follows, and no fragment
pub record IsPlain (rest : List ℕ) : Type 0 where
  pub no_query : Lacks 63 rest
  pub no_fragment : Lacks 35 rest

-- the server ends at the first slash
pub record IsCut (rest server path : List ℕ) : Type 0 where
  pub is : rest ≡ server ++ path
  pub before : Lacks slash server
  pub rooted : (later : List ℕ) × (path ≡ slash ∷ later)

-- brackets stand around a host that has colons, as an address of IPv6 does
abbrev pub is_bracketed : List ℕ → Bool
is_bracketed host = slice_index host 0 == 91 && slice_index host (length host - 1) == 93

abbrev pub is_url_host : List ℕ → Bool
is_url_host host =
    is_host host && (is_bracketed host || not (list_any (λ b. b == colon) host))

-- a host with a port, or alone
pub record IsServer (text : List ℕ) (host : List ℕ) (port : ℕ) : Type 0 where
  pub host_is : is_url_host host ≡ true
  pub is : IsAddress text (host, port) ⊎ ((text ≡ host) × (port ≡ plain_port))

-- what stands behind the contest may be the feed, and a slash
abbrev pub event_feed : List ℕ
event_feed = codes "event-feed"

abbrev pub IsFeed : List ℕ → Type 0
IsFeed text = (text ≡ []) ⊎ (text ≡ slash ∷ event_feed)

abbrev pub IsEnd : List ℕ → Type 0
IsEnd text = (text ≡ []) ⊎ (text ≡ slash ∷ [])

-- a contest is one segment of the path, and isn't the feed
pub record IsSegment (contest : List ℕ) : Type 0 where
  pub some : contest ≢ []
  pub one : Lacks slash contest
  pub no_feed : contest ≢ event_feed

-- what is left of a text without what it may end in
abbrev pub IsWithout : List ℕ → List ℕ → List ℕ → Type 0
IsWithout suffix text left =
    (text ≡ left ++ suffix) ⊎ ((text ≡ left) × ((front : List ℕ) → text ≢ front ++ suffix))

-- the path of a contest below a base, or that of its feed
pub record IsFeedPath (path base contest : List ℕ) : Type 0 where
  pub feed : List ℕ
  pub end : List ℕ
  pub is : path ≡ (base ++ slash ∷ codes "contests") ++ slash ∷ (contest ++ feed ++ end)
  pub contest_is : IsSegment contest
  pub feed_is : IsFeed feed
  pub end_is : IsEnd end

-- the URL names this server, this base and this contest
pub record IsFeedUrl (text : List ℕ) (url : FeedUrl) : Type 0 where
  pub rest : List ℕ
  pub server : List ℕ
  pub path : List ℕ
  pub behind : IsBehind (codes "http") text rest
  pub plain : IsPlain rest
  pub cut : IsCut rest server path
  pub server_is : IsServer server url.host.now url.port
  pub path_is : IsFeedPath path url.base.now url.contest.now

-- the parts of a URL that is understood so far
pub record IsCutUrl (text server path : List ℕ) : Type 0 where
  pub rest : List ℕ
  pub behind : IsBehind (codes "http") text rest
  pub plain : IsPlain rest
  pub cut : IsCut rest server path

-- why a text is no URL of a feed: the first of the reasons
abbrev pub RefusesUrl : List ℕ → UrlFault → Type 0
RefusesUrl text Tls = (rest : List ℕ) × IsBehind (codes "https") text rest
RefusesUrl text NotHttp =
    ((rest : List ℕ) → ¬ (IsBehind (codes "http") text rest))
    × ((rest : List ℕ) → ¬ (IsBehind (codes "https") text rest))
RefusesUrl text Rest =
    (rest : List ℕ) × IsBehind (codes "http") text rest × (Has 63 rest ⊎ Has 35 rest)
RefusesUrl text NoPath =
    (rest : List ℕ) × IsBehind (codes "http") text rest × IsPlain rest × Lacks slash rest
RefusesUrl text User =
    (server : List ℕ) × (path : List ℕ) × IsCutUrl text server path
    × ((host : List ℕ) (port : ℕ) → ¬ (IsServer server host port)) × Has 64 server
RefusesUrl text BadServer =
    (server : List ℕ) × (path : List ℕ) × IsCutUrl text server path
    × ((host : List ℕ) (port : ℕ) → ¬ (IsServer server host port)) × Lacks 64 server
RefusesUrl text NoContest =
    (server : List ℕ) × (path : List ℕ) × IsCutUrl text server path
    × ((base contest : List ℕ) → ¬ (IsFeedPath path base contest))

-- a part of a list names this server
abbrev pub IsListed : List ℕ → Listed → Type 0
IsListed part (Address host port) = IsAddress part (host.now, port)
IsListed part (Url url) = IsFeedUrl part url

-- why a part of a list names no server: one with `://` is meant as a URL
abbrev pub RefusesListed : List ℕ → ListedFault → Type 0
RefusesListed part BadAddress = IsNoAddress part × ¬ (HasSubslice part (codes "://"))
RefusesListed part (BadUrl why) =
    IsNoAddress part × HasSubslice part (codes "://") × RefusesUrl part why
