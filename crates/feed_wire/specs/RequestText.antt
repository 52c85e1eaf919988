-- The text of a request for a feed (RFC 9112, section 3; the CLICS Contest API's section on the
-- event feed).
use Rattle.std.specs.Prelude.{ℕ, List, [], ◌∷◌, ◌++◌, codes, Option, Some, None}
use Rattle.std.specs.List.{flat_map}
use Rattle.httparse.specs.Ascii.{crlf_bytes}
use Rattle.form_urlencoded.specs.Form.{byte_serialize}
use Rattle.feed_settings.specs.Place.{Place}
use Rattle.feed_wire.specs.Identity.{Identity}

-- lines of a head, each ended by CR LF
abbrev pub lines_text : List (List ℕ) → List ℕ
lines_text lines = flat_map (λ line. line ++ crlf_bytes) lines

-- the lines of a head, and the empty line after the last
abbrev pub head_text : List (List ℕ) → List ℕ
head_text lines = lines_text lines ++ crlf_bytes

-- the path of a contest's event feed
abbrev pub feed_path : List ℕ → List ℕ → List ℕ
feed_path base contest = base ++ codes "/contests/" ++ contest ++ codes "/event-feed"

-- the query that asks for what came after a token
abbrev pub since_query : Option (List ℕ) → List ℕ
since_query None = []
since_query (Some token) = codes "?since_token=" ++ byte_serialize token

-- the request's first line
abbrev pub request_line : Place → Option (List ℕ) → List ℕ
request_line place since =
    codes "GET " ++ feed_path place.base place.contest ++ since_query since ++ codes " HTTP/1.1"

-- the request to this place for what came after the token, or for all
abbrev pub request_text : Place → Option (List ℕ) → List ℕ
request_text place since = head_text (
    request_line place since
    ∷ (codes "Host: " ++ place.host)
    ∷ codes "Accept: application/x-ndjson"
    ∷ codes "Connection: close"
    ∷ [])

-- the host that a request names: another one, or the place's
abbrev pub named_host : Option (List ℕ) → List ℕ → List ℕ
named_host None host = host
named_host (Some other) host = other

-- the line that says who asks, if that is said (RFC 9110, section 11.6.2)
abbrev pub credentials_lines : Option (List ℕ) → List (List ℕ)
credentials_lines None = []
credentials_lines (Some credentials) = (codes "Authorization: " ++ credentials) ∷ []

-- the request with this host, and with what says who asks
abbrev pub request_with : Place → Option (List ℕ) → List ℕ → Option (List ℕ) → List ℕ
request_with place since host credentials = head_text (
    request_line place since
    ∷ (codes "Host: " ++ host)
    ∷ codes "Accept: application/x-ndjson"
    ∷ codes "Connection: close"
    ∷ credentials_lines credentials)

-- the same request, as whom it asks
abbrev pub request_text_as : Place → Option (List ℕ) → Identity → List ℕ
request_text_as place since identity =
    request_with place since (named_host identity.host place.host) identity.credentials
