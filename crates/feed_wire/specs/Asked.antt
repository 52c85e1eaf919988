-- What a request asks for, and how it is answered.
use Rattle.std.specs.Prelude.{◌≡◌, ◌≢◌, ℕ, zero, suc, List, [], slice_index, codes, bytes_eq, find, Option, option_map, option_and_then}
use Rattle.std.specs.Str.Lossy.{utf8_lossy}
use Rattle.httparse.specs.Grammar.{RequestHead}
use Rattle.http_uri.specs.declared.uri.Uri.{Uri as Target}
use Rattle.http_uri.specs.Uri.{Spells, uri_path, uri_query}
use Rattle.http_uri.specs.ByteClasses.{slash}
use Rattle.form_urlencoded.specs.Form.{raw_pairs, decode}
use Rattle.feed_settings.specs.declared.framing.Framing.{Framing}
use Rattle.feed_settings.specs.declared.framing.Framing.TheVariants.{Close}
use Rattle.feed_wire.specs.declared.refusal.Refusal.{Refusal}
use Rattle.feed_wire.specs.declared.refusal.Refusal.TheVariants.{LargeHead, Unreadable, NotGet, OtherPath, NothingPublished, TokenNotHeld}
use Rattle.feed_wire.specs.RequestText.{feed_path}
use Rattle.feed_wire.specs.Heads.{BeginsWithRequest, IsTooLargeRequest}

-- the text of a name or a value of a form (URL Standard, section 5.1)
abbrev pub form_text : List ℕ → List ℕ
form_text bytes = utf8_lossy (decode bytes)

-- the value of the first parameter of this name
abbrev pub parameter : List ℕ → List ℕ → Option (List ℕ)
parameter name query =
    option_map (λ pair. form_text pair.1)
    (find (λ pair. bytes_eq (form_text pair.0) name) (raw_pairs query))

-- the token after which the client wants the feed
abbrev pub since_token : Option (List ℕ) → Option (List ℕ)
since_token query = option_and_then (parameter (codes "since_token")) query

-- the bytes begin with this request, whose target is in origin form (RFC 9112, section 3.2.1)
pub record IsRequestFor (bytes : List ℕ) (head : RequestHead) (target : Target) : Type 0 where
  pub rest : List ℕ
  pub begins : BeginsWithRequest bytes head rest
  pub is_path : slice_index head.target 0 ≡ slash
  pub spells : Spells head.target target

-- the bytes begin with no request whose target can be read
abbrev pub HasNoRequest : List ℕ → Type 0
HasNoRequest bytes = (head : RequestHead) (target : Target) → ¬ (IsRequestFor bytes head target)

-- what a client may ask for: a refusal, whatever the server holds, or the feed, by its version of
-- HTTP/1
pub data Asked : Type 0 where
  refused : Refusal → Asked
  feed : ℕ → Option (List ℕ) → Asked

-- the request whose method, path, version and token these are
pub record Requests (bytes method path : List ℕ) (minor : ℕ)
    (since : Option (List ℕ)) : Type 0 where
  pub head : RequestHead
  pub target : Target
  pub is_request : IsRequestFor bytes head target
  pub method_is : head.method ≡ method
  pub path_is : uri_path target ≡ path
  pub minor_is : head.minor ≡ minor
  pub since_is : since_token (uri_query target) ≡ since

-- some request has this method and this path
abbrev pub RequestsSome : List ℕ → List ℕ → List ℕ → Type 0
RequestsSome bytes method path =
    (minor : ℕ) × (since : Option (List ℕ)) × Requests bytes method path minor since

-- what the bytes ask of the feed of a contest, by the first rule that applies
abbrev pub Asks : List ℕ → List ℕ → Asked → Type 0
Asks bytes contest (refused LargeHead) = IsTooLargeRequest bytes
Asks bytes contest (refused Unreadable) = ¬ (IsTooLargeRequest bytes) × HasNoRequest bytes
Asks bytes contest (refused NotGet) =
    (method : List ℕ) × (path : List ℕ) × (method ≢ codes "GET") × RequestsSome bytes method path
Asks bytes contest (refused OtherPath) =
    (path : List ℕ) × (path ≢ feed_path [] contest) × RequestsSome bytes (codes "GET") path
Asks bytes contest (refused NothingPublished) = ⊥
Asks bytes contest (refused TokenNotHeld) = ⊥
Asks bytes contest (feed minor since) =
    Requests bytes (codes "GET") (feed_path [] contest) minor since

-- the framing of an answer with the feed: HTTP/1.0 has no chunks (RFC 9112, section 6.1)
abbrev pub framing_for : ℕ → Framing → Framing
framing_for zero framing = Close
framing_for (suc minor) framing = framing
