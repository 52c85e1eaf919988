-- What is asked for is one thing, and a request that is written here is read as it was meant.
use Rattle.std.specs.Prelude.{◌≡◌, ℕ, ◌≤◌, List, [], length, Option, IfSome, IsUtf8}
use Rattle.feed_settings.specs.Place.{Place, IsPlace}
use Rattle.feed_text.specs.Limits.{name_bytes}
use Rattle.feed_wire.specs.RequestText.{request_text}
use Rattle.feed_wire.specs.Asked.{Asked, Asks, feed}

-- bytes ask for one thing alone
abbrev pub AskedOnce : Type 0
AskedOnce =
    (bytes contest : List ℕ) (a b : Asked) → Asks bytes contest a → Asks bytes contest b → a ≡ b

-- a token, if there is one: a text within the limit on names, as all tokens are
abbrev pub MayBeAskedWith : Option (List ℕ) → Type 0
MayBeAskedWith since = IfSome since (λ token. (length token ≤ name_bytes) × IsUtf8 token)

-- A request with an empty base asks for the feed of its contest after its token, which is text, as
-- all tokens are.
abbrev pub RequestIsRead : Type 0
RequestIsRead = (place : Place) (since : Option (List ℕ)) → IsPlace place → place.base ≡ []
    → MayBeAskedWith since
    → Asks (request_text place since) place.contest (feed 1 since)
