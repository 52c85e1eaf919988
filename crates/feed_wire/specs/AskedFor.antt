-- What `read_request` answers, as the definitions see it.
use Rattle.std.specs.Prelude.{◌≡◌, ◌≢◌, ℕ, List, [], codes, option_map, string_bytes}
use Rattle.http_uri.specs.declared.uri.Uri.{Uri as Target}
use Rattle.http_uri.specs.Uri.{uri_path, uri_query}
use Rattle.feed_wire.specs.declared.asked.AskedFor.{AskedFor}
use Rattle.feed_wire.specs.declared.asked.AskedFor.TheVariants.{Refused, Feed}
use Rattle.feed_wire.specs.declared.refusal.Refusal.TheVariants.{NotGet, OtherPath}
use Rattle.feed_wire.specs.RequestText.{feed_path}
use Rattle.feed_wire.specs.Asked.{Asked, refused, feed, since_token}

-- the answer without where its text lies in memory
abbrev pub asked_of : AskedFor → Asked
asked_of (Refused refusal) = refused refusal
asked_of (Feed minor since) = feed minor (option_map string_bytes since)

-- what a request with this method and target asks for
abbrev pub AsksBy : List ℕ → Target → ℕ → List ℕ → Asked → Type 0
AsksBy method target minor contest (refused NotGet) = method ≢ codes "GET"
AsksBy method target minor contest (refused OtherPath) =
    (method ≡ codes "GET") × (uri_path target ≢ feed_path [] contest)
AsksBy method target minor contest (refused refusal) = ⊥
AsksBy method target minor contest (feed asked since) =
    (method ≡ codes "GET") × (uri_path target ≡ feed_path [] contest) × (asked ≡ minor)
    × (since ≡ since_token (uri_query target))
