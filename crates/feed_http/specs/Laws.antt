-- What a session is sent, whole.
use Rattle.std.specs.Prelude.{◌≡◌, ℕ, Bool, false, List, drop, Some}
use Rattle.feed_node.specs.declared.commit.Commit.{Commit}
use Rattle.feed_node.specs.States.{NodeState, IsConsistent, place_of}
use Rattle.feed_http.specs.Serving.{Sends}

-- A session at a held token is sent the kept commits after it, in order, and does not lose its
-- token: the held token at a place is the one before the kept commit at that place.
abbrev pub SendsTheRest : Type 0
SendsTheRest =
    (node : NodeState) (token : List ℕ) (place : ℕ) (sent : List Commit) (gone : Bool)
    → IsConsistent node → place_of node token ≡ Some place
    → Sends node token sent gone → (sent ≡ drop place node.kept) × (gone ≡ false)
