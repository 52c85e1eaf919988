-- Whether a session keeps its token while batches are taken.
use Rattle.std.specs.Prelude.{◌≡◌, ℕ, List, Some}
use Rattle.feed_node.specs.States.{NodeState, place_of}

-- the token is one of those that the node holds
abbrev pub IsHeld : NodeState → List ℕ → Type 0
IsHeld node token = (place : ℕ) × (place_of node token ≡ Some place)
