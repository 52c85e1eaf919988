-- How far a response has come is one thing.
use Rattle.std.specs.Prelude.{◌≡◌, ◌⊎◌, ℕ, Bool, List}
use Rattle.httparse.specs.Grammar.{NeverHasResponse}
use Rattle.feed_follow.specs.Standing.{Standing, Stands}

-- Bytes of a response stand in one way, but that bytes which never become a head may be told so at
-- once or later.
abbrev pub StandsOnce : Type 0
StandsOnce =
    (had_token : Bool) (bytes : List ℕ) (a b : Standing) → Stands had_token bytes a
    → Stands had_token bytes b
    → (a ≡ b) ⊎ NeverHasResponse bytes
