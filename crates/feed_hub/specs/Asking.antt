-- Where a request has no room for more of its head.
use Rattle.std.specs.Prelude.{ℕ, ◌+◌, ◌<◌, min, List, length, Option, Some, None}
use Rattle.std.specs.Vec.{vec_capacity}
use Rattle.feed_http.specs.HeadReading.{most_after, IsStillNeeded}
use Rattle.feed_hub.specs.declared.asking.Asking.{Asking}
use Rattle.feed_hub.specs.declared.seats.Seat.{Seat}
use Rattle.feed_hub.specs.declared.seats.Seat.TheVariants.{Asks, Watches}

-- the head needs some of these bytes, and there is no room for them where it is kept
pub record LacksRoom (asking : Asking) (piece : List ℕ) : Type 0 where
  pub needed : IsStillNeeded asking.head.items
  pub full : vec_capacity asking.head
      < length asking.head.items + min (most_after (length asking.head.items)) (length piece)

-- a request sits there for which that is so
abbrev pub IsSeatFull : List ℕ → Option Seat → Type 0
IsSeatFull piece None = ⊥
IsSeatFull piece (Some (Asks asking)) = LacksRoom asking piece
IsSeatFull piece (Some (Watches s)) = ⊥
