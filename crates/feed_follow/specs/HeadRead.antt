-- What a look at the bytes of a response's head says.
use Rattle.std.specs.Prelude.{◌≡◌, ◌⊎◌, ℕ, ◌≤◌, Bool, List, [], length, drop, Ok, Err}
use Rattle.httparse.specs.Grammar.{ResponseHead}
use Rattle.feed_follow.specs.declared.fault.FollowFault.{FollowFault}
use Rattle.feed_follow.specs.declared.fault.FollowFault.TheVariants.{LongHead, BadHead, Status, BadCoding, BadLength}
use Rattle.feed_follow.specs.declared.heads.WholeHead.{WholeHead}
use Rattle.feed_wire.specs.HeadSizes.{IsPastLimits}
use Rattle.feed_wire.specs.ResponseHeads.{BeginsWithResponse, HasNoWholeResponse}
use Rattle.feed_follow.specs.Standing.{failed, verdict, StandsInHead}

-- a head of this length stands at the start, and says this
pub record IsHeadRead (had_token : Bool) (bytes : List ℕ) (found : WholeHead) : Type 0 where
  pub head : ResponseHead
  pub fits : found.len ≤ length bytes
  pub begins : BeginsWithResponse bytes head (drop found.len bytes)
  pub says : verdict had_token head ≡ Ok found.says

-- a head is not whole, and may still be
pub record IsUnfinished (bytes : List ℕ) : Type 0 where
  pub no_head : HasNoWholeResponse bytes
  pub within : ¬ (IsPastLimits bytes)

-- what may be wrong with a head
abbrev pub IsHeadFault : FollowFault → Type 0
IsHeadFault LongHead = Unit {0}
IsHeadFault BadHead = Unit {0}
IsHeadFault (Status status) = Unit {0}
IsHeadFault BadCoding = Unit {0}
IsHeadFault BadLength = Unit {0}
IsHeadFault fault = ⊥

-- there can be no head, or what it says is this fault
pub record IsNoHead (had_token : Bool) (bytes : List ℕ) (fault : FollowFault) : Type 0 where
  pub of_head : IsHeadFault fault
  pub stands : (HasNoWholeResponse bytes × StandsInHead bytes (failed fault []))
      ⊎ ((head : ResponseHead) × (rest : List ℕ) × BeginsWithResponse bytes head rest ×
      (verdict had_token head ≡ Err fault))
