-- What a follower's fields keep, and what the pieces of a head do.
use Rattle.std.specs.Prelude.{◌≡◌, ◌≤◌, ℕ, Bool, List, [], ◌++◌, length, Option, None, Some, Vec, Ok}
use Rattle.httparse.specs.Grammar.{ResponseHead}
use Rattle.feed_node.specs.Mirroring.{MirrorState, cut_off}
use Rattle.feed_follow.specs.declared.coding.BodyFraming.{BodyFraming}
use Rattle.feed_follow.specs.declared.fault.FollowFault.{FollowFault}
use Rattle.feed_follow.specs.declared.fault.FollowFault.TheVariants.{Closed as IsClosed, BadChunk, Feed, Memory}
use Rattle.feed_follow.specs.declared.heads.Verdict.TheVariants.{Body, Refusal}
use Rattle.feed_follow.specs.declared.follower.Part.{Part}
use Rattle.feed_follow.specs.declared.follower.Part.TheVariants.{Head, Closed}
use Rattle.feed_wire.specs.HeadSizes.{head_bytes}
use Rattle.feed_wire.specs.ResponseHeads.{BeginsWithResponse}
use Rattle.feed_follow.specs.HeadRead.{IsUnfinished, IsNoHead}
use Rattle.feed_follow.specs.Standing.{verdict}
use Rattle.feed_follow.specs.Following.{HasReached}
use Rattle.feed_follow.specs.Follower.{FollowerState, ReadsBody, IsPart}
use Rattle.feed_follow.specs.Feeding.{BodyFails}

-- the bytes of an unfinished head
abbrev pub kept_bytes : {A : Type 0} → Option (Vec ℕ A) → List ℕ
kept_bytes None = []
kept_bytes (Some head) = head.items

abbrev pub follower_of : {A : Type 0} → Bool → Option (Vec ℕ A) → Part → FollowerState
follower_of had_token kept part =
    record { had_token = had_token; kept = kept_bytes kept; part = part }

pub record KeepsLittle {A : Type 0} (kept : Option (Vec ℕ A)) (part : Part) : Type 0 where
  pub bounded : length (kept_bytes kept) ≤ head_bytes
  pub is_part : IsPart part

-- a head that says how the body is framed is whole, and what came of the body was fed
pub record HeadBrings (had_token : Bool) (bytes : List ℕ) (old new : MirrorState)
    (part : Part) : Type 0 where
  pub head : ResponseHead
  pub text : List ℕ
  pub begins : BeginsWithResponse bytes head text
  pub framing : BodyFraming
  pub says : verdict had_token head ≡ Ok (Body framing)
  pub payload : List ℕ
  pub reads : ReadsBody framing text payload part
  pub reached : HasReached old payload new

-- a head that refuses the token is whole, and the mirror is cut
pub record HeadRefuses (had_token : Bool) (bytes : List ℕ) (old new : MirrorState) : Type 0 where
  pub head : ResponseHead
  pub rest : List ℕ
  pub begins : BeginsWithResponse bytes head rest
  pub says : verdict had_token head ≡ Ok Refusal
  pub cut : new ≡ cut_off old

-- what is read behind these bytes
abbrev pub HeadGoesOn : Bool → List ℕ → MirrorState → List ℕ → MirrorState → Part → Type 0
HeadGoesOn had_token bytes old kept new Head = IsUnfinished bytes × (kept ≡ bytes) × (new ≡ old)
HeadGoesOn had_token bytes old kept new Closed = HeadRefuses had_token bytes old new
HeadGoesOn had_token bytes old kept new part = HeadBrings had_token bytes old new part

-- a head is whole within the piece, and the body behind it has a fault
pub record StopsBehindHead (had_token : Bool) (before piece : List ℕ) (old new : MirrorState)
    (fault : FollowFault) : Type 0 where
  pub prefix : List ℕ
  pub text : List ℕ
  pub split : piece ≡ prefix ++ text
  pub head : ResponseHead
  pub begins : BeginsWithResponse (before ++ prefix) head []
  pub framing : BodyFraming
  pub says : verdict had_token head ≡ Ok (Body framing)
  pub fails : BodyFails old framing [] text new fault

-- why the piece behind these bytes of a head can't be followed
abbrev pub HeadStops : Bool → List ℕ → List ℕ → MirrorState → MirrorState → FollowFault → Type 0
HeadStops had_token before piece old new Memory = new ≡ old
HeadStops had_token before piece old new BadChunk =
    StopsBehindHead had_token before piece old new BadChunk
HeadStops had_token before piece old new (Feed fault) =
    StopsBehindHead had_token before piece old new (Feed fault)
HeadStops had_token before piece old new IsClosed = ⊥
HeadStops had_token before piece old new fault =
    IsNoHead had_token (before ++ piece) fault × (new ≡ old)
