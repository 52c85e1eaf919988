-- How a response is followed on one connection (CLICS Contest API 2023-06, reconnection).
use Rattle.std.specs.Prelude.{◌≡◌, ◌≢◌, ◌≤◌, ℕ, Bool, List, [], ◌++◌, length, is_some, Option, Result, Ok, Err}
use Rattle.std.specs.Io.KnownBytes.{Consumes, IsAtEnd}
use Rattle.feed_node.specs.Mirroring.{MirrorState, cut_off}
use Rattle.feed_follow.specs.declared.fault.FollowFault.{FollowFault}
use Rattle.feed_follow.specs.declared.fault.FollowFault.TheVariants.{Closed}
use Rattle.feed_follow.specs.Standing.{Standing, in_head, token_refused, in_body, done, failed}
use Rattle.feed_follow.specs.Standing.{Stands}
use Rattle.feed_follow.specs.Following.{Leaves, Fails}
use Rattle.feed_http.specs.declared.fault.EngineFault.{EngineFault}
use Rattle.feed_http.specs.declared.fault.EngineFault.TheVariants as fault
use Rattle.feed_http.specs.declared.fault.Followed.{Followed}
use Rattle.feed_http.specs.declared.fault.Followed.TheVariants.{Early, Ended, Done, TokenRefused}
use Rattle.feed_http.specs.Device.{RoseBy}
use Rattle.feed_http.specs.Exchange.{Gave}
use Rattle.feed_http.specs.HeadReading.{read_bytes}

-- further bytes count: the response stands in its head or in its body
abbrev pub IsGoingOn : Standing → Type 0
IsGoingOn in_head = Unit {0}
IsGoingOn (in_body payload) = Unit {0}
IsGoingOn token_refused = ⊥
IsGoingOn (done payload) = ⊥
IsGoingOn (failed fault payload) = ⊥

-- The bytes came in pieces of at most 4,096 bytes, each of which was read where the response, to a
-- request with a token or with none, still went on.
pub data CameAsNeeded (had_token : Bool) : List ℕ → Type 0 where
  nothing_came : CameAsNeeded had_token []
  more_came : (before piece : List ℕ) (standing : Standing) → CameAsNeeded had_token before
      → Stands had_token before standing → IsGoingOn standing → length piece ≤ read_bytes
      → CameAsNeeded had_token (before ++ piece)

-- a response to what this mirror asked with came so far: its bytes stand so, and leave this of the
-- mirror
pub record HasCome (source left : Option (List ℕ)) (start : MirrorState) (standing : Standing)
    (mirror : MirrorState) : Type 0 where
  pub bytes : List ℕ
  pub given : Consumes source left bytes
  pub needed : CameAsNeeded (is_some start.since) bytes
  pub stands : Stands (is_some start.since) bytes standing
  pub leaves : Leaves start standing mirror

-- a response came so far, and its mirror was then cut
abbrev pub WasFollowed : Option (List ℕ) → Option (List ℕ) → MirrorState → Standing → MirrorState
    → Type 0
WasFollowed source left start standing mirror =
    (followed : MirrorState) × HasCome source left start standing followed
    × (mirror ≡ cut_off followed)

-- what is answered where a response stands so and the reader has no more, or needs to give no more
abbrev pub EndsAs : Standing → Option (List ℕ) → Followed → Type 0
EndsAs in_head left followed = (followed ≡ Early) × IsAtEnd left
EndsAs (in_body payload) left followed = (followed ≡ Ended) × IsAtEnd left
EndsAs (done payload) left followed = followed ≡ Done
EndsAs token_refused left followed = followed ≡ TokenRefused
EndsAs (failed fault payload) left followed = ⊥

-- behind bytes at which the response still went on, the next piece has this fault
pub record MetFault (source left : Option (List ℕ)) (start mirror : MirrorState)
    (fault : FollowFault) : Type 0 where
  pub before : List ℕ
  pub piece : List ℕ
  pub given : Consumes source left (before ++ piece)
  pub needed : CameAsNeeded (is_some start.since) before
  pub standing : Standing
  pub stands : Stands (is_some start.since) before standing
  pub going : IsGoingOn standing
  pub short : length piece ≤ read_bytes
  pub fails : Fails start (is_some start.since) before piece mirror fault

-- why a response was not followed to its end: a read failed or was one too many (of `most_reads`)
-- where it still went on, or it has a fault
abbrev pub FollowFails : (Standing → Type 0) → (FollowFault → Type 0) → ℕ → Gave → EngineFault
    → Type 0
FollowFails Came Met most_reads gave fault.Read =
    (standing : Standing) × IsGoingOn standing × Came standing
FollowFails Came Met most_reads gave fault.TooManyReads =
    ((standing : Standing) × IsGoingOn standing × Came standing)
    × RoseBy gave.reads_old gave.reads_new most_reads
FollowFails Came Met most_reads gave (fault.Follow why) = (why ≢ Closed) × Met why
FollowFails Came Met most_reads gave fault.Write = ⊥
FollowFails Came Met most_reads gave fault.Memory = ⊥
FollowFails Came Met most_reads gave (fault.Commit why) = ⊥

abbrev pub FollowEnds : (Standing → Type 0) → (FollowFault → Type 0) → ℕ → Gave
    → Result Followed EngineFault → Type 0
FollowEnds Came Met most_reads gave (Ok followed) =
    (standing : Standing) × EndsAs standing gave.left followed × Came standing
FollowEnds Came Met most_reads gave (Err why) = FollowFails Came Met most_reads gave why

-- a response came in at most so many reads (`most_reads`), and leaves this of the mirror
abbrev pub Comes : ℕ → Gave → MirrorState → Result Followed EngineFault → MirrorState → Type 0
Comes most_reads gave start followed mirror =
    FollowEnds (λ standing. HasCome gave.source gave.left start standing mirror)
    (MetFault gave.source gave.left start mirror) most_reads gave followed

-- a response came so, and its mirror was then cut
abbrev pub Follows : ℕ → Gave → MirrorState → Result Followed EngineFault → MirrorState → Type 0
Follows most_reads gave start followed mirror =
    FollowEnds (λ standing. WasFollowed gave.source gave.left start standing mirror)
    (MetFault gave.source gave.left start mirror) most_reads gave followed
