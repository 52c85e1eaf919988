-- What a follower keeps of a response, and where it stands with the mirror that it feeds.
use Rattle.std.specs.Prelude.{◌≡◌, ◌≢◌, ◌<◌, ◌≤◌, ◌+◌, ℕ, Bool, List, [], ◌++◌, None, length, is_some, Result, Ok, Err, OnErr, ◌==◌, if◌then◌else◌}
use Rattle.httparse.specs.Grammar.{ResponseHead}
use Rattle.feed_node.specs.Mirroring.{MirrorState, cut_off, refused_off}
use Rattle.feed_wire.specs.declared.chunk.Chunking.TheVariants.{LineStart, Whole}
use Rattle.feed_follow.specs.declared.coding.BodyFraming.{BodyFraming}
use Rattle.feed_follow.specs.declared.coding.BodyFraming.TheVariants as framed
use Rattle.feed_follow.specs.declared.heads.Verdict.TheVariants.{Body}
use Rattle.feed_follow.specs.declared.fault.FollowFault.{FollowFault}
use Rattle.feed_follow.specs.declared.fault.FollowFault.TheVariants as faults
use Rattle.feed_follow.specs.declared.fault.Progress.{Progress}
use Rattle.feed_follow.specs.declared.fault.Progress.TheVariants as reached
use Rattle.feed_follow.specs.declared.follower.Part.{Part}
use Rattle.feed_follow.specs.declared.follower.Part.TheVariants.{Head, ToEnd, Sized, InChunks, Done, Closed}
use Rattle.feed_follow.specs.Bodies.{IsBody}
use Rattle.feed_wire.specs.ChunkReading as chunks
use Rattle.feed_wire.specs.HeadSizes.{head_bytes}
use Rattle.feed_wire.specs.ResponseHeads.{BeginsWithResponse}
use Rattle.feed_follow.specs.Standing.{Standing, in_head, token_refused, in_body, done, Stands, verdict}
use Rattle.feed_follow.specs.Following.{Leaves, Answers}

-- a follower: whether the request had a token, the bytes of an unfinished head, and the part of the
-- response that it reads
pub record FollowerState : Type 0 where
  pub had_token : Bool
  pub kept : List ℕ
  pub part : Part

-- a body so framed, of which this text has come with this payload, is read in this part
abbrev pub ReadsBody : BodyFraming → List ℕ → List ℕ → Part → Type 0
ReadsBody framing text payload Head = ⊥
ReadsBody framing text payload ToEnd = (framing ≡ framed.ToEnd) × (payload ≡ text)
ReadsBody framing text payload (Sized left) =
    (framing ≡ framed.Sized (length text + left)) × (0 < left) × (payload ≡ text)
ReadsBody framing text payload (InChunks at) =
    (framing ≡ framed.InChunks) × (at ≢ Whole) × chunks.ReadsChunks LineStart text payload at
ReadsBody framing text payload Done =
    (body : List ℕ) × (ignored : List ℕ) × (text ≡ body ++ ignored) × IsBody framing body payload
ReadsBody framing text payload Closed = ⊥

-- a response in whose body this payload came stands so
abbrev pub standing_with : List ℕ → Part → Standing
standing_with payload Done = done payload
standing_with payload part = in_body payload

-- the follower is behind a head that says how the body is framed
pub record IsInBody (follower : FollowerState) (bytes : List ℕ) (standing : Standing) : Type 0 where
  pub head : ResponseHead
  pub text : List ℕ
  pub begins : BeginsWithResponse bytes head text
  pub framing : BodyFraming
  pub says : verdict follower.had_token head ≡ Ok (Body framing)
  pub payload : List ℕ
  pub reads : ReadsBody framing text payload follower.part
  pub standing_is : standing ≡ standing_with payload follower.part

-- how what a follower keeps tells where the bytes of a response stand
abbrev pub Keeps : Part → FollowerState → List ℕ → Standing → Type 0
Keeps Head follower bytes standing = (follower.kept ≡ bytes) × (standing ≡ in_head)
Keeps Closed follower bytes standing = standing ≡ token_refused
Keeps part follower bytes standing = IsInBody follower bytes standing

-- A follower that was pushed these bytes; they stand so, and its mirror began as this one and is
-- this one now.
pub record FollowsAt (start : MirrorState) (bytes : List ℕ) (standing : Standing)
    (follower : FollowerState) (mirror : MirrorState) : Type 0 where
  pub asked : follower.had_token ≡ is_some start.since
  pub stands : Stands follower.had_token bytes standing
  pub keeps : Keeps follower.part follower bytes standing
  pub leaves : Leaves start standing mirror

-- the numbers of a part, as far as code needs them
abbrev pub IsPart : Part → Type 0
IsPart (InChunks at) = chunks.IsChunkPlace at
IsPart part = Unit {0}

-- the part of a response behind a head that frames its body so
abbrev pub first_part : BodyFraming → Part
first_part framed.ToEnd = ToEnd
first_part (framed.Sized n) = if n == 0 then Done else Sized n
first_part framed.InChunks = InChunks LineStart

-- how far a response has come of which this part is next
abbrev pub progress : Part → Progress
progress Head = reached.Head
progress Done = reached.Done
progress Closed = reached.TokenRefused
progress part = reached.Body

-- a push that goes on: wherever the follower stands now, this is answered
abbrev pub GoesOn : MirrorState → List ℕ → FollowerState → MirrorState → Progress → Type 0
GoesOn start bytes follower mirror answer =
    (now : Standing) × Answers now answer × FollowsAt start bytes now follower mirror

-- a push that leaves a refused token to its caller: the mirror is cut then, and has the token; once
-- it forgets that, the response stands as it would; else the push goes on
abbrev pub GoesOnOrRefuses : MirrorState → List ℕ → FollowerState → MirrorState → Progress → Type 0
GoesOnOrRefuses start bytes follower mirror reached.TokenRefused =
    (mirror ≡ cut_off start) × FollowsAt start bytes token_refused follower (refused_off mirror)
GoesOnOrRefuses start bytes follower mirror answer = GoesOn start bytes follower mirror answer

-- what any push of a piece keeps to, wherever the response stands
pub record IsPush (piece : List ℕ) (old new : FollowerState) (before after : MirrorState)
    (result : Result Progress FollowFault) : Type 0 where
  -- after a fault or a refused token nothing is read
  pub closed : old.part ≡ Closed → (result ≡ Err faults.Closed) × (after ≡ before) × (new ≡ old)
  pub closes : OnErr result (new.part ≡ Closed)
  pub refuses : result ≡ Ok reached.TokenRefused → new.part ≡ Closed
  -- no bytes, and bytes behind a whole body, take no memory and change nothing
  pub nothing : piece ≡ [] → old.part ≢ Closed
      → (result ≡ Ok (progress old.part)) × (after ≡ before) × (new ≡ old)
  pub done : old.part ≡ Done → (result ≡ Ok reached.Done) × (after ≡ before) × (new ≡ old)
  -- a fault leaves no connection
  pub cut : OnErr result (old.part ≢ Closed → after.connection ≡ None)
  pub asked : new.had_token ≡ old.had_token
  pub limits : after.limits ≡ before.limits
  pub bounded : length new.kept ≤ head_bytes
