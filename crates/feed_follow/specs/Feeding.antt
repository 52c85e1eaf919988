-- What pieces of a body do to the mirror that they are fed to, wherever it stands.
use Rattle.std.specs.Prelude.{◌≡◌, ◌≢◌, ◌≤◌, ◌⊎◌, ℕ, List, [], ◌∷◌, ◌++◌, length, None}
use Rattle.feed_node.specs.declared.fault.FeedFault.{FeedFault}
use Rattle.feed_node.specs.declared.fault.FeedFault.TheVariants.{Memory as FeedMemory}
use Rattle.feed_node.specs.Mirroring.{MirrorState}
use Rattle.feed_wire.specs.declared.chunk.Chunking.{Chunking}
use Rattle.feed_wire.specs.declared.chunk.Chunking.TheVariants.{Whole, InBytes}
use Rattle.feed_follow.specs.declared.coding.BodyFraming.{BodyFraming}
use Rattle.feed_follow.specs.declared.coding.BodyFraming.TheVariants as framed
use Rattle.feed_follow.specs.declared.fault.FollowFault.{FollowFault}
use Rattle.feed_follow.specs.declared.fault.FollowFault.TheVariants.{BadChunk, Feed}
use Rattle.feed_follow.specs.declared.follower.Part.{Part}
use Rattle.feed_wire.specs.ChunkReading.{ReadsChunks, next}
use Rattle.feed_wire.specs.ChunkedBody.{HasBadChunk}
use Rattle.feed_follow.specs.Standing.{in_body, done, StandsInBody}
use Rattle.feed_follow.specs.Following.{HasReached, IsCutAfter, IsCutAtFault}
use Rattle.feed_follow.specs.Follower.{ReadsBody}

-- the mirror was fed these bytes: wherever it had come, they came behind
abbrev pub HasFed : MirrorState → List ℕ → MirrorState → Type 0
HasFed old payload new =
    (start : MirrorState) (before : List ℕ) → HasReached start before old → HasReached start
    (before ++ payload) new

-- the mirror that had come to a payload stopped within these bytes
abbrev pub StopsAt : MirrorState → List ℕ → List ℕ → MirrorState → FeedFault → Type 0
StopsAt start before bytes mirror FeedMemory =
    (counted : List ℕ) × (uncounted : List ℕ) × (bytes ≡ counted ++ uncounted)
    × IsCutAfter start (before ++ counted) mirror
StopsAt start before bytes mirror fault = IsCutAtFault start (before ++ bytes) fault mirror

-- behind this payload the mirror stopped within these bytes
abbrev pub StopsBehind : MirrorState → List ℕ → List ℕ → MirrorState → FeedFault → Type 0
StopsBehind old payload bytes new fault =
    (start : MirrorState) (before : List ℕ) → HasReached start before old → StopsAt start
    (before ++ payload) bytes new fault

abbrev pub StopsFeeding : MirrorState → List ℕ → MirrorState → FollowFault → Type 0
StopsFeeding old bytes new (Feed fault) = StopsBehind old [] bytes new fault
StopsFeeding old bytes new fault = ⊥

-- these bytes of a chunked body were read, and what they carry was fed
pub record FeedsChunks (at : Chunking) (piece : List ℕ) (old : MirrorState) (to : Chunking)
    (new : MirrorState) : Type 0 where
  pub payload : List ℕ
  pub reads : ReadsChunks at piece payload to
  pub fed : HasFed old payload new

-- the piece was, up to the end of the body
pub record FeedsToEnd (at : Chunking) (piece : List ℕ) (old : MirrorState) (to : Chunking)
    (new : MirrorState) : Type 0 where
  pub prefix : List ℕ
  pub ignored : List ℕ
  pub split : piece ≡ prefix ++ ignored
  pub feeds : FeedsChunks at prefix old to new
  pub to_end : (ignored ≡ []) ⊎ (to ≡ Whole)

-- the first bytes were, and the next one can't stand there
pub record MeetsBadByte (at : Chunking) (piece : List ℕ) (old new : MirrorState) : Type 0 where
  pub prefix : List ℕ
  pub byte : ℕ
  pub later : List ℕ
  pub place : Chunking
  pub split : piece ≡ prefix ++ byte ∷ later
  pub feeds : FeedsChunks at prefix old place new
  pub going : place ≢ Whole
  pub refused : next place byte ≡ None

-- the first bytes were, and the mirror stopped within further ones of one chunk
pub record StopsInChunk (at : Chunking) (piece : List ℕ) (old new : MirrorState)
    (fault : FeedFault) : Type 0 where
  pub prefix : List ℕ
  pub bytes : List ℕ
  pub later : List ℕ
  pub left : ℕ
  pub payload : List ℕ
  pub split : piece ≡ prefix ++ (bytes ++ later)
  pub reads : ReadsChunks at prefix payload (InBytes left)
  pub fits : length bytes ≤ left
  pub stops : StopsBehind old payload bytes new fault

abbrev pub StopsInChunks : Chunking → List ℕ → MirrorState → MirrorState → FollowFault → Type 0
StopsInChunks at piece old new BadChunk = MeetsBadByte at piece old new
StopsInChunks at piece old new (Feed fault) = StopsInChunk at piece old new fault
StopsInChunks at piece old new fault = ⊥

-- the next bytes of a body read in this part: wherever it stands
abbrev pub BodyGoesOn : Part → List ℕ → MirrorState → MirrorState → Part → Type 0
BodyGoesOn part piece old new to =
    (framing : BodyFraming) (text payload : List ℕ) → ReadsBody framing text payload part
    → (more : List ℕ) × ReadsBody framing (text ++ piece) (payload ++ more) to × HasFed old more new

-- the bytes of a body brought this payload
abbrev pub BringsBody : BodyFraming → List ℕ → List ℕ → Type 0
BringsBody framing text payload =
    StandsInBody framing text (in_body payload) ⊎ StandsInBody framing text (done payload)

-- want of memory: what some of the piece brought counts
pub record BodyLoses (start : MirrorState) (framing : BodyFraming) (text piece : List ℕ)
    (mirror : MirrorState) : Type 0 where
  pub counted : List ℕ
  pub uncounted : List ℕ
  pub whole : piece ≡ counted ++ uncounted
  pub payload : List ℕ
  pub brings : BringsBody framing (text ++ counted) payload
  pub cut : IsCutAfter start payload mirror

-- a line of the payload is bad
pub record BodyIsBad (start : MirrorState) (framing : BodyFraming) (text : List ℕ)
    (fault : FeedFault) (mirror : MirrorState) : Type 0 where
  pub prefix : List ℕ
  pub later : List ℕ
  pub whole : text ≡ prefix ++ later
  pub payload : List ℕ
  pub brings : BringsBody framing prefix payload
  pub cut : IsCutAtFault start payload fault mirror

-- a byte of the body can't stand there
pub record BodyBreaks (start : MirrorState) (framing : BodyFraming) (text : List ℕ)
    (mirror : MirrorState) : Type 0 where
  pub payload : List ℕ
  pub framed : framing ≡ framed.InChunks
  pub bad : HasBadChunk text payload
  pub reached : HasReached start payload mirror

abbrev pub BodyFails : MirrorState → BodyFraming → List ℕ → List ℕ → MirrorState → FollowFault
    → Type 0
BodyFails start framing text piece mirror BadChunk = BodyBreaks start framing (text ++ piece) mirror
BodyFails start framing text piece mirror (Feed FeedMemory) =
    BodyLoses start framing text piece mirror
BodyFails start framing text piece mirror (Feed fault) =
    BodyIsBad start framing (text ++ piece) fault mirror
BodyFails start framing text piece mirror fault = ⊥

abbrev pub BodyStops : Part → List ℕ → MirrorState → MirrorState → FollowFault → Type 0
BodyStops part piece old new fault =
    (start : MirrorState) (framing : BodyFraming) (text payload : List ℕ)
    → ReadsBody framing text payload part
    → HasReached start payload old → BodyFails start framing text piece new fault
