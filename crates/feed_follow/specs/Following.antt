-- What a response does to the mirror that follows it (CLICS Contest API 2023-06, reconnection).
use Rattle.std.specs.Prelude.{◌≡◌, ◌⊎◌, ℕ, Bool, List, [], ◌++◌}
use Rattle.feed_note.specs.declared.line.Line.{Line}
use Rattle.feed_node.specs.declared.fault.FeedFault.{FeedFault}
use Rattle.feed_node.specs.declared.fault.FeedFault.TheVariants.{Memory as FeedMemory}
use Rattle.feed_node.specs.Reading.{FaultsAt, Reads}
use Rattle.feed_node.specs.Mirroring.{MirrorState, StandsAt, present_opening, mirror_after, cut_off, refused_off}
use Rattle.feed_follow.specs.declared.fault.FollowFault.{FollowFault}
use Rattle.feed_follow.specs.declared.fault.FollowFault.TheVariants.{Closed, BadChunk, Feed, Memory}
use Rattle.feed_follow.specs.declared.fault.Progress.{Progress}
use Rattle.feed_follow.specs.declared.fault.Progress.TheVariants as progress
use Rattle.feed_follow.specs.Standing.{Standing, in_head, token_refused, in_body, done, failed, Stands}

-- the mirror that began at this one stands at the payload
pub record HasReached (start : MirrorState) (payload : List ℕ) (mirror : MirrorState) : Type 0 where
  pub limits : mirror.limits ≡ start.limits
  pub notes : List Line
  pub stands : StandsAt (present_opening start) payload notes mirror

-- nothing is wrong with the payload, and the mirror is cut with what it published
pub record IsCutAfter (start : MirrorState) (payload : List ℕ) (mirror : MirrorState) : Type 0 where
  pub notes : List Line
  pub nothing_bad : Reads start.limits (present_opening start) payload notes
  pub state : mirror ≡ cut_off (mirror_after start.limits (present_opening start) notes [])

-- a line of the payload has this fault, the first one; what the lines before it published stands
pub record IsCutAtFault (start : MirrorState) (payload : List ℕ) (fault : FeedFault)
    (mirror : MirrorState) : Type 0 where
  pub notes : List Line
  pub first : FaultsAt start.limits (present_opening start) payload notes fault
  pub state : mirror ≡ cut_off (mirror_after start.limits (present_opening start) notes [])

-- what a response that stands so leaves of the mirror, which was this one when the response began
abbrev pub Leaves : MirrorState → Standing → MirrorState → Type 0
Leaves start in_head mirror = mirror ≡ start
Leaves start token_refused mirror = mirror ≡ refused_off start
Leaves start (in_body payload) mirror = HasReached start payload mirror
Leaves start (done payload) mirror = HasReached start payload mirror
Leaves start (failed BadChunk payload) mirror = IsCutAfter start payload mirror
Leaves start (failed fault payload) mirror = mirror ≡ cut_off start

-- what is answered where a response stands so
abbrev pub Answers : Standing → Progress → Type 0
Answers in_head answer = answer ≡ progress.Head
Answers token_refused answer = answer ≡ progress.TokenRefused
Answers (in_body payload) answer = answer ≡ progress.Body
Answers (done payload) answer = answer ≡ progress.Done
Answers (failed fault payload) answer = ⊥

-- the bytes brought this payload, all of the body or not
abbrev pub Brings : Bool → List ℕ → List ℕ → Type 0
Brings had_token bytes payload =
    Stands had_token bytes (in_body payload) ⊎ Stands had_token bytes (done payload)

-- some prefix of the bytes brought a payload in which a line is bad
pub record HasBadLine (start : MirrorState) (had_token : Bool) (bytes : List ℕ)
    (fault : FeedFault) (mirror : MirrorState) : Type 0 where
  pub prefix : List ℕ
  pub later : List ℕ
  pub whole : bytes ≡ prefix ++ later
  pub payload : List ℕ
  pub brings : Brings had_token prefix payload
  pub cut : IsCutAtFault start payload fault mirror

-- a want of memory: the mirror is cut, with what some of the bytes brought, not fewer than came
-- before
pub record HasLostSome (start : MirrorState) (had_token : Bool) (before piece : List ℕ)
    (mirror : MirrorState) : Type 0 where
  pub counted : List ℕ
  pub uncounted : List ℕ
  pub whole : piece ≡ counted ++ uncounted
  pub left : (Stands had_token (before ++ counted) in_head × (mirror ≡ cut_off start))
      ⊎ ((payload : List ℕ) × Brings had_token (before ++ counted) payload
      × IsCutAfter start payload mirror)

-- why a push of this piece fails, and what it leaves
abbrev pub Fails : MirrorState → Bool → List ℕ → List ℕ → MirrorState → FollowFault → Type 0
Fails start had_token before piece mirror Memory = HasLostSome start had_token before piece mirror
Fails start had_token before piece mirror (Feed FeedMemory) =
    HasLostSome start had_token before piece mirror
Fails start had_token before piece mirror (Feed fault) =
    HasBadLine start had_token (before ++ piece) fault mirror
Fails start had_token before piece mirror Closed =
    Stands had_token before token_refused × (mirror ≡ refused_off start)
Fails start had_token before piece mirror fault =
    (payload : List ℕ) × Stands had_token (before ++ piece) (failed fault payload)
    × Leaves start (failed fault payload) mirror
