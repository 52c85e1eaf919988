-- What a server sends and writes on one connection.
use Rattle.std.specs.Prelude.{◌≡◌, ◌⊎◌, ℕ, Bool, true, false, List, [], ◌∷◌, ◌++◌, length, map, Option, Some, None, Result, Ok, Err}
use Rattle.std.specs.List.{flat_map}
use Rattle.std.specs.Io.KnownBytes.{Appends, Consumes, IsAtEnd}
use Rattle.feed_settings.specs.declared.framing.Framing.{Framing}
use Rattle.feed_node.specs.declared.commit.Commit.{Commit}
use Rattle.feed_node.specs.Serving.{commit_text}
use Rattle.feed_node.specs.States.{NodeState}
use Rattle.feed_http.specs.Sessions.{Nothing_new, Lost, Commit_after, next}
use Rattle.feed_http.specs.declared.fault.EngineFault.{EngineFault}
use Rattle.feed_http.specs.declared.fault.EngineFault.TheVariants as fault
use Rattle.feed_http.specs.declared.fault.Served.{Served}
use Rattle.feed_http.specs.declared.service.Service.{Service}
use Rattle.feed_answer.specs.Answered.{AnswerParts, AnswersTo}
use Rattle.feed_http.specs.Device.{counted, AppendsPrefix, RoseBy, RoseAtMost}
use Rattle.feed_http.specs.Exchange.{Exchange, FailuresAreTold}
use Rattle.feed_http.specs.HeadReading.{IsReadAsNeeded, IsStillNeeded, IsEnough}
use Rattle.feed_wire.specs.Framed.{frame}
use Rattle.feed_answer.specs.Served.{behind_opening}

-- the commits that a session at this token is sent, and whether its token is then no longer held
pub data Sends (node : NodeState) : List ℕ → List Commit → Bool → Type 0 where
  up_to_date : (token : List ℕ) → next node token ≡ Nothing_new → Sends node token [] false
  lost : (token : List ℕ) → next node token ≡ Lost → Sends node token [] true
  sends : (token : List ℕ) (commit : Commit) (later : List Commit) (gone : Bool)
      → next node token ≡ Commit_after commit
      → Sends node commit.token later gone → Sends node token (commit ∷ later) gone

-- a session at this token has been sent all: nothing is new, or its token is no longer held
abbrev pub HasAll : NodeState → List ℕ → Bool → Type 0
HasAll node token false = next node token ≡ Nothing_new
HasAll node token true = next node token ≡ Lost

-- ---- what is written

-- the texts of commits, framed
abbrev pub commit_frames : Framing → List Commit → List ℕ
commit_frames framing sent = flat_map (frame framing) (map commit_text sent)

-- nothing, or a prefix of the frame of the commit that comes next
abbrev pub BeginsCommit : Framing → NodeState → List ℕ → List ℕ → Type 0
BeginsCommit framing node token begun =
    (begun ≡ [])
    ⊎ ((commit : Commit) × (rest : List ℕ) × (next node token ≡ Commit_after commit)
    × (frame framing (commit_text commit) ≡ begun ++ rest))

-- what is written behind the answer: nothing where it opened no session, else what that was sent
abbrev pub written_behind : Option (List ℕ) → Framing → List Commit → Bool → List ℕ
written_behind None framing sent gone = []
written_behind (Some _) framing sent gone = behind_opening framing (map commit_text sent) gone

abbrev pub answered_text : AnswerParts → List Commit → Bool → List ℕ
answered_text answer sent gone =
    answer.text ++ written_behind answer.session answer.framing sent gone

-- what `Served` tells
pub record ServedTells (answer : AnswerParts) (sent : List Commit) (gone : Bool)
    (served : Served) : Type 0 where
  pub status : served.status ≡ answer.status
  pub commits : served.commits ≡ counted 0 (length sent)
  pub gone_is : served.gone ≡ gone

-- what the session of an answer is sent by a node; nothing, where there is none
abbrev pub SendsTo : NodeState → Option (List ℕ) → List Commit → Bool → Type 0
SendsTo node None sent gone = (sent ≡ []) × (gone ≡ false)
SendsTo node (Some token) sent gone = Sends node token sent gone

-- all that a node writes with this answer
pub record SendsAnswer (node : NodeState) (answer : AnswerParts) (text : List ℕ)
    (served : Served) : Type 0 where
  pub sent : List Commit
  pub gone : Bool
  pub sends : SendsTo node answer.session sent gone
  pub text_is : text ≡ answered_text answer sent gone
  pub tells : ServedTells answer sent gone served

-- all that a node writes to a client that sent these bytes
pub record Serves (head contest : List ℕ) (node : NodeState) (framing : Framing) (back : ℕ)
    (text : List ℕ) (served : Served) : Type 0 where
  pub answer : AnswerParts
  pub answers : AnswersTo head contest node framing back answer
  pub sends : SendsAnswer node answer text served

-- reading broke off where a head was still needed, and nothing was written
abbrev pub BrokeInHead : Option (List ℕ) → Option (List ℕ) → Option (List ℕ) → Option (List ℕ)
    → Type 0
BrokeInHead source left old new =
    (head : List ℕ) × Consumes source left head × IsReadAsNeeded head × IsStillNeeded head
    × Appends old new []

-- these bytes were read, as far as the head took, and a prefix of what a node writes to a client
-- that sent them was written
abbrev pub BrokeBehindHead : List ℕ → NodeState → Framing → ℕ → Option (List ℕ)
    → Option (List ℕ) → Option (List ℕ) → Option (List ℕ) → Type 0
BrokeBehindHead contest node framing back source left old new =
    (head : List ℕ) × (text : List ℕ) × (served : Served) × Consumes source left head
    × IsReadAsNeeded head × (IsEnough head ⊎ IsAtEnd left)
    × Serves head contest node framing back text served × AppendsPrefix old new text

-- ---- on a connection

-- what was read and written where a node was served
abbrev pub ServedSo : Service → NodeState → Exchange → Result Served EngineFault → Type 0
ServedSo service node spoken (Ok served) =
    (head : List ℕ) × (text : List ℕ) × Consumes spoken.source spoken.left head
    × IsReadAsNeeded head × (IsEnough head ⊎ IsAtEnd spoken.left)
    × Serves head service.contest.now node service.framing service.back text served
    × Appends spoken.written_old spoken.written_new text
ServedSo service node spoken (Err fault.Read) =
    BrokeInHead spoken.source spoken.left spoken.written_old spoken.written_new
ServedSo service node spoken (Err fault.TooManyReads) =
    BrokeInHead spoken.source spoken.left spoken.written_old spoken.written_new
    × RoseBy spoken.reads_old spoken.reads_new service.most_reads
ServedSo service node spoken (Err fault.Write) =
    BrokeBehindHead service.contest.now node service.framing service.back spoken.source spoken.left
    spoken.written_old spoken.written_new
ServedSo service node spoken (Err fault.Memory) =
    Appends spoken.written_old spoken.written_new []
    ⊎ BrokeBehindHead service.contest.now node service.framing service.back spoken.source
    spoken.left spoken.written_old spoken.written_new
ServedSo service node spoken (Err (fault.Commit why)) = ⊥
ServedSo service node spoken (Err (fault.Follow why)) = ⊥

-- a node was served on a connection
pub record ServesOnce (service : Service) (node : NodeState) (spoken : Exchange)
    (served : Result Served EngineFault) : Type 0 where
  pub came : ServedSo service node spoken served
  pub reads : RoseAtMost spoken.reads_old spoken.reads_new service.most_reads
  pub failures : FailuresAreTold spoken served
