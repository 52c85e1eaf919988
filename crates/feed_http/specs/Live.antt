-- What a primary that takes batches sends and writes on one connection.
use Rattle.std.specs.Prelude.{◌≡◌, ◌≢◌, ◌⊎◌, ◌+◌, ◌<◌, ◌≤◌, ℕ, zero, suc, Bool, true, false, ◌&&◌, nat_lt, List, [], ◌∷◌, ◌++◌, length, map, take, drop, Option, Some, None, Result, Ok, Err, Vec}
use Rattle.std.specs.Io.KnownBytes.{Appends, Consumes, IsAtEnd}
use Rattle.feed_settings.specs.declared.framing.Framing.{Framing}
use Rattle.feed_changes.specs.declared.change.Change.{Change}
use Rattle.feed_tables.specs.Amounts.{changes_bytes}
use Rattle.feed_node.specs.Bounds.{passes}
use Rattle.feed_node.specs.declared.commit.Commit.{Commit}
use Rattle.feed_node.specs.declared.primary.CommitFault.{CommitFault}
use Rattle.feed_node.specs.Log.{PrimaryState, commits, commit_fault, RefusesBatch}
use Rattle.feed_node.specs.States.{NodeState}
use Rattle.feed_answer.specs.Answered.{AnswerParts, AnswersTo}
use Rattle.feed_wire.specs.Framed.{frame_end}
use Rattle.feed_answer.specs.Served.{farewell}
use Rattle.feed_http.specs.declared.fault.EngineFault.{EngineFault}
use Rattle.feed_http.specs.declared.fault.EngineFault.TheVariants as fault
use Rattle.feed_http.specs.declared.fault.Served.{Served}
use Rattle.feed_http.specs.declared.service.Service.{Service}
use Rattle.feed_http.specs.Device.{AppendsPrefix, RoseBy, RoseAtMost}
use Rattle.feed_http.specs.Exchange.{Exchange, FailuresAreTold}
use Rattle.feed_http.specs.HeadReading.{IsReadAsNeeded, IsEnough}
use Rattle.feed_http.specs.Sessions.{Nothing_new, Commit_after, next}
use Rattle.feed_http.specs.Serving.{HasAll, commit_frames, BeginsCommit, answered_text, ServedTells, BrokeInHead}

-- a primary, and the batches that it is still to take, the next one first
pub record Intake : Type 0 where
  pub primary : PrimaryState
  pub batches : List (List Change)

-- the same of batches in memory
abbrev pub intake_of : {A : Type 0} → PrimaryState → List (Vec Change A) → Intake
intake_of primary input = record { primary = primary; batches = map (λ batch. batch.items) input }

-- a primary accepts batches, one after another
pub data Accepts (first : PrimaryState) : List (List Change) → PrimaryState → Type 0 where
  accepts_none : Accepts first [] first
  accepts_one : (earlier : List (List Change)) (primary : PrimaryState) (batch : List Change)
      → Accepts first earlier primary → commit_fault primary batch ≡ None
      → Accepts first (earlier ++ batch ∷ []) (commits primary batch)

-- a turn of so many batches, or of all that remain: they are accepted, and those behind are left
pub record TakesTurn (turn : ℕ) (before now : Intake) : Type 0 where
  pub accepted : Accepts before.primary (take turn before.batches) now.primary
  pub left : now.batches ≡ drop turn before.batches

-- of a turn some batches were accepted, and the next one was refused; that one is taken, too, and
-- those behind it are left
pub record RefusesInTurn (turn : ℕ) (before : Intake) (fault : CommitFault)
    (now : Intake) : Type 0 where
  pub earlier : List (List Change)
  pub batch : List Change
  pub accepted : Accepts before.primary earlier now.primary
  pub refused : RefusesBatch now.primary batch fault
  pub batches : before.batches ≡ earlier ++ batch ∷ now.batches
  pub within : length earlier < turn

-- a turn has more batches than the primary keeps commits, and so many wait
abbrev pub IsLongTurn : ℕ → Intake → Type 0
IsLongTurn turn start =
    (start.primary.limits.history.commits < turn)
    × (start.primary.limits.history.commits < length start.batches)

-- how many bytes the objects have that these batches put in
abbrev pub batches_bytes : List (List Change) → ℕ
batches_bytes [] = 0
batches_bytes (batch ∷ batches) = changes_bytes batch + batches_bytes batches

-- these are more batches than one, and have more bytes than a limit, where there is one: the newest
-- commit is kept, whatever it has
abbrev pub are_heavy_batches : Option ℕ → List (List Change) → Bool
are_heavy_batches limit batches =
    nat_lt 1 (length batches) && passes limit (batches_bytes batches)

-- the batches that are left behind so many turns
abbrev pub left_behind : ℕ → ℕ → List (List Change) → List (List Change)
left_behind turn zero batches = batches
left_behind turn (suc turns) batches = drop turn (left_behind turn turns batches)

-- the turn behind so many others has more bytes in its batches than the primary keeps
abbrev pub HasHeavyTurn : ℕ → Intake → Type 0
HasHeavyTurn turn start =
    (turns : ℕ)
    × (are_heavy_batches start.primary.limits.history.bytes
    (take turn (left_behind turn turns start.batches)) ≡ true)

-- some turn has more batches than the primary keeps, or more bytes in them
abbrev pub MayLoseTokens : ℕ → Intake → Type 0
MayLoseTokens turn start = IsLongTurn turn start ⊎ HasHeavyTurn turn start

-- a long turn loses the token of a session
abbrev pub LosesItsToken : ℕ → Intake → Bool → Type 0
LosesItsToken turn start gone = IsLongTurn turn start → gone ≡ true

-- ---- what is sent

-- A session that opened at this token was sent these commits, and is at that token. Each time that
-- there was nothing new, a turn was taken.
pub data HasSent (turn : ℕ) (start : Intake) (opened : List ℕ) : List Commit → Intake → List ℕ
    → Type 0 where
  none_sent : HasSent turn start opened [] start opened
  commit_sent : (earlier : List Commit) (now : Intake) (token : List ℕ) (commit : Commit)
      → HasSent turn start opened earlier now token
      → next now.primary.node token ≡ Commit_after commit
      → HasSent turn start opened (earlier ++ commit ∷ []) now commit.token
  turn_taken : (sent : List Commit) (before now : Intake) (token : List ℕ)
      → HasSent turn start opened sent before token
      → next before.primary.node token ≡ Nothing_new → TakesTurn turn before now
      → HasSent turn start opened sent now token

-- it ends: the token is lost, or nothing is new and no batch remains
abbrev pub IsOver : Intake → List ℕ → Bool → Type 0
IsOver now token true = HasAll now.primary.node token true
IsOver now token false = HasAll now.primary.node token false × (now.batches ≡ [])

-- what the session of an answer is sent; nothing, and no batch is taken, where there is none
abbrev pub SendsLiveTo : ℕ → Intake → Option (List ℕ) → List Commit → Bool → Intake → Type 0
SendsLiveTo turn start None sent gone now = (sent ≡ []) × (gone ≡ false) × (now ≡ start)
SendsLiveTo turn start (Some opened) sent gone now =
    (token : List ℕ) × HasSent turn start opened sent now token × IsOver now token gone

-- all that is written with this answer, what `Served` tells of it, and what is left
pub record SendsLive (turn : ℕ) (start : Intake) (answer : AnswerParts) (text : List ℕ)
    (served : Served) (now : Intake) : Type 0 where
  pub sent : List Commit
  pub gone : Bool
  pub sends : SendsLiveTo turn start answer.session sent gone now
  pub text_is : text ≡ answered_text answer sent gone
  pub tells : ServedTells answer sent gone served

-- ---- where it broke off

-- nothing, or a prefix of what comes next: the frame of a commit, or the end
abbrev pub BeginsNext : Framing → Intake → List ℕ → List ℕ → Type 0
BeginsNext framing now token begun =
    BeginsCommit framing now.primary.node token begun
    ⊎ ((gone : Bool) × (rest : List ℕ) × IsOver now token gone
    × (farewell framing gone ++ frame_end framing ≡ begun ++ rest))

-- the text is the frames of the commits that a session was sent, and a prefix of what comes next
pub record IsCutShort (turn : ℕ) (start : Intake) (opened : List ℕ) (framing : Framing)
    (now : Intake) (text : List ℕ) : Type 0 where
  pub sent : List Commit
  pub token : List ℕ
  pub has_sent : HasSent turn start opened sent now token
  pub begun : List ℕ
  pub begins : BeginsNext framing now token begun
  pub text_is : text ≡ commit_frames framing sent ++ begun

-- the text is the frames of the commits that a session was sent; then, with nothing new, a turn
-- was begun in which a batch was refused
pub record BatchIsRefused (turn : ℕ) (start : Intake) (opened : List ℕ) (framing : Framing)
    (fault : CommitFault) (now : Intake) (text : List ℕ) : Type 0 where
  pub sent : List Commit
  pub before : Intake
  pub token : List ℕ
  pub has_sent : HasSent turn start opened sent before token
  pub nothing_new : next before.primary.node token ≡ Nothing_new
  pub refuses : RefusesInTurn turn before fault now
  pub text_is : text ≡ commit_frames framing sent

-- a prefix of the answer was written, and no batch taken; or the whole answer, and a part of what
-- its session is sent
abbrev pub WroteLive : ℕ → Intake → AnswerParts → Intake → Option (List ℕ) → Option (List ℕ)
    → Type 0
WroteLive turn start answer now old new =
    (AppendsPrefix old new answer.text × (now ≡ start))
    ⊎ ((opened : List ℕ) × (text : List ℕ) × (answer.session ≡ Some opened)
    × IsCutShort turn start opened answer.framing now text × Appends old new (answer.text ++ text))

-- the whole answer was written, and what its session was sent before a batch was refused
abbrev pub WroteRefused : ℕ → Intake → AnswerParts → CommitFault → Intake → Option (List ℕ)
    → Option (List ℕ) → Type 0
WroteRefused turn start answer fault now old new =
    (opened : List ℕ) × (text : List ℕ) × (answer.session ≡ Some opened)
    × BatchIsRefused turn start opened answer.framing fault now text
    × Appends old new (answer.text ++ text)

-- ---- on a connection

-- these bytes were read, as far as the head took, and that is a node's answer to them
pub record HasAnswer (contest : List ℕ) (node : NodeState) (framing : Framing) (back : ℕ)
    (source left : Option (List ℕ)) (answer : AnswerParts) : Type 0 where
  pub head : List ℕ
  pub read : Consumes source left head
  pub needed : IsReadAsNeeded head
  pub enough : IsEnough head ⊎ IsAtEnd left
  pub answers : AnswersTo head contest node framing back answer

-- what came of the session's token and of the batches: after a 200 the token was lost where a turn
-- was long, and else only where some turn had more bytes than are kept; where it was not lost, no
-- batch is left; without a 200 all of them are
pub record TakesAll (turn : ℕ) (start : Intake) (served : Served) (now : Intake) : Type 0 where
  pub only_long : served.gone ≡ true → MayLoseTokens turn start
  pub each_long : served.status ≡ 200 → LosesItsToken turn start served.gone
  pub all_taken : served.status ≡ 200 → served.gone ≡ false → now.batches ≡ []
  pub none_taken : served.status ≢ 200 → now ≡ start

-- what was read, written and taken where a primary was served
abbrev pub ServedLive : ℕ → Service → Exchange → Intake → Result Served EngineFault → Intake
    → Type 0
ServedLive turn service spoken start (Ok served) now =
    ((answer : AnswerParts) × (text : List ℕ)
    × HasAnswer service.contest.now start.primary.node service.framing service.back
    spoken.source spoken.left answer
    × SendsLive turn start answer text served now
    × Appends spoken.written_old spoken.written_new text)
    × TakesAll turn start served now
ServedLive turn service spoken start (Err fault.Read) now =
    BrokeInHead spoken.source spoken.left spoken.written_old spoken.written_new
    × (now ≡ start)
ServedLive turn service spoken start (Err fault.TooManyReads) now =
    BrokeInHead spoken.source spoken.left spoken.written_old spoken.written_new
    × (now ≡ start)
    × RoseBy spoken.reads_old spoken.reads_new service.most_reads
ServedLive turn service spoken start (Err fault.Write) now =
    (answer : AnswerParts)
    × HasAnswer service.contest.now start.primary.node service.framing service.back
    spoken.source spoken.left answer
    × WroteLive turn start answer now spoken.written_old spoken.written_new
ServedLive turn service spoken start (Err (fault.Commit why)) now =
    (answer : AnswerParts)
    × HasAnswer service.contest.now start.primary.node service.framing service.back
    spoken.source spoken.left answer
    × WroteRefused turn start answer why now spoken.written_old spoken.written_new
ServedLive turn service spoken start (Err fault.Memory) now =
    (Appends spoken.written_old spoken.written_new [] × (now ≡ start))
    ⊎ ((answer : AnswerParts)
    × HasAnswer service.contest.now start.primary.node service.framing service.back
    spoken.source spoken.left answer
    × WroteLive turn start answer now spoken.written_old spoken.written_new)
ServedLive turn service spoken start (Err (fault.Follow why)) now = ⊥

-- a primary was served on a connection, and took batches in turns
pub record ServesLive (turn : ℕ) (service : Service) (spoken : Exchange) (start : Intake)
    (served : Result Served EngineFault) (now : Intake) : Type 0 where
  pub came : ServedLive turn service spoken start served now
  pub reads : RoseAtMost spoken.reads_old spoken.reads_new service.most_reads
  pub failures : FailuresAreTold spoken served
