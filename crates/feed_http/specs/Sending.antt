-- How far a server that is sending has come.
use Rattle.std.specs.Prelude.{◌≡◌, ℕ, Bool, true, List, [], ◌∷◌, ◌++◌, length, map, Option, IfSome}
use Rattle.std.specs.Io.KnownBytes.{Appends}
use Rattle.feed_settings.specs.declared.framing.Framing.{Framing}
use Rattle.feed_node.specs.declared.commit.Commit.{Commit}
use Rattle.feed_node.specs.Serving.{commit_text}
use Rattle.feed_node.specs.States.{NodeState}
use Rattle.feed_node.specs.declared.primary.CommitFault.{CommitFault}
use Rattle.feed_http.specs.Sessions.{Commit_after, next}
use Rattle.feed_http.specs.declared.fault.Served.{Served}
use Rattle.feed_answer.specs.Answered.{AnswerParts}
use Rattle.feed_http.specs.Device.{AppendsPrefix, counted}
use Rattle.feed_http.specs.Exchange.{Wrote}
use Rattle.feed_http.specs.Live.{Intake, HasSent, IsOver, SendsLive, MayLoseTokens, LosesItsToken, IsCutShort, BatchIsRefused}
use Rattle.feed_answer.specs.Served.{behind_opening}
use Rattle.feed_http.specs.Serving.{Sends, commit_frames, HasAll, BeginsCommit, SendsAnswer}

-- a session at one token was sent these commits, and is at another one
pub data Sent (node : NodeState) : List ℕ → List Commit → List ℕ → Type 0 where
  sent_none : (token : List ℕ) → Sent node token [] token
  sent_one : (start token : List ℕ) (earlier : List Commit) (commit : Commit)
      → Sent node start earlier token → next node token ≡ Commit_after commit
      → Sent node start (earlier ++ commit ∷ []) commit.token

-- the frames of the commits that a session was sent were written, and a prefix of the next one's
pub record WroteCommits (node : NodeState) (start : List ℕ) (framing : Framing)
    (old new : Option (List ℕ)) : Type 0 where
  pub sent : List Commit
  pub token : List ℕ
  pub run : Sent node start sent token
  pub begun : List ℕ
  pub begins : BeginsCommit framing node token begun
  pub wrote : Appends old new (commit_frames framing sent ++ begun)

-- a prefix was written of what a session at this token is sent
pub record WroteSome (node : NodeState) (token : List ℕ) (framing : Framing)
    (old new : Option (List ℕ)) : Type 0 where
  pub sent : List Commit
  pub gone : Bool
  pub sends : Sends node token sent gone
  pub prefix : AppendsPrefix old new (behind_opening framing (map commit_text sent) gone)

-- a prefix was written of all that a node writes with this answer
abbrev pub WroteAnswer : NodeState → AnswerParts → Option (List ℕ) → Option (List ℕ) → Type 0
WroteAnswer node answer old new =
    (text : List ℕ) × (served : Served) × SendsAnswer node answer text served
    × AppendsPrefix old new text

-- ---- what was written whole

-- the frames of all commits after a session's token were written, so many; and whether its token is
-- then lost
abbrev pub WroteFrames : NodeState → List ℕ → List ℕ → Framing → Wrote → ℕ → Bool → Type 0
WroteFrames node start token framing wrote count gone =
    (sent : List Commit) × Sent node start sent token × HasAll node token gone
    × (count ≡ counted 0 (length sent))
    × Appends wrote.old wrote.new (commit_frames framing sent)

-- the same, and the end behind them
abbrev pub WroteSession : NodeState → List ℕ → Framing → Wrote → ℕ → Bool → Type 0
WroteSession node token framing wrote count gone =
    (sent : List Commit) × Sends node token sent gone × (count ≡ counted 0 (length sent))
    × Appends wrote.old wrote.new (behind_opening framing (map commit_text sent) gone)

-- all that a node writes with this answer was written
abbrev pub WroteAll : NodeState → AnswerParts → Wrote → Served → Type 0
WroteAll node answer wrote served =
    (text : List ℕ) × SendsAnswer node answer text served × Appends wrote.old wrote.new text

-- ---- what was written while batches were taken

-- the frames of the commits that a session was sent, which opened at this token; so many, and
-- whether its token is then lost: where a turn is long, and else only where some turn has more bytes
-- than are kept
pub record WroteTurns (turn : ℕ) (start : Intake) (opened : List ℕ) (framing : Framing)
    (wrote : Wrote) (now : Intake) (token : List ℕ) (count : ℕ) (gone : Bool) : Type 0 where
  pub sent : List Commit
  pub has_sent : HasSent turn start opened sent now token
  pub over : IsOver now token gone
  pub count_is : count ≡ counted 0 (length sent)
  pub frames : Appends wrote.old wrote.new (commit_frames framing sent)
  pub only_long : gone ≡ true → MayLoseTokens turn start
  pub each_long : LosesItsToken turn start gone

-- these frames, and a prefix of what comes next
abbrev pub WroteCutShort : ℕ → Intake → List ℕ → Framing → Intake → Wrote → Type 0
WroteCutShort turn start opened framing now wrote =
    (text : List ℕ) × IsCutShort turn start opened framing now text
    × Appends wrote.old wrote.new text

-- these frames, up to a turn in which a batch was refused
abbrev pub WroteToRefusal : ℕ → Intake → List ℕ → Framing → Intake → Wrote → CommitFault → Type 0
WroteToRefusal turn start opened framing now wrote why =
    (text : List ℕ) × BatchIsRefused turn start opened framing why now text
    × Appends wrote.old wrote.new text

-- all that a primary writes with this answer, which takes batches meanwhile
pub record WroteAllLive (turn : ℕ) (start : Intake) (answer : AnswerParts) (now : Intake)
    (wrote : Wrote) (served : Served) : Type 0 where
  pub text : List ℕ
  pub sends : SendsLive turn start answer text served now
  pub wrote_it : Appends wrote.old wrote.new text
  pub only_long : served.gone ≡ true → MayLoseTokens turn start
  pub each_long : IfSome answer.session (λ _. LosesItsToken turn start served.gone)
