-- What screens are sent is what a connection of a world is sent.
use Rattle.std.specs.Prelude.{◌≡◌, ℕ, ◌≤◌, Bool, false, List, ◌∷◌, ◌++◌, length, take, Option, Some, Contains}
use Rattle.feed_settings.specs.Limits.{Limits}
use Rattle.feed_settings.specs.declared.framing.Framing.{Framing}
use Rattle.feed_node.specs.Reading.{Reads, reads, keep_latest}
use Rattle.feed_node.specs.States.{NodeState}
use Rattle.feed_note.specs.declared.line.Line.{Line}
use Rattle.feed_world.specs.Connection.{Part, GoOn, part_texts}
use Rattle.feed_world.specs.Laws.{opened_text}
use Rattle.feed_world.specs.Log.{Log, IsLog, IsNamed}
use Rattle.feed_world.specs.Position.{Position, IsPlaceOfLog, node_where}
use Rattle.feed_world.specs.Reading.{opening_at}
use Rattle.feed_world.specs.States.{IsAsFarAs}
use Rattle.feed_follow.specs.Standing.{Standing, in_head, token_refused, in_body, done, failed}
use Rattle.feed_wire.specs.CarriedBytes.{response_text, ended_text}
use Rattle.feed_wire.specs.FrameLaws.{AreTexts, joined}
use Rattle.feed_answer.specs.FollowLaws.{StandsOnly}
use Rattle.feed_answer.specs.Answered.{AnswerParts}
use Rattle.feed_answer.specs.Served.{opening_text}
use Rattle.feed_hub.specs.declared.screen.Screen.{Screen}
use Rattle.feed_hub.specs.Backlog.{Backlog}
use Rattle.feed_hub.specs.Screen.{IsServed}
use Rattle.feed_hub.specs.Told.{Told, told_text}

-- it shows nothing, or is at a place of the log: it shows the state of that at its token
abbrev pub IsInLog : Limits → Log → NodeState → Type 0
IsInLog limits log node =
    (place : Option Position) × IsPlaceOfLog limits log place × (node ≡ node_where log place)

-- so it is with a node that has limits of its own, whatever they are
abbrev pub StandsInLog : Log → NodeState → Type 0
StandsInLog log node = (own : Limits) × IsInLog own log node

-- and with each of these nodes
abbrev pub AreInLog : Log → List NodeState → Type 0
AreInLog log nodes = (node : NodeState) → Contains nodes node → StandsInLog log node

-- each text is a part of a connection, in order from number k on, and the last ends at this token
pub record StandInOrder (log : Log) (k : ℕ) (texts : List (List ℕ)) (token : List ℕ) : Type 0 where
  pub parts : List Part
  pub last : ℕ
  pub go_on : GoOn k parts last
  pub in_log : last ≤ length log.commits
  pub token_is : token ≡ log.token last
  pub texts_are : texts ≡ part_texts log parts

-- What nodes at places of one log tell a session that opened at one of its tokens: the commits
-- after that, each the next one, with line feeds before, between and after them.
abbrev pub ScreensAreConnections : Type 0
ScreensAreConnections =
    (log : Log) (nodes : List NodeState) (k : ℕ) (texts : List (List ℕ))
    (token : List ℕ) → IsNamed log → AreInLog log nodes → k ≤ length log.commits
    → Told nodes (log.token k) texts token → StandInOrder log k texts token

-- A mirror that is sent this, fresh or after a token that it holds, and has read any prefix of it:
-- nothing was bad, and it shows what a node at a place of this log shows.
pub record ShowsState (limits : Limits) (log : Log) (place : Option Position) (fresh : Bool)
    (prefix : List ℕ) : Type 0 where
  pub notes : List Line
  pub nothing_bad : Reads limits (opening_at log place fresh) prefix notes
  pub at : Option Position
  pub is_place : IsPlaceOfLog limits log at
  pub shows : keep_latest limits.history (reads limits.history (opening_at log place fresh) notes)
      ≡ node_where log at

abbrev pub ScreensShowStates : Type 0
ScreensShowStates =
    (limits : Limits) (log : Log) (nodes : List NodeState) (k : ℕ) (texts : List (List ℕ))
    (token : List ℕ) (place : Option Position) (fresh : Bool) (prefix behind : List ℕ)
    → IsLog limits log → AreInLog log nodes → k ≤ length log.commits
    → Told nodes (log.token k) texts token → IsPlaceOfLog limits log place
    → (fresh ≡ false → (own : Position) × (place ≡ Some own) × (own.low ≤ k) × (k ≤ own.at))
    → prefix ++ behind ≡ opened_text log fresh k ++ joined texts
    → ShowsState limits log place fresh prefix

-- With all of it, the mirror shows the state of the token at which the session is, or a later one.
pub record ReachesState (limits : Limits) (log : Log) (place : Option Position) (fresh : Bool)
    (token text : List ℕ) : Type 0 where
  pub notes : List Line
  pub nothing_bad : Reads limits (opening_at log place fresh) text notes
  pub at : Option Position
  pub is_place : IsPlaceOfLog limits log at
  pub shows : keep_latest limits.history (reads limits.history (opening_at log place fresh) notes)
      ≡ node_where log at
  pub last : ℕ
  pub token_is : token ≡ log.token last
  pub reaches : IsAsFarAs at last

abbrev pub ScreensReach : Type 0
ScreensReach =
    (limits : Limits) (log : Log) (nodes : List NodeState) (k : ℕ) (texts : List (List ℕ))
    (token : List ℕ) (place : Option Position) (fresh : Bool)
    → IsLog limits log → AreInLog log nodes → k ≤ length log.commits
    → Told nodes (log.token k) texts token → IsPlaceOfLog limits log place
    → (fresh ≡ false → (own : Position) × (place ≡ Some own) × (own.low ≤ k) × (k ≤ own.at))
    → ReachesState limits log place fresh token (opened_text log fresh k ++ joined texts)

-- what a response that stands so leaves of the mirror that reads it: nothing yet, or what is said
-- above
abbrev pub StandsWell : Limits → Log → Option Position → Bool → Standing → Type 0
StandsWell limits log place fresh in_head = Unit {0}
StandsWell limits log place fresh token_refused = ⊥
StandsWell limits log place fresh (in_body payload) = ShowsState limits log place fresh payload
StandsWell limits log place fresh (done payload) = ShowsState limits log place fresh payload
StandsWell limits log place fresh (failed fault payload) = ⊥

-- the bytes stand in one way, as a response without a fault, and a mirror that was fed what they
-- carry shows what is said above
abbrev pub StandsSo : Limits → Log → Option Position → Bool → Bool → List ℕ → Type 0
StandsSo limits log place fresh had_token bytes =
    (s : Standing) × StandsOnly had_token bytes s × StandsWell limits log place fresh s

-- So it is for a screen, whatever prefix of the bytes came, with the end of the body and without.
abbrev pub ScreensAreFollowed : Type 0
ScreensAreFollowed =
    (limits : Limits) (log : Log) (nodes : List NodeState) (k : ℕ) (texts : List (List ℕ))
    (token : List ℕ) (place : Option Position) (fresh : Bool) (framing : Framing) (n : ℕ)
    (had_token : Bool)
    → IsLog limits log → AreInLog log nodes → k ≤ length log.commits
    → Told nodes (log.token k) texts token → IsPlaceOfLog limits log place
    → (fresh ≡ false → (own : Position) × (place ≡ Some own) × (own.low ≤ k) × (k ≤ own.at))
    → AreTexts (opened_text log fresh k ∷ texts)
    → StandsSo limits log place fresh had_token
    (take n (response_text framing (opened_text log fresh k ∷ texts)))
    × StandsSo limits log place fresh had_token
    (take n (ended_text framing (opened_text log fresh k ∷ texts)))

-- ---- what stands behind the premises

-- all that is due to an answer with this opening is a response, whose first text is the opening
abbrev pub DueIsResponse : Type 0
DueIsResponse =
    (log : Log) (answer : AnswerParts) (texts : List (List ℕ)) (fresh : Bool) (k : ℕ)
    → answer.text ≡ opening_text answer.framing (opened_text log fresh k)
    → told_text answer texts ≡ response_text answer.framing (opened_text log fresh k ∷ texts)

-- who is served by some nodes is served by these and more
abbrev pub ServedGrows : Type 0
ServedGrows =
    (nodes more : List NodeState) → ((node : NodeState) → Contains nodes node → Contains more node)
    → (common : Framing) (lines : Backlog) (told : Option (List ℕ)) (answer : AnswerParts)
    (handed : List ℕ) (s : Screen) → IsServed nodes common lines told answer handed s
    → IsServed more common lines told answer handed s
