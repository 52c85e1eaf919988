-- THE PROMISE, up to each byte that a screen was handed: what a mirror makes of it (CLICS Contest
-- API 2023-06, event feed and reconnection; RFC 9112).
use Rattle.std.specs.Prelude.{◌≡◌, ◌≢◌, ◌⊎◌, ℕ, List, [], ◌++◌, take, Option, Some, None, is_none, is_some, Contains}
use Rattle.feed_settings.specs.Limits.{Limits}
use Rattle.feed_settings.specs.declared.framing.Framing.{Framing}
use Rattle.feed_node.specs.Mirroring.{MirrorState}
use Rattle.feed_node.specs.States.{NodeState}
use Rattle.feed_follow.specs.declared.fault.FollowFault.{FollowFault}
use Rattle.feed_follow.specs.declared.fault.FollowFault.TheVariants.{Closed, Status}
use Rattle.feed_follow.specs.Follower.{FollowerState, FollowsAt}
use Rattle.feed_follow.specs.Following.{Fails}
use Rattle.feed_follow.specs.Standing.{Standing}
use Rattle.feed_answer.specs.Answered.{AnswerParts, AnswersTo}
use Rattle.feed_wire.specs.Asked.{Asks, feed}
use Rattle.feed_answer.specs.FollowLaws.{StandsOnly}
use Rattle.feed_world.specs.Log.{Log, IsLog}
use Rattle.feed_world.specs.Position.{Position, IsPlaceOfLog, node_where}
use Rattle.feed_world.specs.States.{HasAsked, IsAsFarAs}
use Rattle.feed_world.specs.Step.{IsForMemory}
use Rattle.feed_hub.specs.declared.screen.Screen.{Screen}
use Rattle.feed_hub.specs.Backlog.{Backlog}
use Rattle.feed_hub.specs.Screen.{pending, token_at, IsServed}
use Rattle.feed_laws.specs.Laws.{IsInLog, StandsInLog, AreInLog}

-- What a mirror may ask with: a token that it holds, its newest or one before that; or with none,
-- where it asks for everything.
abbrev pub MayAskWith : MirrorState → Option (List ℕ) → Type 0
MayAskWith mirror None = mirror.since ≡ None
MayAskWith mirror (Some token) = (mirror.since ≢ None) × Contains mirror.node.held token

-- A mirror asked with this head. It was at a place of the log, and asked with a token that it held
-- there, or with none.
pub record HasAskedSo (limits : Limits) (log : Log) (head contest : List ℕ)
    (begun : MirrorState) : Type 0 where
  pub minor : ℕ
  pub since : Option (List ℕ)
  pub may_ask : MayAskWith begun since
  pub asks : Asks head contest (feed minor since)
  pub place : Option Position
  pub is_place : IsPlaceOfLog limits log place
  pub asked : HasAsked limits log place (is_none begun.since) begun

-- why it may stop: memory runs out; or it was refused, and this is the status of that, or it was
-- told of its refused token before
abbrev pub MayStop : AnswerParts → FollowFault → Type 0
MayStop answer fault =
    IsForMemory fault
    ⊎ ((answer.session ≡ None) × ((fault ≡ Status answer.status) ⊎ (fault ≡ Closed)))

-- Whatever prefix of these bytes came to the mirror, in any pieces. They stand in one way. The
-- mirror shows nothing or a state of the log at its token, also once it stopped; and nothing stops
-- it but what is said above.
pub record FollowsInLog (limits : Limits) (log : Log) (answer : AnswerParts) (begun : MirrorState)
    (handed : List ℕ) : Type 0 where
  pub stands : (n : ℕ) → (s : Standing) × StandsOnly (is_some begun.since) (take n handed) s
  pub shows : (n : ℕ) (s : Standing) (follower : FollowerState) (mirror : MirrorState)
      → FollowsAt begun (take n handed) s follower mirror → IsInLog limits log mirror.node
  pub fails : (before piece later : List ℕ) (mirror : MirrorState) (fault : FollowFault)
      → (before ++ piece) ++ later ≡ handed
      → Fails begun (is_some begun.since) before piece mirror fault
      → MayStop answer fault × IsInLog limits log mirror.node

-- A node at a place of the log answered the mirror's request, and nodes at places of that log are
-- what the screen is served from: so it is for all that the screen was handed.
abbrev pub ScreensFollow : Type 0
ScreensFollow =
    (limits : Limits) (log : Log) (nodes : List NodeState) (node : NodeState)
    (head contest : List ℕ) (framing : Framing) (answer : AnswerParts) (begun : MirrorState)
    (common : Framing) (lines : Backlog) (told : Option (List ℕ)) (handed : List ℕ) (s : Screen)
    → IsLog limits log → AreInLog log nodes → StandsInLog log node
    → HasAskedSo limits log head contest begun
    → AnswersTo head contest node framing 0 answer
    → IsServed nodes common lines told answer handed s
    → FollowsInLog limits log answer begun handed

-- a mirror that is at a place of the log, at this token or a later one
pub record ArrivesInLog (limits : Limits) (log : Log) (token : List ℕ) (mirror : MirrorState)
    : Type 0 where
  pub place : Option Position
  pub is_place : IsPlaceOfLog limits log place
  pub shows : mirror.node ≡ node_where log place
  pub last : ℕ
  pub token_is : token ≡ log.token last
  pub reaches : IsAsFarAs place last

-- Where nothing is pending for a screen whose body goes on, and its mirror followed all that it was
-- handed, that is as far as the screen.
abbrev pub ScreensArrive : Type 0
ScreensArrive =
    (limits : Limits) (log : Log) (nodes : List NodeState) (node : NodeState)
    (head contest : List ℕ) (framing : Framing) (answer : AnswerParts) (begun : MirrorState)
    (common : Framing) (lines : Backlog) (told : Option (List ℕ)) (handed token : List ℕ)
    (s : Screen) (standing : Standing) (follower : FollowerState) (mirror : MirrorState)
    → IsLog limits log → AreInLog log nodes → StandsInLog log node
    → HasAskedSo limits log head contest begun
    → AnswersTo head contest node framing 0 answer
    → IsServed nodes common lines told answer handed s
    → token_at told s.way ≡ Some token → pending lines s ≡ []
    → FollowsAt begun handed standing follower mirror
    → ArrivesInLog limits log token mirror
