-- What the sockets of screens were written, and what mirrors make of that.
use Rattle.std.specs.Prelude.{◌≡◌, ℕ, ◌≤◌, Bool, false, List, ◌++◌, length, Option, Some, Contains, string_bytes}
use Rattle.std.specs.List.{AllByRecursion}
use Rattle.feed_settings.specs.Limits.{Limits}
use Rattle.feed_node.specs.Mirroring.{MirrorState, present_opening}
use Rattle.feed_node.specs.States.{NodeState}
use Rattle.feed_answer.specs.Answered.{AnswerParts}
use Rattle.feed_wire.specs.Asked.{Asks, feed}
use Rattle.feed_wire.specs.FrameLaws.{joined}
use Rattle.feed_world.specs.Laws.{opened_text}
use Rattle.feed_world.specs.Log.{Log, IsLog}
use Rattle.feed_world.specs.Position.{Position, IsPlaceOfLog}
use Rattle.feed_world.specs.Reading.{opening_at}
use Rattle.feed_laws.specs.Follows.{HasAskedSo, FollowsInLog}
use Rattle.feed_laws.specs.Laws.{IsInLog, AreInLog, ShowsState}
use Rattle.feed_hub.specs.Told.{Told}
use Rattle.feed_device.specs.Links.{Exchange, Exchanges}
use Rattle.feed_live.specs.declared.turn.Live.{Live}
use Rattle.feed_live.specs.Relaying.{IsRelaying}
use Rattle.feed_screens.specs.Serving.{WasFaithful}
use Rattle.feed_live.specs.States.{states_of}
use Rattle.feed_live.specs.Taking.{IsTakingInput}
use Rattle.feed_live.specs.Upstream.{Servers, IsRequestOf, IsHonest, AreKnownHonest}
use Rattle.feed_files.specs.Input.{IsHonestInput}
use Rattle.feed_device.specs.Sockets.{Socket, AllSockets, traffic_of}

-- ---- a relay that follows servers

-- A relay whose servers were honest so far shows nothing or a state of the log at its token. What
-- was written to each connection of a screen, also to one that is over, is faithful, for nodes that
-- are at places of the log, within the relay's own limits.
pub record ShowsTheLog (limits : Limits) (log : Log) (live : Live) (sockets : AllSockets)
    : Type 0 where
  pub shown : IsInLog limits log live.source.answers.shown.mirror.node
  pub states : AreInLog log (states_of limits log)
  pub within : (node : NodeState) → Contains (states_of limits log) node → IsInLog limits log node
  pub written : (at : ℕ) (socket : Socket) → sockets at ≡ Some socket
      → AllByRecursion (WasFaithful (states_of limits log) (string_bytes live.contest))
      (traffic_of socket)

abbrev pub RelaysShowTheLog : Type 0
RelaysShowTheLog =
    (limits : Limits) (log : Log) (servers : Servers) (exchanges : Exchanges) (live : Live)
    (sockets : AllSockets) → AreKnownHonest limits log servers exchanges
    → IsRelaying limits log servers exchanges live sockets → ShowsTheLog limits log live sockets

-- the server reads what was asked on a connection as it was meant: with the token of whoever has
-- its request there
abbrev pub IsReadAsMeant : Servers → List ℕ → List ℕ → Exchange → Type 0
IsReadAsMeant servers head contest exchange =
    (begun : MirrorState) (request more : List ℕ)
    → (is : IsRequestOf servers exchange.server begun request)
    → exchange.asked ≡ request ++ more → (minor : ℕ) × Asks head contest (feed minor is.since)

-- Where each mirror that asked with a head follows a text in the log, as `connection_laws` and
-- `handed` say of what nodes, primaries and relays write, any prefix of it is an honest response to
-- a request that was read as that head.
abbrev pub FollowedIsHonest : Type 0
FollowedIsHonest =
    (limits : Limits) (log : Log) (servers : Servers) (head contest text behind : List ℕ)
    (exchange : Exchange)
    → ((begun : MirrorState) → HasAskedSo limits log head contest begun
    → (answer : AnswerParts) × FollowsInLog limits log answer begun text)
    → IsReadAsMeant servers head contest exchange → exchange.received ++ behind ≡ text
    → IsHonest limits log servers exchange

-- ---- a relay whose feed is its input

-- so it is with a relay whose input was honest so far
abbrev pub InputShowsTheLog : Type 0
InputShowsTheLog =
    (limits : Limits) (log : Log) (begun : MirrorState) (input : List ℕ) (live : Live)
    (sockets : AllSockets) → IsHonestInput limits log begun input
    → IsTakingInput limits log begun input live sockets → ShowsTheLog limits log live sockets

-- An input is honest where each prefix of it shows a state of the log to a mirror that begins so.
abbrev pub ShownIsHonest : Type 0
ShownIsHonest =
    (limits : Limits) (log : Log) (place : Option Position) (fresh : Bool) (begun : MirrorState)
    (input : List ℕ) → present_opening begun ≡ opening_at log place fresh
    → ((prefix behind : List ℕ) → prefix ++ behind ≡ input
    → ShowsState limits log place fresh prefix) → IsHonestInput limits log begun input

-- So it is with any prefix of what nodes at places of the log send: from the start on, where the
-- mirror begins with nothing; or after a token that the mirror holds.
abbrev pub SentIsHonest : Type 0
SentIsHonest =
    (limits : Limits) (log : Log) (nodes : List NodeState) (k : ℕ) (texts : List (List ℕ))
    (token : List ℕ) (place : Option Position) (fresh : Bool) (begun : MirrorState)
    (input behind : List ℕ)
    → IsLog limits log → AreInLog log nodes → k ≤ length log.commits
    → Told nodes (log.token k) texts token → IsPlaceOfLog limits log place
    → (fresh ≡ false → (own : Position) × (place ≡ Some own) × (own.low ≤ k) × (k ≤ own.at))
    → present_opening begun ≡ opening_at log place fresh
    → input ++ behind ≡ opened_text log fresh k ++ joined texts
    → IsHonestInput limits log begun input

-- ---- state files
