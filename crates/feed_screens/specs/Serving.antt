-- THE PROMISE, up to each socket: what is written to it is what the hub counts at the key of its
-- connection, and so a prefix of what is due to the answer that one of the nodes gave.
use Rattle.std.specs.Prelude.{◌≡◌, ◌≢◌, ℕ, zero, suc, ◌<◌, ◌≤◌, ◌+◌, ◌-◌, ◌^◌, min, List, [], ◌++◌, length, take, drop, Option, Some, None, Bool, true, false, Result, MatchResult, Contains, IfSome, ◌⊎◌}
use Rattle.std.specs.List.{AllByRecursion}
use Rattle.slab.specs.Slab.{Slab, get}
use Rattle.feed_settings.specs.declared.framing.Framing.{Framing}
use Rattle.feed_node.specs.States.{NodeState, published_token}
use Rattle.feed_answer.specs.Answered.{AnswerParts, AnswersTo}
use Rattle.feed_hub.specs.declared.asking.Asking.{Asking}
use Rattle.feed_hub.specs.declared.hub.Hub.{Hub}
use Rattle.feed_hub.specs.declared.screen.Screen.{Screen}
use Rattle.feed_hub.specs.declared.seats.Key.{Key}
use Rattle.feed_hub.specs.declared.screen.Way.{Way}
use Rattle.feed_hub.specs.declared.screen.Way.TheVariants.{CatchesUp, OnLog, Stops, Over}
use Rattle.feed_hub.specs.declared.seats.Seat.{Seat}
use Rattle.feed_hub.specs.declared.seats.Seat.TheVariants.{Asks, Watches}
use Rattle.feed_hub.specs.declared.screen.Refill.{Refill}
use Rattle.feed_hub.specs.Hub.{IsSeated, ChangesOnly, Refills, prefix_at}
use Rattle.feed_hub.specs.Steps.{taken}
use Rattle.feed_hub.specs.Backlog.{Backlog, end_of}
use Rattle.feed_hub.specs.Screen.{IsServed}
use Rattle.feed_hub.specs.Seats.{seat_at, IsOverSeat, Watched}
use Rattle.feed_screens.specs.declared.conn.Conn.{Conn}
use Rattle.feed_screens.specs.declared.conn.Phase.TheVariants.{Watches as Watching}
use Rattle.feed_screens.specs.declared.screens.Answers.{Answers}
use Rattle.feed_screens.specs.declared.screens.Screens.{Screens}
use Rattle.feed_screens.specs.declared.screens.Keyed.{Keyed}
use Rattle.feed_screens.specs.declared.screens.TheConstants.{FULL}
use Rattle.feed_screens.specs.declared.screens.Hearing.{Hearing}
use Rattle.feed_screens.specs.declared.screens.Hearing.TheVariants.{Goes, TooMuch, Done}
use Rattle.feed_device.specs.Sockets.{Socket, Traffic, AllSockets, IsSocket, opened, closed, former_of, came_to, on_current, OtherSockets}

-- one of these nodes gave this answer to the request for the feed of the contest with which what
-- came over the connection begins
pub record IsAnswerOf (nodes : List NodeState) (contest came : List ℕ) (answer : AnswerParts)
    : Type 0 where
  pub node : NodeState
  pub among : Contains nodes node
  pub head : List ℕ
  pub behind : List ℕ
  pub begins : came ≡ head ++ behind
  pub framing : Framing
  pub answers : AnswersTo head contest node framing 0 answer

-- a screen with such an answer was handed these bytes, and nothing else
pub record WasServed (nodes : List NodeState) (contest came handed : List ℕ) : Type 0 where
  pub answer : AnswerParts
  pub given : IsAnswerOf nodes contest came answer
  pub common : Framing
  pub lines : Backlog
  pub told : Option (List ℕ)
  pub screen : Screen
  pub served : IsServed nodes common lines told answer handed screen

-- what is written where there are as many screens as there may be
unfoldable pub full_text : List ℕ
full_text = FULL.now

-- All that is ever written to a connection over which this came: nothing; what a screen is handed;
-- or a prefix of the text for those who are too many.
pub data IsFaithful (nodes : List NodeState) (contest came : List ℕ) : List ℕ → Type 0 where
  nothing : IsFaithful nodes contest came []
  refused : (count : ℕ) → IsFaithful nodes contest came (take count full_text)
  served : (handed : List ℕ) → WasServed nodes contest came handed
      → IsFaithful nodes contest came handed

-- so it was with what went over a connection
abbrev pub WasFaithful : List NodeState → List ℕ → Traffic → Type 0
WasFaithful nodes contest traffic = IsFaithful nodes contest traffic.came traffic.written

-- so it was with each connection at a number that is over
abbrev pub WereFaithful : List NodeState → List ℕ → Option Socket → Type 0
WereFaithful nodes contest socket =
    IfSome (former_of socket) (AllByRecursion (WasFaithful nodes contest))

-- so it is for a connection that is open
pub record IsSent (nodes : List NodeState) (contest : List ℕ) (socket : Option Socket)
    : Type 0 where
  pub came : List ℕ
  pub bytes : List ℕ
  pub socket_is : IsSocket socket (opened came bytes)
  pub faithful : IsFaithful nodes contest came bytes

-- The socket of the connection with this key. All that came is its request so far, and nothing was
-- written; or it is served, and what was written is what the hub counts; or the hub cut it.
pub data Sits (nodes : List NodeState) (contest : List ℕ) (hub : Hub) (key : Key)
    (socket : Option Socket) : Type 0 where
  asks : (asking : Asking) → seat_at hub.seats.slab key ≡ Some (Asks asking)
      → IsSocket socket (opened asking.head.items []) → Sits nodes contest hub key socket
  watches : (came : List ℕ) (answer : AnswerParts) (handed : List ℕ)
      → IsAnswerOf nodes contest came answer → IsSeated nodes hub key answer handed
      → IsSocket socket (opened came handed) → Sits nodes contest hub key socket
  cut : seat_at hub.seats.slab key ≡ None → IsSent nodes contest socket
      → Sits nodes contest hub key socket

-- the key of the connection at a number, where there is one and it has one
abbrev pub key_of : Option Conn → Option (Option Key)
key_of None = None
key_of (Some conn) = Some conn.key

abbrev pub key_at : Slab Conn → ℕ → Option (Option Key)
key_at conns at = key_of (get conns at)

-- the connection at a place has this key
abbrev pub HasKey : Slab Conn → Keyed → Type 0
HasKey conns keyed = key_at conns keyed.at ≡ Some (Some keyed.key)

-- no connection at another place has this key
abbrev pub IsAlone : Slab Conn → Key → ℕ → Type 0
IsAlone conns key at = (other : ℕ) → key_at conns other ≡ Some (Some key) → other ≡ at

-- each connection but the one at this place stays as it is
abbrev pub OtherConns : Slab Conn → Slab Conn → ℕ → Type 0
OtherConns old new at = (other : ℕ) → other ≢ at → get new other ≡ get old other

-- How the socket at a number stands. Where there is no connection it is closed. A connection
-- without a key is sent no more.
abbrev pub SocketStands : List NodeState → List ℕ → Hub → Option (Option Key) → Option Socket
    → Type 0
SocketStands nodes contest hub None socket = IsSocket socket closed
SocketStands nodes contest hub (Some None) socket = IsSent nodes contest socket
SocketStands nodes contest hub (Some (Some key)) socket = Sits nodes contest hub key socket

-- So it is at each number, and what was written to each connection that is over was faithful. No
-- two have the same key, and a key that the hub gives next is nobody's.
pub record ServesScreens (nodes : List NodeState) (contest : List ℕ) (hub : Hub) (conns : Slab Conn)
    (sockets : AllSockets) : Type 0 where
  pub each : (at : ℕ) → SocketStands nodes contest hub (key_at conns at) (sockets at)
  pub former : (at : ℕ) → WereFaithful nodes contest (sockets at)
  pub one : (at other : ℕ) (key : Key) → key_at conns at ≡ Some (Some key)
      → key_at conns other ≡ Some (Some key) → at ≡ other
  pub below : (at : ℕ) (key : Key) → key_at conns at ≡ Some (Some key)
      → key.generation < hub.seats.next

-- it was so, and still is
abbrev pub StillServing : List NodeState → List ℕ → Screens → Screens → AllSockets
    → AllSockets → Type 0
StillServing nodes contest old new before after =
    ServesScreens nodes contest old.hub old.conns before
    → ServesScreens nodes contest new.hub new.conns after

-- it still is, whatever nodes serve
abbrev pub StillServesAll : Screens → Screens → AllSockets → AllSockets → Type 0
StillServesAll old new before after =
    (nodes : List NodeState) (contest : List ℕ) → StillServing nodes contest old new before after

-- it still is, where this node is among those that serve
abbrev pub StillServesFrom : NodeState → Screens → Screens → AllSockets → AllSockets → Type 0
StillServesFrom node old new before after =
    (nodes : List NodeState) (contest : List ℕ) → Contains nodes node
    → StillServing nodes contest old new before after

-- It still is, where requests for this contest are answered with what is shown; and while they are
-- held, with what shows nothing.
abbrev pub StillAnswers : Bool → Answers → List ℕ → Screens → Screens → AllSockets → AllSockets
    → Type 0
StillAnswers is_held answers contest old new before after =
    (nodes : List NodeState) → Contains nodes answers.shown.mirror.node
    → (is_held ≡ true → Contains nodes answers.blank.mirror.node)
    → StillServing nodes contest old new before after

-- no socket is touched, and it still is, whatever nodes serve
abbrev pub StillStand : Screens → Screens → Type 0
StillStand old new =
    (nodes : List NodeState) (contest : List ℕ) (sockets : AllSockets)
    → StillServing nodes contest old new sockets sockets

-- no socket is touched, and it still is, where this node is among those that serve
abbrev pub StillServes : NodeState → Screens → Screens → Type 0
StillServes node old new =
    (nodes : List NodeState) (contest : List ℕ) (sockets : AllSockets) → Contains nodes node
    → StillServing nodes contest old new sockets sockets

-- these bytes more came over the connection at a number, and nothing else happened
pub record BytesCame (old new : AllSockets) (at : ℕ) (bytes : List ℕ) : Type 0 where
  pub more : new at ≡ on_current (came_to bytes) (old at)
  pub others : OtherSockets old new at

-- so it is but for these bytes, which came, and were not heard yet
pub record ServesBut (nodes : List NodeState) (contest : List ℕ) (hub : Hub) (conns : Slab Conn)
    (sockets : AllSockets) (at : ℕ) (unheard : List ℕ) : Type 0 where
  pub before : AllSockets
  pub came : BytesCame before sockets at unheard
  pub serving : ServesScreens nodes contest hub conns before

-- it was so before these bytes came, and is so now
abbrev pub StillServingWith : List NodeState → List ℕ → ℕ → List ℕ → Screens → Screens
    → AllSockets → AllSockets → Type 0
StillServingWith nodes contest at bytes old new before after =
    ServesBut nodes contest old.hub old.conns before at bytes
    → ServesScreens nodes contest new.hub new.conns after

-- so many of these bytes were heard, and the rest may be next; or all that are ever heard were
abbrev pub HearsSo : List NodeState → List ℕ → Screens → AllSockets → ℕ → List ℕ → ℕ → Type 0
HearsSo nodes contest new sockets at bytes zero =
    ServesScreens nodes contest new.hub new.conns sockets
HearsSo nodes contest new sockets at bytes (suc n) =
    ServesBut nodes contest new.hub new.conns sockets at (drop (suc n) bytes)

abbrev pub HearsSome : {E : Type 0} → List NodeState → List ℕ → Screens → AllSockets → ℕ → List ℕ
    → Result ℕ E → Type 0
HearsSome nodes contest new sockets at bytes result =
    MatchResult result (HearsSo nodes contest new sockets at bytes)
    (λ _. ServesScreens nodes contest new.hub new.conns sockets)

-- they were, or are none of a request; or some were, and then there was no room
abbrev pub HearsTo : List NodeState → List ℕ → Screens → AllSockets → ℕ → Hearing → Type 0
HearsTo nodes contest new sockets at Goes = ServesScreens nodes contest new.hub new.conns sockets
HearsTo nodes contest new sockets at Done = ServesScreens nodes contest new.hub new.conns sockets
HearsTo nodes contest new sockets at TooMuch =
    (unheard : List ℕ) × ServesBut nodes contest new.hub new.conns sockets at unheard

abbrev pub HearsAll : {E : Type 0} → List NodeState → List ℕ → Screens → AllSockets → ℕ
    → Result Hearing E → Type 0
HearsAll nodes contest new sockets at result =
    MatchResult result (HearsTo nodes contest new sockets at)
    (λ _. ServesScreens nodes contest new.hub new.conns sockets)

-- each number has the key that it had
abbrev pub SameKeys : Slab Conn → Slab Conn → Type 0
SameKeys old new = (at : ℕ) → key_at new at ≡ key_at old at

-- nothing changed that a socket's bytes hang on
pub record SameSeating (old new : Screens) : Type 0 where
  pub hub : new.hub ≡ old.hub
  pub keys : SameKeys old.conns new.conns

-- what sat at the key is gone, and nothing else changed; where there was no key, nothing did
abbrev pub LeavesSeat : Option Key → Hub → Hub → Type 0
LeavesSeat None old new = new ≡ old
LeavesSeat (Some key) old new = (seat_at new.seats.slab key ≡ None) × ChangesOnly old new key

-- a connection that was there has no key any more
abbrev pub keyless : Option (Option Key) → Option (Option Key)
keyless None = None
keyless (Some held) = Some None

-- A connection with this key, or with none, came to a socket: it stands as it should, its key is
-- new, and whoever has a key that was given before stays.
pub record IsGreeted (nodes : List NodeState) (contest : List ℕ) (old new : Hub) (held : Option Key)
    (socket : Option Socket) : Type 0 where
  pub stands : SocketStands nodes contest new (Some held) socket
  pub is_new : (key : Key) → held ≡ Some key → key.generation ≡ old.seats.next
  pub next : (key : Key) → held ≡ Some key → key.generation < new.seats.next
  pub kept : old.seats.next ≤ new.seats.next
  pub broadcast : new.broadcast ≡ old.broadcast
  pub others : (key : Key) → key.generation < old.seats.next
      → seat_at new.seats.slab key ≡ seat_at old.seats.slab key

-- the hub cut the connection: its key has no seat any more
abbrev pub HasNoSeat : Hub → Option Conn → Type 0
HasNoSeat hub None = ⊥
HasNoSeat hub (Some conn) =
    (key : Key) × (conn.key ≡ Some key) × (seat_at hub.seats.slab key ≡ None)

-- ---- what is written

-- the connection has this key, and may be written to: its socket took all that it was given last
abbrev pub IsWritable : Option Conn → Key → Type 0
IsWritable None key = ⊥
IsWritable (Some conn) key =
    (conn.key ≡ Some key) × (conn.phase ≡ Watching) × (conn.is_blocked ≡ false)

-- something is pending for the connection at a place, which may be written to
pub record HasPending (screens : Screens) (at : ℕ) : Type 0 where
  pub key : Key
  pub writable : IsWritable (get screens.conns at) key
  pub some : prefix_at screens.hub key ≢ []

-- what sits there once it has what comes next for it
pub record GetsNext (hub : Hub) (node : NodeState) (has_room : Bool) (now : ℕ) (key : Key)
    (seat : Option Seat) : Type 0 where
  pub got : Refill
  pub next : Watched (Refills hub.broadcast node has_room now got) (seat_at hub.seats.slab key) seat

-- it was sent all, and what comes next for it is nothing, ever
pub record IsAtEnd (hub : Hub) (node : NodeState) (now : ℕ) (key : Key) : Type 0 where
  pub has_room : Bool
  pub seat : Option Seat
  pub next : GetsNext hub node has_room now key seat
  pub over : IsOverSeat seat

-- the screen with this key took all that was pending for it
pub record TookAll (old new : Hub) (now : ℕ) (key : Key) : Type 0 where
  pub took : Watched (λ s t. t ≡ taken (length (prefix_at old key)) now s)
      (seat_at old.seats.slab key) (seat_at new.seats.slab key)
  pub rest : ChangesOnly old new key

-- once it took that, it is at its end
pub record IsAtEndThen (hub : Hub) (node : NodeState) (now : ℕ) (key : Key) : Type 0 where
  pub left : Hub
  pub took : TookAll hub left now key
  pub end : IsAtEnd left node now key

-- it is at its end; or it is, once it took what was pending for it, or what came next
pub data ReachesEnd (hub : Hub) (node : NodeState) (now : ℕ) (key : Key) : Type 0 where
  at_once : IsAtEnd hub node now key → ReachesEnd hub node now key
  pending : IsAtEndThen hub node now key → ReachesEnd hub node now key
  next : (has_room : Bool) (got : Hub)
      → GetsNext hub node has_room now key (seat_at got.seats.slab key)
      → got.broadcast ≡ hub.broadcast → IsAtEndThen got node now key
      → ReachesEnd hub node now key

-- ---- what was said

-- what was said to all is as far as what the node publishes, or the rest is said within a second
abbrev pub SaysAll : Screens → NodeState → ℕ → Type 0
SaysAll screens node now =
    (screens.hub.broadcast.told ≡ published_token node)
    ⊎ ((at : ℕ) × (screens.saying.waits ≡ Some at) × (at ≤ now + 1000))

-- What is left to be said has to wait: memory ran out, or more than a window was said since the log
-- was trimmed last.
abbrev pub HasToWait : Screens → Type 0
HasToWait screens = (screens.saying.is_short ≡ true)
    ⊎ (screens.hub.window < end_of screens.hub.broadcast.log - screens.hub.turn.end)

-- so long at most, where it waits
abbrev pub WaitsBriefly : Option ℕ → ℕ → Type 0
WaitsBriefly waits now = IfSome waits (λ at. at ≤ now + 1000)

-- Where something was said to all, or all were ended, all are to be written to; and still are where
-- they were. Where the log is at no token nothing is said: it begins at one.
pub record MakesDue (old new : Screens) : Type 0 where
  pub said : (old.hub.broadcast.told ≡ None)
      ⊎ ((new.hub.broadcast.told ≡ old.hub.broadcast.told) ⊎ (new.saying.is_due ≡ true))
  pub still : old.saying.is_due ≡ true → new.saying.is_due ≡ true

-- when a line feed is due after silence
abbrev pub idles_at : Screens → ℕ
idles_at screens = min (screens.saying.spoke + screens.limits.idle) (2 ^ 64 - 1)

-- ---- bodies that end

-- a screen is sent what is pending and the end of its body, and no more
abbrev pub HasEnd : Way → Type 0
HasEnd (CatchesUp token) = ⊥
HasEnd (OnLog at) = ⊥
HasEnd (Stops token) = Unit {0}
HasEnd Over = Unit {0}

abbrev pub IsEnding : Option Seat → Type 0
IsEnding None = Unit {0}
IsEnding (Some (Asks asking)) = Unit {0}
IsEnding (Some (Watches s)) = HasEnd s.way

-- so it is with each of them
abbrev pub AllEnd : Hub → Type 0
AllEnd hub = (key : Key) → IsEnding (seat_at hub.seats.slab key)
