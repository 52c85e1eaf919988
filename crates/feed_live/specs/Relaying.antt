-- THE PROMISE of a relay that follows servers: what it shows, and what each socket was handed, is
-- of the primary's log, as long as the servers are honest.
use Rattle.std.specs.Prelude.{◌≡◌, ◌≢◌, ◌⊎◌, ℕ, ◌<◌, ◌≤◌, ◌%◌, Bool, false, true, List, [], ◌∷◌, ◌++◌, length, take, Option, Some, None, option_map, is_none, IsSome, Contains, string_bytes}
use Rattle.slab.specs.Slab.{Slab}
use Rattle.feed_settings.specs.Limits.{Limits}
use Rattle.feed_node.specs.Mirroring.{MirrorState}
use Rattle.feed_node.specs.Saved.{restored_from}
use Rattle.feed_node.specs.States.{NodeState}
use Rattle.feed_follow.specs.Follower.{FollowerState, FollowsAt}
use Rattle.feed_follow.specs.Standing.{Standing}
use Rattle.feed_world.specs.Log.{Log}
use Rattle.feed_hub.specs.declared.hub.Hub.{Hub}
use Rattle.feed_hub.specs.declared.upstream.Upstream.{Upstream}
use Rattle.feed_laws.specs.Laws.{IsInLog}
use Rattle.feed_hub.specs.Upstream.{next_place, counted_on, asked_next, pause_next, later}
use Rattle.feed_device.specs.Links.{Exchange, Exchanges, Shown, nothing_shown, once_at, all_from, shown_so}
use Rattle.feed_device.specs.Sockets.{AllSockets}
use Rattle.feed_screens.specs.declared.conn.Conn.{Conn}
use Rattle.feed_screens.specs.declared.screens.Screens.{Screens}
use Rattle.feed_live.specs.declared.source.Reach.{Reach}
use Rattle.feed_live.specs.declared.source.Reach.TheVariants.{Away, Connects, Asks, Reads}
use Rattle.feed_live.specs.declared.source.Source.{Source}
use Rattle.feed_live.specs.declared.turn.Live.{Live}
use Rattle.feed_screens.specs.Serving.{ServesScreens, StillServing}
use Rattle.feed_live.specs.Answering.{has_heard}
use Rattle.feed_live.specs.States.{states_of}
use Rattle.feed_live.specs.Upstream.{AsksInLog, Servers, IsRequestOf, AreHonest, AreKnownHonest, IsOfLog}

-- so much of the request was written where the connection has come so far
abbrev pub WasWritten : Reach → List ℕ → List ℕ → Type 0
WasWritten Away request asked = ⊥
WasWritten (Connects since) request asked = asked ≡ []
WasWritten (Asks count) request asked = asked ≡ take count request
WasWritten Reads request asked = asked ≡ request

-- the mirror that follows is what is shown, and was so from some byte on; or nothing of it is shown
abbrev pub IsShownSo : Bool → Shown → ℕ → Type 0
IsShownSo false shown count = shown ≡ nothing_shown
IsShownSo true (all_from least) count = least ≤ count
IsShownSo true (once_at at) count = ⊥
IsShownSo true nothing_shown count = ⊥

-- What comes from a server: how far its connection is, and what is asked there; what was read of it
-- and is still to be followed; and the follower, if there is one, with its mirror, which is shown
-- or not.
pub record Pursuit : Type 0 where
  pub is_shown : Bool
  pub reach : Reach
  pub request : List ℕ
  pub unread : List ℕ
  pub follower : Option FollowerState
  pub mirror : MirrorState

abbrev pub pursuit : Bool → Reach → List ℕ → List ℕ → Option FollowerState → MirrorState → Pursuit
pursuit shown far asked rest follows into = record {
  is_shown = shown;
  reach = far;
  request = asked;
  unread = rest;
  follower = follows;
  mirror = into;
}

-- A response is followed: that to the request of a mirror, which was written on the latest
-- connection, as it is asked of that server. What was read there, whatever it is, came to the
-- mirror in its order, but for what is still unread. The mirror is the one that is shown, or
-- nothing of it is shown. Where the servers before were honest, the mirror that asked was at a
-- place of the log.
pub record FollowsResponse (limits : Limits) (log : Log) (servers : Servers) (exchanges : Exchanges)
    (p : Pursuit) (follower : FollowerState) : Type 0 where
  pub start : MirrorState
  pub latest : Exchange
  pub is_request : IsRequestOf servers latest.server start p.request
  pub before : List Exchange
  pub exchanges_are : exchanges ≡ Some (latest ∷ before)
  pub asks : AreHonest limits log servers before → AsksInLog limits log start
  pub asked : WasWritten p.reach p.request latest.asked
  pub bytes : List ℕ
  pub received : latest.received ≡ bytes ++ p.unread
  pub standing : Standing
  pub follows : FollowsAt start bytes standing follower p.mirror
  pub shown : IsShownSo p.is_shown latest.shown (length bytes)

-- so it is where one is followed; else there is no connection
abbrev pub FollowsIfAny : Limits → Log → Servers → Exchanges → Pursuit → Option FollowerState
    → Type 0
FollowsIfAny limits log servers exchanges p None = p.reach ≡ Away
FollowsIfAny limits log servers exchanges p (Some follower) =
    FollowsResponse limits log servers exchanges p follower

abbrev pub MayFollow : Limits → Log → Servers → Exchanges → Pursuit → Type 0
MayFollow limits log servers exchanges p = FollowsIfAny limits log servers exchanges p p.follower

-- The side of a relay where its screens are: the mirror that is shown to them, the one that has
-- published nothing, and what the hub and the connections have.
pub record ScreenSide : Type 0 where
  pub shown : MirrorState
  pub blank : MirrorState
  pub hub : Hub
  pub conns : Slab Conn

abbrev pub screen_side : MirrorState → MirrorState → Hub → Slab Conn → ScreenSide
screen_side shown blank hub conns =
    record { shown = shown; blank = blank; hub = hub; conns = conns }

-- What requests are answered with is at places of the log. So each socket was handed a prefix of
-- what is due to an answer that a state of the log gave.
pub record AnswersFromLog (limits : Limits) (log : Log) (contest : List ℕ) (side : ScreenSide)
    (sockets : AllSockets) : Type 0 where
  pub limits_are : side.shown.limits ≡ limits
  pub shown_is : IsInLog limits log side.shown.node
  pub blank_is : IsInLog limits log side.blank.node
  pub serving : ServesScreens (states_of limits log) contest side.hub side.conns sockets

-- so it is with what a relay answers with, and its screens
abbrev pub ShowsFromLog : Limits → Log → List ℕ → Source → Screens → AllSockets → Type 0
ShowsFromLog limits log contest source screens sockets =
    AnswersFromLog limits log contest
    (screen_side source.answers.shown.mirror source.answers.blank.mirror screens.hub screens.conns)
    sockets

-- the servers that are asked
abbrev pub servers_of : Source → Servers
servers_of source = record { places = source.places.items; identity = source.identity }

-- What a relay is set to of its servers: how many have their turn, after how long one is left that
-- has nothing new, and for how long one has to be quiet that was asked for everything; whether
-- several have tokens of their own; whether the newest commit is asked for again; and whether what
-- breaks is shown where nothing else is.
pub record SourceSettings : Type 0 where
  pub places : ℕ
  pub after : ℕ
  pub pause : ℕ
  pub is_strange : Bool
  pub rechecks : Bool
  pub serves_broken : Bool

abbrev pub settings_of : Source → SourceSettings
settings_of source = record {
  places = source.upstream.places;
  after = source.returning.after;
  pause = source.settling.pause;
  is_strange = source.settling.is_strange;
  rechecks = source.rechecking.is_on;
  serves_broken = source.settling.serves_broken;
}

-- the mirror that follows: one that began afresh, and nobody is shown yet, or the one that is shown
abbrev pub following_mirror : Option MirrorState → MirrorState → MirrorState
following_mirror None shown = shown
following_mirror (Some coming) shown = coming

abbrev pub followed_by : Source → MirrorState
followed_by source = following_mirror source.coming source.answers.shown.mirror

-- what it follows so, where this is unread
abbrev pub pursuit_of : Source → List ℕ → Pursuit
pursuit_of source unread =
    pursuit (is_none source.coming) source.reach source.request.items unread
    source.upstream.follower (followed_by source)

-- A relay within a turn: what went over its connections to servers, what it follows, what came of
-- that and is unread, or how many bytes of it are, and its screens.
pub record WithinTurn (Unread : Type 0) : Type 0 where
  pub exchanges : Exchanges
  pub source : Source
  pub unread : Unread
  pub screens : Screens

abbrev pub within_turn : Exchanges → Source → List ℕ → Screens → WithinTurn (List ℕ)
within_turn exchanges source unread screens =
    record { exchanges = exchanges; source = source; unread = unread; screens = screens }

abbrev pub counted_within_turn : Exchanges → Source → ℕ → Screens → WithinTurn ℕ
counted_within_turn exchanges source unread screens =
    record { exchanges = exchanges; source = source; unread = unread; screens = screens }

-- A relay of this contest asks these servers. It shows the log where all of them were honest so
-- far. Whether they were or not, it follows one as it should, of whose response some is unread.
abbrev pub FollowsServers : Limits → Log → Servers → List ℕ → WithinTurn (List ℕ) → AllSockets
    → Type 0
FollowsServers limits log servers contest relay sockets =
    (servers_of relay.source ≡ servers)
    × ((AreKnownHonest limits log servers relay.exchanges
    → ShowsFromLog limits log contest relay.source relay.screens sockets)
    × (IsSome relay.exchanges
    → MayFollow limits log servers relay.exchanges (pursuit_of relay.source relay.unread)))

-- THE PROMISE: so it is with a relay whose feed is not its input
abbrev pub IsRelaying : Limits → Log → Servers → Exchanges → Live → AllSockets → Type 0
IsRelaying limits log servers exchanges live sockets =
    (live.feeds ≡ false)
    × FollowsServers limits log servers (string_bytes live.contest)
    (within_turn exchanges live.source live.source.rest.items live.screens) sockets

-- ---- steps

-- it was so, and still is
abbrev pub StillFollows : WithinTurn (List ℕ) → WithinTurn (List ℕ) → Type 0
StillFollows old new =
    (limits : Limits) (log : Log) (servers : Servers) (contest : List ℕ) (sockets : AllSockets)
    → FollowsServers limits log servers contest old sockets
    → FollowsServers limits log servers contest new sockets

-- What follows may be shown: where the servers are honest in that, too, it is of the log. So may be
-- what it has published, at its token alone, or all of it. So many bytes that came are unread.
pub record MayShow (limits : Limits) (log : Log) (servers : Servers) (unread : ℕ)
    (exchanges : Exchanges) (mirror : MirrorState) : Type 0 where
  pub once : AreKnownHonest limits log servers (option_map (shown_so once_at unread) exchanges)
      → (mirror.limits ≡ limits) × IsOfLog log mirror.node.published
  pub all : AreKnownHonest limits log servers (option_map (shown_so all_from unread) exchanges)
      → (mirror.limits ≡ limits) × IsInLog limits log mirror.node

-- what a relay of this contest shows is of the log, and so is what follows, once it may be shown
abbrev pub IsToShow : Limits → Log → Servers → List ℕ → WithinTurn ℕ → AllSockets → Type 0
IsToShow limits log servers contest relay sockets =
    (servers_of relay.source ≡ servers)
    × (AreKnownHonest limits log servers relay.exchanges
    → ShowsFromLog limits log contest relay.source relay.screens sockets)
    × MayShow limits log servers relay.unread relay.exchanges (followed_by relay.source)

-- What it shows is still of the log, whether what followed is shown now or not.
abbrev pub StillShows : WithinTurn ℕ → Source → Exchanges → Screens → Type 0
StillShows old new after later =
    (limits : Limits) (log : Log) (servers : Servers) (contest : List ℕ) (sockets : AllSockets)
    → IsToShow limits log servers contest old sockets
    → (servers_of new ≡ servers)
    × (AreKnownHonest limits log servers after
    → ShowsFromLog limits log contest new later sockets)

abbrev pub StillRelaying : Live → Live → Exchanges → Exchanges → AllSockets → AllSockets → Type 0
StillRelaying old new before after sockets later =
    (limits : Limits) (log : Log) (servers : Servers)
    → IsRelaying limits log servers before old sockets
    → IsRelaying limits log servers after new later

-- nothing changed of what is followed and shown, nor of the servers that are asked, nor when the
-- connection was begun
pub record SameSource (old new : Source) : Type 0 where
  pub servers : servers_of new ≡ servers_of old
  pub shown : new.answers.shown.mirror ≡ old.answers.shown.mirror
  pub blank : new.answers.blank.mirror ≡ old.answers.blank.mirror
  pub coming : new.coming ≡ old.coming
  pub follower : new.upstream.follower ≡ old.upstream.follower
  pub reach : new.reach ≡ old.reach
  pub request : new.request.items ≡ old.request.items
  pub rest : new.rest.items ≡ old.rest.items
  pub opened : new.opened ≡ old.opened

-- Where there is no connection, nothing of one is left to be read.
abbrev pub RestsAway : Source → Type 0
RestsAway source = source.reach ≡ Away → source.has_more ≡ false

-- nothing changed of what a server is waited for, nor of which one is asked, and when
pub record SameWaiting (old new : Source) : Type 0 where
  pub leading : new.leading ≡ old.leading
  pub patience : new.patience ≡ old.patience
  pub settling : new.settling ≡ old.settling
  pub rechecking : new.rechecking ≡ old.rechecking
  pub upstream : new.upstream ≡ old.upstream
  pub reach : new.reach ≡ old.reach
  pub returning : new.returning ≡ old.returning
  pub opened : new.opened ≡ old.opened
  pub body_since : new.body_since ≡ old.body_since

-- the same but for what is kept unread
pub record SameButUnread (old new : Source) : Type 0 where
  pub servers : servers_of new ≡ servers_of old
  pub answers : new.answers ≡ old.answers
  pub coming : new.coming ≡ old.coming
  pub upstream : new.upstream ≡ old.upstream
  pub reach : new.reach ≡ old.reach
  pub request : new.request ≡ old.request

-- The server was left: no response is followed, and none has a head. What is shown stays, and so
-- does when the connection was begun.
pub record WasLeft (old new : Source) (before after : Exchanges) : Type 0 where
  pub servers : servers_of new ≡ servers_of old
  pub exchanges : after ≡ before
  pub reach : new.reach ≡ Away
  pub follower : new.upstream.follower ≡ None
  pub limits : new.answers.shown.mirror.limits ≡ old.answers.shown.mirror.limits
  pub node : new.answers.shown.mirror.node ≡ old.answers.shown.mirror.node
  pub blank : new.answers.blank.mirror ≡ old.answers.blank.mirror
  pub opened : new.opened ≡ old.opened
  pub body_since : new.body_since ≡ None

-- there is no connection, and one to the place that is asked next is due
pub record IsToConnect (source : Source) (now : ℕ) : Type 0 where
  pub away : source.reach ≡ Away
  pub none : source.upstream.follower ≡ None
  pub due : source.upstream.since ≤ now
  pub place : source.upstream.place < length source.places.items

-- the next place is asked, at once or after a pause
abbrev pub GoesOn : Upstream → Upstream → ℕ → Type 0
GoesOn old new now =
    (new.places ≡ old.places)
    × (new.place ≡ next_place old.place old.places)
    × (new.failed ≡ counted_on old.failed old.places)
    × (new.since ≡ asked_next (next_place old.place old.places) (later old.began 1000) old.failed
    old.places now old.pause)
    × (new.pause ≡ pause_next old.failed old.places old.pause 30000) × (new.refused ≡ old.refused)

-- this place is asked again, at once, and nothing is counted
abbrev pub GoesBack : ℕ → Upstream → Upstream → ℕ → Type 0
GoesBack place old new now =
    (new.places ≡ old.places) × (new.place ≡ place % old.places) × (new.failed ≡ old.failed)
    × (new.since ≡ now) × (new.pause ≡ old.pause) × (new.refused ≡ old.refused)

-- The next place is asked; where the first server was only looked at, the one that is followed.
abbrev pub GoesOnFrom : Option ℕ → Upstream → Upstream → ℕ → Type 0
GoesOnFrom None old new now = GoesOn old new now
GoesOnFrom (Some place) old new now = GoesBack place old new now

abbrev pub GoesOnTo : Source → Source → ℕ → Type 0
GoesOnTo old new now = GoesOnFrom old.leading.looks_from old.upstream new.upstream now

-- where one began afresh, what is shown is the same; else that is what follows
abbrev pub KeepsShown : Option MirrorState → Option MirrorState → MirrorState → MirrorState → Type 0
KeepsShown None now old new = now ≡ None
KeepsShown (Some coming) now old new = new ≡ old

-- the mirror that follows took bytes, and nothing else changed
pub record PushesOnly (old new : Source) : Type 0 where
  pub servers : servers_of new ≡ servers_of old
  pub limits : (followed_by new).limits ≡ (followed_by old).limits
  pub coming : is_none new.coming ≡ is_none old.coming
  pub shown : KeepsShown old.coming new.coming old.answers.shown.mirror new.answers.shown.mirror
  pub blank : new.answers.blank.mirror ≡ old.answers.blank.mirror
  pub reach : new.reach ≡ old.reach
  pub request : new.request.items ≡ old.request.items
  pub rest : new.rest.items ≡ old.rest.items

-- the mirror that follows is shown from here on
pub record IsNowShown (old new : Source) : Type 0 where
  pub servers : servers_of new ≡ servers_of old
  pub shown : new.answers.shown.mirror ≡ followed_by old
  pub coming : new.coming ≡ None
  pub blank : new.answers.blank.mirror ≡ old.answers.blank.mirror
  pub follower : new.upstream.follower ≡ old.upstream.follower
  pub reach : new.reach ≡ old.reach
  pub request : new.request.items ≡ old.request.items
  pub rest : new.rest.items ≡ old.rest.items

-- what is shown is the same, or what follows, at its own token alone
pub record ShowsAlone (old new : Source) : Type 0 where
  pub servers : servers_of new ≡ servers_of old
  pub shown : (new.answers.shown.mirror ≡ old.answers.shown.mirror)
      ⊎ (new.answers.shown.mirror
      ≡ restored_from (followed_by old).limits (followed_by old).node.published)
  pub blank : new.answers.blank.mirror ≡ old.answers.blank.mirror

-- it is set to the same, and ends when it did, or not at all
abbrev pub SameEnd : Live → Live → Type 0
SameEnd old new = (new.limits ≡ old.limits) × (new.ends_at ≡ old.ends_at)

-- where there is a connection, as much of it may be left to be read as before, or more
abbrev pub MayHaveMore : Source → Source → Type 0
MayHaveMore old new =
    new.reach ≢ Away → (new.has_more ≡ old.has_more) ⊎ (new.has_more ≡ true)

-- Only screens were served, from what the relay shows; and until a server was heard, from what
-- shows nothing. All else is as it was.
pub record OnlyServes (old new : Live) (before after : AllSockets) : Type 0 where
  pub contest : new.contest ≡ old.contest
  pub ends : SameEnd old new
  pub feeds : new.feeds ≡ old.feeds
  pub source : SameSource old.source new.source
  pub waiting : SameWaiting old.source new.source
  pub heard : new.source.is_heard ≡ old.source.is_heard
  pub epoch : new.source.epoch ≡ old.source.epoch
  pub rests : RestsAway old.source → RestsAway new.source
  pub more : MayHaveMore old.source new.source
  pub serves : (nodes : List NodeState) → Contains nodes old.source.answers.shown.mirror.node
      → (has_heard old.source ≡ false → Contains nodes old.source.answers.blank.mirror.node)
      → StillServing nodes (string_bytes old.contest) old.screens new.screens before after
