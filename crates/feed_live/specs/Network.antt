-- THE PROMISE of a network: relays that follow one another in any way, also in a ring, and servers
-- outside it, of one log.
use Rattle.std.specs.Prelude.{◌≡◌, ◌≢◌, ℕ, List, [], ◌++◌, Option, Some, None, Contains, slice_get, string_bytes}
use Rattle.std.specs.List.{AllByRecursion}
use Rattle.feed_settings.specs.Limits.{Limits}
use Rattle.feed_settings.specs.Place.{Place, IsPlace}
use Rattle.feed_node.specs.Mirroring.{MirrorState}
use Rattle.feed_wire.specs.Asked.{Asks, feed}
use Rattle.feed_wire.specs.Identity.{anonymous}
use Rattle.feed_world.specs.Log.{Log, IsLog}
use Rattle.feed_device.specs.Links.{Exchange}
use Rattle.feed_device.specs.Sockets.{AllSockets, Socket, Traffic, traffic_of}
use Rattle.feed_live.specs.declared.turn.Live.{Live}
use Rattle.feed_live.specs.Laws.{ShowsTheLog}
use Rattle.feed_live.specs.Relaying.{IsRelaying, StillRelaying}
use Rattle.feed_live.specs.Upstream.{Servers, IsRequestOf, AsksInLog, IsHonest, AreHonest}

-- A relay: its limits, the servers that it was given, its state, and what went over each of its
-- connections to those, the latest one first, and over those of its screens.
pub record Relay : Type 0 where
  pub limits : Limits
  pub servers : Servers
  pub live : Live
  pub exchanges : List Exchange
  pub sockets : AllSockets

-- the relays that were started, each at a number of its own
abbrev pub Network : Type 0
Network = ℕ → Option Relay

-- this went over a connection of a screen of the relay, which may be over
pub record WentOver (relay : Relay) (traffic : Traffic) : Type 0 where
  pub at : ℕ
  pub socket : Socket
  pub socket_is : relay.sockets at ≡ Some socket
  pub among : Contains (traffic_of socket) traffic

-- READ AS MEANT: where what came begins with a request for the feed of this contest, its token is
-- that of the request with which what was asked begins, or both have none.
abbrev pub IsReadAsWritten : Log → Limits → Servers → Exchange → List ℕ → List ℕ → Type 0
IsReadAsWritten log limits servers exchange contest came =
    (begun : MirrorState) (request more head behind : List ℕ) (minor : ℕ) (since : Option (List ℕ))
    → AsksInLog limits log begun → (is : IsRequestOf servers exchange.server begun request)
    → exchange.asked ≡ request ++ more → came ≡ head ++ behind
    → Asks head contest (feed minor since) → since ≡ is.since

-- What somebody with these limits read of a relay, who is given these servers: a prefix of what
-- that has written on a connection, over which it read the request as it was meant.
pub record IsOfRelay (log : Log) (writer : Relay) (limits : Limits) (servers : Servers)
    (exchange : Exchange) : Type 0 where
  pub traffic : Traffic
  pub went : WentOver writer traffic
  pub behind : List ℕ
  pub begins : exchange.received ++ behind ≡ traffic.written
  pub meant : IsReadAsWritten log limits servers exchange (string_bytes writer.live.contest)
      traffic.came

-- What a relay read on a connection is of a relay of the network, and was written before; or it is
-- of a server outside that is honest.
pub data IsOfNetwork (log : Log) (before : Network) (reader : Relay) (exchange : Exchange)
    : Type 0 where
  inside : (at : ℕ) (writer : Relay) → before at ≡ Some writer
      → IsOfRelay log writer reader.limits reader.servers exchange
      → IsOfNetwork log before reader exchange
  outside : IsHonest reader.limits log reader.servers exchange
      → IsOfNetwork log before reader exchange

-- A relay as it starts, by `Live::new`, with nothing or a state of the log: its limits are such
-- that it can take the log, and it has connected to no server.
pub record StartsFromLog (log : Log) (relay : Relay) : Type 0 where
  pub is_log : IsLog relay.limits log
  pub none_asked : relay.exchanges ≡ []
  pub relaying : IsRelaying relay.limits log relay.servers (Some relay.exchanges) relay.live
      relay.sockets

-- A turn of a relay, by `Live::turn`, or `Live::clear_reports` between two of them: on each of its
-- connections so far it has read what others have written before this turn.
pub record Turns (log : Log) (before : Network) (old new : Relay) : Type 0 where
  pub limits : new.limits ≡ old.limits
  pub servers : new.servers ≡ old.servers
  pub turn : StillRelaying old.live new.live (Some old.exchanges) (Some new.exchanges) old.sockets
      new.sockets
  pub read : AllByRecursion (IsOfNetwork log before new) new.exchanges

-- nothing happens to the relays at other numbers
abbrev pub OthersStay : Network → Network → ℕ → Type 0
OthersStay old new at = (other : ℕ) → other ≢ at → new other ≡ old other

-- A network, as it may become: no relay is there at first. Then, in any order, one more starts, or
-- one has a turn.
pub data IsRelayNetwork (log : Log) : Network → Type 0 where
  no_relays : (new : Network) → ((at : ℕ) → new at ≡ None) → IsRelayNetwork log new
  one_starts : (old new : Network) (at : ℕ) (relay : Relay) → IsRelayNetwork log old
      → old at ≡ None → new at ≡ Some relay → OthersStay old new at → StartsFromLog log relay
      → IsRelayNetwork log new
  one_turns : (old new : Network) (at : ℕ) (was now : Relay) → IsRelayNetwork log old
      → old at ≡ Some was → new at ≡ Some now → OthersStay old new at → Turns log old was now
      → IsRelayNetwork log new

-- ---- laws

-- What makes it so: what is read of a relay that shows the log is honest, for whoever can take that
-- log.
abbrev pub RelayedIsHonest : Type 0
RelayedIsHonest =
    (log : Log) (writer : Relay) (limits : Limits) (servers : Servers) (exchange : Exchange)
    → IsLog limits log → ShowsTheLog writer.limits log writer.live writer.sockets
    → IsOfRelay log writer limits servers exchange → IsHonest limits log servers exchange

-- a relay shows the log; all that it read was honest, and so is all that anybody reads of it
pub record TellsTheLog (log : Log) (relay : Relay) : Type 0 where
  pub shows : ShowsTheLog relay.limits log relay.live relay.sockets
  pub read : AreHonest relay.limits log relay.servers relay.exchanges
  pub writes : (limits : Limits) (servers : Servers) (exchange : Exchange) → IsLog limits log
      → IsOfRelay log relay limits servers exchange → IsHonest limits log servers exchange

-- THE PROMISE: so it is with each relay of a network, whatever happened in it
abbrev pub NetworksShowTheLog : Type 0
NetworksShowTheLog =
    (log : Log) (network : Network) (at : ℕ) (relay : Relay) → IsRelayNetwork log network
    → network at ≡ Some relay → TellsTheLog log relay

-- Where a request has no base path and no user, and what came is a prefix of what was asked, it is
-- read as it was meant.
abbrev pub RequestsAreMeant : Type 0
RequestsAreMeant =
    (log : Log) (limits : Limits) (servers : Servers) (exchange : Exchange)
    (contest came later : List ℕ) → IsLog limits log → came ++ later ≡ exchange.asked
    → servers.identity ≡ anonymous
    → ((server : ℕ) (place : Place) → slice_get servers.places server ≡ Some place
    → IsPlace place × (place.base ≡ []))
    → IsReadAsWritten log limits servers exchange contest came
