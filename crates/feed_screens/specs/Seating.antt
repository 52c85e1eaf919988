-- Who comes has a seat, where one is free; and who is closed where there is no place.
use Rattle.std.specs.Prelude.{◌≡◌, ◌≢◌, ℕ, ◌<◌, ◌≤◌, ◌+◌, ◌-◌, ◌^◌, min, false, Option, Some, None}
use Rattle.std.specs.declared.net.socket_addr.SocketAddr.{SocketAddr}
use Rattle.slab.specs.Slab.{Slab, get, slab_len, HasRoomFor}
use Rattle.feed_hub.specs.declared.hub.Hub.{Hub}
use Rattle.feed_hub.specs.declared.seats.Key.{Key}
use Rattle.feed_screens.specs.declared.conn.Conn.{Conn}
use Rattle.feed_screens.specs.declared.conn.Phase.{Phase}
use Rattle.feed_screens.specs.declared.conn.Wait.{Wait}
use Rattle.feed_screens.specs.declared.screens.Screens.{Screens}
use Rattle.feed_screens.specs.declared.conn.Phase.TheVariants.{Asks, Watches, Lingers as Lingering}
use Rattle.feed_screens.specs.Serving.{key_at}

-- there are fewer than there may be, and no memory is needed for one more
pub record HasFreeSeat (hub : Hub) : Type 0 where
  pub few : slab_len hub.seats.slab < hub.most
  pub room : HasRoomFor hub.seats.slab 1
  pub next : hub.seats.next < 2 ^ 64 - 1

-- until when the request of who comes now has to be there: for half a minute, and as long as
-- requests may have to wait
abbrev pub comes_until : Screens → ℕ → ℕ
comes_until screens now = min (min (now + 30000) (2 ^ 64 - 1) + screens.held) (2 ^ 64 - 1)

-- a connection that came just now: its request comes, and nothing was written
abbrev pub connected : SocketAddr → ℕ → Conn
connected peer now =
    record {
      key = None;
      phase = Asks;
      is_blocked = false;
      has_input = false;
      has_more = false;
      owes = 0;
      owed_since = 0;
      took = 0;
      wait = None;
      ended = None;
      peer = peer;
      since = now;
      status = 0;
      bytes = 0;
    }

-- it has this key, and sent its end
abbrev pub SentEndWithKey : Option Conn → Key → Type 0
SentEndWithKey None key = ⊥
SentEndWithKey (Some conn) key = (conn.key ≡ Some key) × (conn.ended ≢ None)

-- when it sent its end: that is noted of a screen, and of a request that waits for room
abbrev pub end_noted : Phase → Option Wait → ℕ → Option ℕ → Option ℕ
end_noted Watches wait now before = Some now
end_noted Asks None now before = before
end_noted Asks (Some wait) now before = Some now
end_noted (Lingering until left) None now before = before
end_noted (Lingering until left) (Some wait) now before = Some now

-- its peer sends no more
abbrev pub input_ended : ℕ → Conn → Conn
input_ended now conn = record conn { ended = end_noted conn.phase conn.wait now conn.ended }

-- so it is with a connection
abbrev pub HasSentEnd : Slab Conn → Key → Type 0
HasSentEnd conns key = (at : ℕ) × SentEndWithKey (get conns at) key

-- all was sent: what comes is read and forgotten
abbrev pub Lingers : Phase → Type 0
Lingers Asks = ⊥
Lingers Watches = ⊥
Lingers (Lingering until left) = Unit {0}

-- from now on all was sent: for two seconds, and for 65,536 bytes, what comes is read and forgotten
abbrev pub lingers_from : ℕ → Phase
lingers_from now = Lingering (min (now + 2000) (2 ^ 64 - 1)) 65536

-- so many bytes of that came
abbrev pub lingers_less : ℕ → Phase → Phase
lingers_less count Asks = Asks
lingers_less count Watches = Watches
lingers_less count (Lingering until left) = Lingering until (left - count)

-- with so many more, no further ones are read
abbrev pub HasReadAll : ℕ → Phase → Type 0
HasReadAll count Asks = ⊥
HasReadAll count Watches = ⊥
HasReadAll count (Lingering until left) = left ≤ count

-- so it is with the connection
abbrev pub IsLingering : Option Conn → Type 0
IsLingering None = ⊥
IsLingering (Some conn) = Lingers conn.phase

-- a connection is there that was not, and it has a key
pub record HasNewKey (old new : Slab Conn) : Type 0 where
  pub at : ℕ
  pub key : Key
  pub vacant : get old at ≡ None
  pub keyed : key_at new at ≡ Some (Some key)
