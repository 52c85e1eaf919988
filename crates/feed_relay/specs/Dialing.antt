-- What a contract says of what opens connections.
use Rattle.std.specs.Prelude.{◌≡◌, ℕ, Option, None, Some}
use Rattle.feed_http.specs.Device.{counted}
use Rattle.feed_http.specs.Exchange.{Devices, Exchange, devices_of, exchange}
use Rattle.feed_http.specs.declared.device.FeedRead as feed_read
use Rattle.feed_http.specs.declared.device.FeedWrite as feed_write
use Rattle.feed_relay.specs.declared.dial.Accept as accept
use Rattle.feed_relay.specs.declared.dial.Dial as dial

-- What a program says of what opens connections, of such a type, and of what it connects with: how
-- often no connection was opened; what a call makes of it, and which connection that opens; and
-- what it is once a connection is given back.
pub record Links (D R W : Type 0) : Type 1 where
  pub devices : Devices R W
  pub misses : D → ℕ
  pub opens : D → D → Option (R × W) → Type 0
  pub closes : D → R → W → D → Type 0

-- the same of what connects to places, for the place of each number
abbrev pub Dialer : Type 0 → Type 0 → Type 0 → Type 1
Dialer D R W = ℕ → Links D R W

-- what a reader and a writer of one connection tell
abbrev devices_by : {R W : Type 0} → feed_read.Ghosts R → feed_write.Ghosts W → Devices R W
devices_by reader writer =
    devices_of reader.remaining reader.reads reader.failures writer.contents writer.failures

module _ {D R W : Type 0} where
  -- what a program says of what accepts connections, and of their readers and writers
  abbrev pub links_of : accept.Ghosts D R W → feed_read.Ghosts R → feed_write.Ghosts W
      → Links D R W
  links_of listener reader writer = record {
    devices = devices_by reader writer;
    misses = listener.misses;
    opens = listener.accepts;
    closes = listener.closes;
  }

  -- the same of what dials servers
  abbrev pub dialer_of : dial.Ghosts D R W → feed_read.Ghosts R → feed_write.Ghosts W
      → Dialer D R W
  dialer_of dial reader writer number = record {
    devices = devices_by reader writer;
    misses = dial.misses;
    opens = λ old new opened. dial.dials old number new opened;
    closes = dial.closes;
  }

  -- A connection was opened; this is what was read and written on it, and nothing else; and it was
  -- given back.
  pub record OnLink (links : Links D R W) (start : D) (Spoke : Exchange → Type 0) (end : D)
      : Type 0 where
    pub opened : D
    pub reader : R
    pub left : R
    pub writer : W
    pub written : W
    pub linked : links.opens start opened (Some (reader, writer))
    pub spoke : Spoke (exchange links.devices reader left writer written)
    pub closed : links.closes opened left written end
    pub no_miss : links.misses end ≡ links.misses start

  -- no connection was opened, and that was counted
  abbrev pub HasMissed : Links D R W → D → D → Type 0
  HasMissed links start end =
      links.opens start end None × (links.misses end ≡ counted (links.misses start) 1)
