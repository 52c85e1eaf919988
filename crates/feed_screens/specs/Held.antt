-- Requests wait until a server was heard.
use Rattle.std.specs.Prelude.{◌≡◌, ℕ, ◌+◌, ◌-◌, ◌≤◌, ◌^◌, min, Bool, true, false, nat_le, Option, Some, None, if◌then◌else◌}
use Rattle.slab.specs.Slab.{Slab, get}
use Rattle.feed_screens.specs.declared.conn.Conn.{Conn}
use Rattle.feed_screens.specs.declared.conn.Phase.{Phase}
use Rattle.feed_screens.specs.declared.conn.Phase.TheVariants.{Asks, Watches, Lingers}
use Rattle.feed_screens.specs.declared.screens.Answers.{Answers}
use Rattle.feed_screens.specs.declared.screens.Screens.{Screens}

-- with what a request is answered, which is held or not: with what shows nothing, or with what the
-- relay shows
abbrev pub answerer : {T : Type 0} → Bool → T → T → T
answerer false shown blank = shown
answerer true shown blank = blank

-- whether that is now, where it is held until a time
abbrev pub is_over : Bool → ℕ → ℕ → Bool
is_over false until now = true
is_over true until now = nat_le until now

-- Requests that came at a time are answered: a server was heard, or they were held for so long.
abbrev pub IsAnswering : Bool → ℕ → ℕ → ℕ → Type 0
IsAnswering held hold since now = is_over held (min (since + hold) (2 ^ 64 - 1)) now ≡ true

-- the request of this connection waits: it is not answered yet, and none that came when it did is
-- now
abbrev pub Waits : Option Conn → Bool → ℕ → ℕ → Type 0
Waits None held hold now = ⊥
Waits (Some conn) held hold now =
    (conn.phase ≡ Asks) × (IsAnswering held hold conn.since now → ⊥)

-- There is something to be read of this connection now: an event said so, and no read has found
-- nothing since; and its request is answered where it is one.
abbrev pub IsToBeRead : Option Conn → Bool → ℕ → ℕ → Type 0
IsToBeRead None held hold now = ⊥
IsToBeRead (Some conn) held hold now =
    (conn.has_input ≡ true) × (conn.phase ≡ Asks → IsAnswering held hold conn.since now)

-- The connection is over; or what says whether it is to be read stays, and its request comes only
-- where it did before.
abbrev pub KeepsInput : Option Conn → Option Conn → Type 0
KeepsInput old None = Unit {0}
KeepsInput None (Some new) = ⊥
KeepsInput (Some old) (Some new) =
    (new.has_input ≡ old.has_input) × (new.since ≡ old.since)
    × (new.phase ≡ Asks → old.phase ≡ Asks)

-- so it is with each connection
abbrev pub AllKeepInput : Slab Conn → Slab Conn → Type 0
AllKeepInput old new = (at : ℕ) → KeepsInput (get old at) (get new at)

-- an event came for it: there may be more to read, or to write, or both
abbrev pub woken : Bool → Bool → Conn → Conn
woken is_readable is_writable conn =
    record conn {
      has_input = if is_readable then true else conn.has_input;
      is_blocked = if is_writable then false else conn.is_blocked;
    }

-- there is nothing more to read of it
abbrev pub read_whole : Conn → Conn
read_whole conn = record conn { has_input = false }

-- the connection is at this phase
abbrev pub IsAt : Option Conn → Phase → Type 0
IsAt None phase = ⊥
IsAt (Some conn) phase = conn.phase ≡ phase

-- all was sent, and it was read long enough since
abbrev pub HasLingered : Phase → ℕ → Type 0
HasLingered Asks now = ⊥
HasLingered Watches now = ⊥
HasLingered (Lingers until left) now = until ≤ now

-- so it is with the connection
abbrev pub IsPast : Option Conn → ℕ → Type 0
IsPast None now = ⊥
IsPast (Some conn) now = HasLingered conn.phase now

-- what answers shows what it did
pub record SameMirrors (old new : Answers) : Type 0 where
  pub shown : new.shown.mirror ≡ old.shown.mirror
  pub blank : new.blank.mirror ≡ old.blank.mirror

-- nothing changed but connections
pub record SameBesideConns (old new : Screens) : Type 0 where
  pub hub : new.hub ≡ old.hub
  pub pending : new.pending ≡ old.pending
  pub saying : new.saying ≡ old.saying
  pub counts : new.counts ≡ old.counts
  pub made : new.made ≡ old.made
  pub held : new.held ≡ old.held
  pub has_more : new.has_more ≡ old.has_more
  pub is_waited : new.is_waited ≡ old.is_waited
  pub is_waited_for : new.is_waited_for ≡ old.is_waited_for
  pub accept_at : new.accept_at ≡ old.accept_at
