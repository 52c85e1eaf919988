-- Who waits for room, and for how long; and who takes a text so slowly that it is cut for that.
use Rattle.std.specs.Prelude.{◌≡◌, ◌≢◌, ◌⊎◌, ℕ, ◌<◌, ◌≤◌, ◌+◌, ◌-◌, ◌*◌, ◌^◌, min, Bool, true, false, List, length, Option, Some, None, IfSome, option_map, if◌then◌else◌}
use Rattle.std.specs.List.{list_any}
use Rattle.slab.specs.Slab.{Slab, get}
use Rattle.feed_hub.specs.declared.answering.Answering.{Answering}
use Rattle.feed_hub.specs.declared.hub.Hub.{Hub}
use Rattle.feed_hub.specs.declared.screen.Refill.{Refill}
use Rattle.feed_hub.specs.declared.screen.Refill.TheVariants.{Goes, Waits}
use Rattle.feed_hub.specs.declared.seats.Key.{Key}
use Rattle.feed_hub.specs.declared.seats.Seat.{Seat}
use Rattle.feed_hub.specs.Frames.{is_since}
use Rattle.feed_hub.specs.Hub.{HoldsAt, Refills, TellsTextAt, prefix_at}
use Rattle.feed_hub.specs.Seats.{seat_at, IsAskingSeat, IsWatcher, Watched}
use Rattle.feed_hub.specs.Steps.{IsCatchingUp}
use Rattle.feed_node.specs.States.{NodeState}
use Rattle.feed_screens.specs.declared.conn.Conn.{Conn}
use Rattle.feed_screens.specs.declared.conn.Phase.TheVariants.{Watches}
use Rattle.feed_screens.specs.declared.conn.Wait.{Wait}
use Rattle.feed_screens.specs.declared.conn.Wanted.{Wanted}
use Rattle.feed_screens.specs.declared.conn.Wanted.TheVariants.{Answer, Commit}
use Rattle.feed_screens.specs.declared.screens.Keyed.{Keyed}
use Rattle.feed_screens.specs.declared.screens.Screens.{Screens}
use Rattle.feed_screens.specs.Held.{IsToBeRead}
use Rattle.feed_screens.specs.Pending.{total, owed_text_at}
use Rattle.feed_screens.specs.Serving.{key_at}

-- its answer has waited for room for thirty seconds
abbrev pub HasWaited : Option Wait → ℕ → Type 0
HasWaited None now = ⊥
HasWaited (Some wait) now =
    (wait.wanted ≡ Answer) × (min (wait.since + 30000) (2 ^ 64 - 1) ≤ now)

-- so it is with the connection
abbrev pub IsOverdue : Option Conn → ℕ → Type 0
IsOverdue None now = ⊥
IsOverdue (Some conn) now = HasWaited conn.wait now

-- the request of the connection at a place comes: no answer to it was begun
pub record IsAskingAt (screens : Screens) (at : ℕ) : Type 0 where
  pub key : Key
  pub keyed : key_at screens.conns at ≡ Some (Some key)
  pub asks : IsAskingSeat (seat_at screens.hub.seats.slab key)

-- and it has waited for room for too long
pub record IsOverdueAt (screens : Screens) (at now : ℕ) : Type 0 where
  pub asks : IsAskingAt screens at
  pub overdue : IsOverdue (get screens.conns at) now

-- so it is with no connection that has this key
abbrev pub HasNotWaited : Slab Conn → Key → ℕ → Type 0
HasNotWaited conns key now =
    (at : ℕ) → key_at conns at ≡ Some (Some key) → ¬ (IsOverdue (get conns at) now)

-- the long texts that screens have yet to take have fewer bytes together than they may: so one more
-- may be made
abbrev pub HasRoom : Screens → Type 0
HasRoom screens =
    min (total screens.pending.texts.list.items) (2 ^ 64 - 1) < screens.limits.pending

-- its answer waits for room
abbrev pub WantsAnswer : Option Wait → Type 0
WantsAnswer None = ⊥
WantsAnswer (Some wait) = wait.wanted ≡ Answer

-- so it is with the connection
abbrev pub AnswerWaits : Option Conn → Type 0
AnswerWaits None = ⊥
AnswerWaits (Some conn) = WantsAnswer conn.wait

-- the commit that it has no room for: how many bytes it has, and how many long ones had been made
abbrev pub commit_of : Wanted → Option (ℕ × ℕ)
commit_of Answer = None
commit_of (Commit length made) = Some (length, made)

abbrev pub wanted_commit : Option Wait → Option (ℕ × ℕ)
wanted_commit None = None
wanted_commit (Some wait) = commit_of wait.wanted

-- the connection waits for a commit
abbrev pub WantsCommit : Option Conn → Type 0
WantsCommit None = ⊥
WantsCommit (Some conn) = wanted_commit conn.wait ≢ None

-- the connection waits for room
abbrev pub IsWaiting : Option Conn → Type 0
IsWaiting None = ⊥
IsWaiting (Some conn) = conn.wait ≢ None

-- Of these bytes not all were taken for the request that comes there, as it ends before the last:
-- something comes behind it. Or no request comes.
abbrev pub IsFollowed : ℕ → List ℕ → Option Seat → Option Seat → Type 0
IsFollowed until piece old new =
    (taken : ℕ) × (taken < length piece) × HoldsAt until piece taken old new

-- since when it waits for what it wants now: it may have waited for something before
abbrev pub waits_since : Option Wait → ℕ → ℕ
waits_since None now = now
waits_since (Some wait) now = wait.since

-- it waits for this from now on, or for as long as it has waited
abbrev pub waiting_for : Wanted → ℕ → Conn → Conn
waiting_for wanted now conn =
    record conn {
      wait = Some (record { since = waits_since conn.wait now; wanted = wanted });
    }

-- it has yet to take a text of so many bytes, from now on
abbrev pub owing : ℕ → ℕ → Conn → Conn
owing length now conn = record conn { owes = length; owed_since = now; took = 0 }

-- it has none to take
abbrev pub owing_nothing : Conn → Conn
owing_nothing conn = record conn { owes = 0 }

-- it waits for room no more
abbrev pub waiting_no_more : Conn → Conn
waiting_no_more conn = record conn { wait = None }

-- it has this text, which came next: it waits no more, and has yet to take one with a number
abbrev pub refilled : Option ℕ → List ℕ → ℕ → Conn → Conn
refilled None text now conn = waiting_no_more conn
refilled (Some number) text now conn = owing (length text) now (waiting_no_more conn)

-- there is more to write to it, or as before
abbrev pub having_more : Bool → Conn → Conn
having_more more conn = record conn { has_more = if conn.has_more then true else more }

-- it took so many bytes more, and is blocked or not
abbrev pub handed : ℕ → Bool → Conn → Conn
handed count is_blocked conn =
    record conn {
      is_blocked = is_blocked;
      bytes = min (conn.bytes + count) (2 ^ 64 - 1);
      took = min (conn.took + count) (2 ^ 64 - 1);
    }

-- its request was answered so: it waits for room no more
abbrev pub answered : ℕ → Conn → Conn
answered status conn = record conn { phase = Watches; wait = None; status = status }

-- the connection waits for room since a time, and its socket may take something
abbrev pub WaitsSince : Option Conn → ℕ → Type 0
WaitsSince None since = ⊥
WaitsSince (Some conn) since =
    (conn.is_blocked ≡ false) × (wait : Wait) × (conn.wait ≡ Some wait) × (wait.since ≡ since)

-- one was found that has waited since then, or for longer
abbrev pub IsFoundBy : Option (ℕ × ℕ) → ℕ → Type 0
IsFoundBy None since = ⊥
IsFoundBy (Some found) since = found.0 ≤ since

-- nobody has waited for longer than the connection at this place
abbrev pub IsTurnOf : Slab Conn → ℕ → Type 0
IsTurnOf conns at =
    (other since : ℕ) → WaitsSince (get conns other) since
    → (own : ℕ) × WaitsSince (get conns at) own × (own ≤ since)

-- it waits, and is the next that is given room
pub record IsNext (conns : Slab Conn) (at : ℕ) : Type 0 where
  pub since : ℕ
  pub waits : WaitsSince (get conns at) since
  pub first : (other later : ℕ) → WaitsSince (get conns other) later → since ≤ later

-- another one is next
abbrev pub IsAnotherNext : Slab Conn → ℕ → Type 0
IsAnotherNext conns at = (other : ℕ) × (other ≢ at) × IsNext conns other

-- a text has to be made for the request that these bytes end, for which there is no room, or
-- another one is next
unfoldable pub LacksRoom : Screens → Answering → List ℕ → Keyed → List ℕ → Type 0
LacksRoom screens answering contest keyed piece =
    TellsTextAt screens.hub.broadcast contest answering.mirror.node answering.framing
    answering.opening piece (seat_at screens.hub.seats.slab keyed.key) true
    × (HasRoom screens → IsAnotherNext screens.conns keyed.at)

-- a commit of so many bytes was made since so many long ones had been made
abbrev pub WasMade : Hub → Option (ℕ × ℕ) → Type 0
WasMade hub None = ⊥
WasMade hub (Some (length, made)) =
    list_any (is_since made length) hub.frames.kept.items ≡ true

-- it waits for a commit that perhaps another screen has by now, and its socket may take that
abbrev pub MayShare : Hub → Option Conn → Type 0
MayShare hub None = ⊥
MayShare hub (Some conn) = (conn.is_blocked ≡ false) × WasMade hub (wanted_commit conn.wait)

-- there is more to write to it, for which no event comes
abbrev pub HasMoreToWrite : Option Conn → Type 0
HasMoreToWrite None = ⊥
HasMoreToWrite (Some conn) = conn.has_more ≡ true

-- the connection at a place is to be served now, though no event came for it
abbrev pub HasMoreAt : Screens → Bool → ℕ → ℕ → ℕ → Type 0
HasMoreAt screens held hold now at =
    IsToBeRead (get screens.conns at) held hold now
    ⊎ (MayShare screens.hub (get screens.conns at) ⊎ HasMoreToWrite (get screens.conns at))

-- At the rate at which it took its text so far, it would need more than a minute for all of it. Of
-- the first two seconds nothing is said.
abbrev pub TakesSlowly : Conn → ℕ → Type 0
TakesSlowly conn now =
    (2000 ≤ now - conn.owed_since)
    × (min (conn.took * 60000) (2 ^ 64 - 1)
    < min (conn.owes * (now - conn.owed_since)) (2 ^ 64 - 1))

-- so it is with the connection
abbrev pub IsSlow : Option Conn → ℕ → Type 0
IsSlow None now = ⊥
IsSlow (Some conn) now = TakesSlowly conn now

-- so it is with a connection that has yet to take a text that counts as pending
abbrev pub HoldsUp : Screens → ℕ → ℕ → Type 0
HoldsUp screens at now =
    (owed_text_at screens.pending.places.items at ≢ None) × IsSlow (get screens.conns at) now

-- Whoever is at this place was refused, and has no key from here on, unless nothing changed. All
-- others stay, and so do their seats.
pub record RefusesAt (old new : Screens) (at : ℕ) : Type 0 where
  pub others : (other : ℕ) → other ≢ at → get new.conns other ≡ get old.conns other
  pub seats : (key : Key) → key_at old.conns at ≢ Some (Some key)
      → seat_at new.hub.seats.slab key ≡ seat_at old.hub.seats.slab key
  pub here : (get new.conns at ≡ get old.conns at)
      ⊎ ((key : Key) → key_at new.conns at ≢ Some (Some key))

-- nobody was, or whoever is at this place was, which has waited for long enough
abbrev pub RefusesOne : Screens → Screens → ℕ → ℕ → Type 0
RefusesOne old new at now =
    (new ≡ old) ⊎ (IsOverdue (get old.conns at) now × RefusesAt old new at)

-- what is to be done in this turn and the next one stays, and so do the connections and what they
-- have yet to take
pub record SameToDo (old new : Screens) : Type 0 where
  pub has_more : new.has_more ≡ old.has_more
  pub is_waited : new.is_waited ≡ old.is_waited
  pub is_waited_for : new.is_waited_for ≡ old.is_waited_for
  pub accept_at : new.accept_at ≡ old.accept_at
  pub made : new.made ≡ old.made
  pub conns : new.conns ≡ old.conns
  pub pending : new.pending ≡ old.pending

-- what was noted is noted still: that somebody has more to read or to write, that somebody may wait
-- for room, and that somebody waits to be taken
pub record StaysNoted (old new : Screens) : Type 0 where
  pub has_more : old.has_more ≡ true → new.has_more ≡ true
  pub is_waited : old.is_waited ≡ true → new.is_waited ≡ true
  pub is_waited_for : old.is_waited_for ≡ true → new.is_waited_for ≡ true

-- The connection of a screen that got this: it waits no more, and has that to take; or it waits for
-- that, while it catches up.
abbrev pub IsMarkedFor : Refill → Hub → Key → ℕ → Option Conn → Option Conn → Type 0
IsMarkedFor (Goes number) hub key now old new =
    new ≡ option_map (refilled number (prefix_at hub key) now) old
IsMarkedFor (Waits length) hub key now old new =
    (IsWatcher (λ s. IsCatchingUp s.way) (seat_at hub.seats.slab key)
    → new ≡ option_map (waiting_for (Commit length hub.frames.next) now) old)
    × (¬ (IsWatcher (λ s. IsCatchingUp s.way) (seat_at hub.seats.slab key))
    → new ≡ option_map waiting_no_more old)

-- a screen got what comes next, or waits for it, and its connection is marked so
pub record MarksWhatCame (old new : Screens) (node : NodeState) (now : ℕ) (keyed : Keyed)
    : Type 0 where
  pub got : Refill
  pub has_room : Bool
  pub next : Watched (Refills old.hub.broadcast node has_room now got)
      (seat_at old.hub.seats.slab keyed.key) (seat_at new.hub.seats.slab keyed.key)
  pub marked : IsMarkedFor got new.hub keyed.key now (get old.conns keyed.at)
      (get new.conns keyed.at)

-- no more is made in this turn for those who catch up: 16 MiB were
abbrev pub HasMadeMost : Screens → Type 0
HasMadeMost screens = 16777216 ≤ screens.made

-- each socket took all that it was given last
abbrev pub AreReady : Slab Conn → Type 0
AreReady conns = (at : ℕ) → IfSome (get conns at) (λ conn. conn.is_blocked ≡ false)

-- something waits to be said, and its time has come; or all took what was said before, and memory
-- did not run out
abbrev pub MaySay : Screens → ℕ → Type 0
MaySay screens now =
    (at : ℕ) × (screens.saying.waits ≡ Some at)
    × ((at ≤ now) ⊎ ((screens.saying.is_short ≡ false) × AreReady screens.conns))

-- nobody is taken for now, but at a later time; or time is at its end
abbrev pub TakesNobody : Screens → ℕ → Type 0
TakesNobody screens now = (now < screens.accept_at) ⊎ (now ≡ 2 ^ 64 - 1)
