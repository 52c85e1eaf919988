-- Connections, each at a key that is given once.
use Rattle.std.specs.Prelude.{◌≡◌, ◌≢◌, ◌⊎◌, ℕ, ◌<◌, ◌≤◌, ◌==◌, List, [], Option, Some, None, if◌then◌else◌}
use Rattle.slab.specs.Slab.{Slab, get, HasRoomFor}
use Rattle.feed_settings.specs.declared.framing.Framing.{Framing}
use Rattle.feed_hub.specs.declared.screen.Screen.{Screen}
use Rattle.feed_hub.specs.declared.screen.Way.TheVariants.{OnLog, Over}
use Rattle.feed_hub.specs.declared.seats.Key.{Key}
use Rattle.feed_hub.specs.declared.seats.Seat.{Seat}
use Rattle.feed_hub.specs.declared.seats.Seat.TheVariants.{Asks, Watches}
use Rattle.feed_hub.specs.declared.seats.Seated.{Seated}
use Rattle.feed_hub.specs.Backlog.{Backlog, Has}
use Rattle.feed_hub.specs.Screen.{IsSentFrom, IsNotBehind, IsMoving}
use Rattle.feed_hub.specs.Steps.{ended, TakesFromLog}

-- what sits there, if it is of this generation
abbrev pub of_generation : ℕ → Option Seated → Option Seat
of_generation generation None = None
of_generation generation (Some seated) =
    if seated.generation == generation then Some seated.seat else None

-- what sits at a key: nothing, where that is the key of a connection that is gone
abbrev pub seat_at : Slab Seated → Key → Option Seat
seat_at seats key = of_generation key.generation (get seats key.index)

-- each key that was given is of a generation below this one
abbrev pub AreBelow : ℕ → Slab Seated → Type 0
AreBelow next seats =
    (index : ℕ) (seated : Seated) → get seats index ≡ Some seated → seated.generation < next

-- so it is for each screen on the log
abbrev pub AreOnLog : Framing → Option (List ℕ) → Backlog → Slab Seated → Type 0
AreOnLog common told log seats = (key : Key) (s : Screen) (at : ℕ)
    → seat_at seats key ≡ Some (Watches s) → s.way ≡ OnLog at
    → IsSentFrom common told log s.framing at

-- no other key's seat changed
abbrev pub Others : Slab Seated → Slab Seated → Key → Type 0
Others old new key = (other : Key) → other ≢ key → seat_at new other ≡ seat_at old other

-- the key has this, and no other key's seat changed
pub record ChangesSeat (old new : Slab Seated) (key : Key) (seat : Option Seat) : Type 0 where
  pub changed : seat_at new key ≡ seat
  pub others : Others old new key

-- each key has what it had
abbrev pub SameSeats : Slab Seated → Slab Seated → Type 0
SameSeats old new = (key : Key) → seat_at new key ≡ seat_at old key

-- what sat at the key was taken out last, and can be put back
pub record IsVacant (next : ℕ) (seats : Slab Seated) (key : Key) : Type 0 where
  pub room : HasRoomFor seats 1
  pub vacant : seats.vacant_key ≡ key.index
  pub given : key.generation < next

-- what a screen becomes stands in this relation to what it was; nothing else becomes anything
abbrev pub Watched : (Screen → Screen → Type 0) → Option Seat → Option Seat → Type 0
Watched Becomes None new = new ≡ None
Watched Becomes (Some (Asks asking)) new = new ≡ Some (Asks asking)
Watched Becomes (Some (Watches s)) new = (t : Screen) × (new ≡ Some (Watches t)) × Becomes s t

-- a screen sits there of which this holds
abbrev pub IsWatcher : (Screen → Type 0) → Option Seat → Type 0
IsWatcher Holds None = ⊥
IsWatcher Holds (Some (Asks asking)) = ⊥
IsWatcher Holds (Some (Watches s)) = Holds s

-- just those stay of whom this holds
pub record KeepsThose (Holds : Seat → Type 0) (old new : Slab Seated) : Type 0 where
  pub kept : (key : Key) (seat : Seat) → seat_at new key ≡ Some seat
      → (seat_at old key ≡ Some seat) × Holds seat
  pub stays : (key : Key) (seat : Seat) → seat_at old key ≡ Some seat → Holds seat
      → seat_at new key ≡ Some seat

-- ---- who is cut

-- what sits here is not further back than this place of the log
abbrev pub IsSeatNotBehind : ℕ → Seat → Type 0
IsSeatNotBehind place (Asks asking) = Unit {0}
IsSeatNotBehind place (Watches s) = IsNotBehind place s.way

-- a request that still has time; or a screen that takes the bytes that it has of its own
abbrev pub IsOnTime : ℕ → ℕ → ℕ → Seat → Type 0
IsOnTime now stall mark (Asks asking) = now < asking.until
IsOnTime now stall mark (Watches s) = IsMoving now stall mark s

-- ---- what of the log is needed

-- the place of the screen on the log that is furthest back, and this end where nobody is on it
pub record IsLeastPlace (seats : Slab Seated) (end least : ℕ) : Type 0 where
  pub all : (key : Key) (seat : Seat) → seat_at seats key ≡ Some seat
      → IsSeatNotBehind least seat
  pub within : least ≤ end
  pub needed : (least ≡ end) ⊎ ((key : Key) × (s : Screen)
      × (seat_at seats key ≡ Some (Watches s)) × (s.way ≡ OnLog least))

-- ---- whose body ends

-- the log has what each screen on it is to be sent
abbrev pub HasWhatIsDue : Backlog → Slab Seated → Type 0
HasWhatIsDue log seats = (key : Key) (s : Screen) (at : ℕ)
    → seat_at seats key ≡ Some (Watches s) → s.way ≡ OnLog at → Has log at

-- a screen is sent what it has, what the log has for it and the end of the body, and no more
abbrev pub EndsSeat : Backlog → Option (List ℕ) → ℕ → Option Seat → Option Seat → Type 0
EndsSeat log told now old new = Watched (λ s t. t ≡ ended log told now s) old new

-- a screen whose body hadn't ended sat at this key, and is cut
pub record IsCut (old new : Slab Seated) (key : Key) : Type 0 where
  pub screen : Screen
  pub sat : seat_at old key ≡ Some (Watches screen)
  pub follows_log : TakesFromLog screen
  pub cut : seat_at new key ≡ None

abbrev pub IsSomeCut : Slab Seated → Slab Seated → Type 0
IsSomeCut old new = (key : Key) × IsCut old new key

-- so it was at this index
pub record CutsSeat (old new : Slab Seated) (index : ℕ) : Type 0 where
  pub some : (key : Key) × ((key.index ≡ index) × IsCut old new key)
  pub all : (key : Key) → key.index ≡ index → seat_at new key ≡ None

-- ---- what sits at a key

abbrev pub IsAskingSeat : Option Seat → Type 0
IsAskingSeat None = ⊥
IsAskingSeat (Some (Asks asking)) = Unit {0}
IsAskingSeat (Some (Watches s)) = ⊥

abbrev pub IsOverSeat : Option Seat → Type 0
IsOverSeat None = ⊥
IsOverSeat (Some (Asks asking)) = ⊥
IsOverSeat (Some (Watches s)) = (s.own ≡ []) × (s.way ≡ Over)
