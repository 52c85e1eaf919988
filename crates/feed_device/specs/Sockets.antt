-- The sockets of screens, each at a number.
use Rattle.std.specs.Prelude.{◌≡◌, ◌≢◌, ℕ, List, [], ◌∷◌, ◌++◌, take, Option, Some, None, option_map, Result, MatchResult}

-- what went over one connection: the bytes that were read from it, and those that were written to
-- it
pub record Traffic : Type 0 where
  pub came : List ℕ
  pub written : List ℕ

-- What is known of a number: what went over each connection there that is over, the latest one
-- first; and over the one that is open, where one is.
pub record Socket : Type 0 where
  pub former : List Traffic
  pub current : Option Traffic

-- the socket at each number, where it is known
abbrev pub AllSockets : Type 0
AllSockets = ℕ → Option Socket

-- one is open, over which this came and went
abbrev pub opened : List ℕ → List ℕ → Option Traffic
opened came written = Some (record { came = came; written = written })

-- none is
abbrev pub closed : Option Traffic
closed = None

-- the connection at a number is so, where that is known
abbrev pub IsSocket : Option Socket → Option Traffic → Type 0
IsSocket None current = Unit {0}
IsSocket (Some known) current = known.current ≡ current

-- nothing was ever at this number, where that is known
abbrev pub IsUnused : Option Socket → Type 0
IsUnused None = Unit {0}
IsUnused (Some known) = known ≡ record { former = []; current = closed }

-- ---- what becomes of them

abbrev pub with_current : Option Traffic → List Traffic → List Traffic
with_current None former = former
with_current (Some current) former = current ∷ former

-- what went over each connection so far, the latest one first
abbrev pub traffic_of : Socket → List Traffic
traffic_of socket = with_current socket.current socket.former

-- the connections that are over
abbrev pub former_of : Option Socket → Option (List Traffic)
former_of socket = option_map (λ known. known.former) socket

-- there is this connection now, or none; one that was open is over
abbrev pub goes_on_with : Option Traffic → Option Socket → Option Socket
goes_on_with current socket =
    option_map (λ known. record { former = traffic_of known; current = current }) socket

-- these bytes more came
abbrev pub came_to : List ℕ → Traffic → Traffic
came_to bytes traffic = record { came = traffic.came ++ bytes; written = traffic.written }

-- these bytes more were written
abbrev pub written_to : List ℕ → Traffic → Traffic
written_to bytes traffic = record { came = traffic.came; written = traffic.written ++ bytes }

abbrev pub on_current : (Traffic → Traffic) → Option Socket → Option Socket
on_current becomes socket =
    option_map (λ
    known. record { former = known.former; current = option_map becomes known.current })
    socket

-- a connection was taken, over which nothing went, or none was
abbrev pub IsAccept : {A E : Type 0} → Option Socket → Option Socket → Result A E → Type 0
IsAccept old new result =
    MatchResult result (λ _. new ≡ goes_on_with (opened [] []) old) (λ _. new ≡ old)

-- a read gave so many of these bytes, from the first on, or it gave nothing
abbrev pub GivesBytes : {E : Type 0} → Option Socket → Option Socket → Result ℕ E → List ℕ → Type 0
GivesBytes old new result bytes =
    MatchResult result (λ count. new ≡ on_current (came_to (take count bytes)) old) (λ _. new ≡ old)

-- a write of these bytes took so many of them, from the first on, or it took nothing
abbrev pub IsWrite : {E : Type 0} → Option Socket → Option Socket → Result ℕ E → List ℕ → Type 0
IsWrite old new result bytes =
    MatchResult result (λ count. new ≡ on_current (written_to (take count bytes)) old)
    (λ _. new ≡ old)

-- nothing is done to any socket
abbrev pub SameSockets : AllSockets → AllSockets → Type 0
SameSockets old new = (at : ℕ) → new at ≡ old at

-- nothing is done to any socket but the one at this number
abbrev pub OtherSockets : AllSockets → AllSockets → ℕ → Type 0
OtherSockets old new at = (other : ℕ) → other ≢ at → new other ≡ old other
