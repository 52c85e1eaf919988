-- What calls leave known: what went over each connection, and how often devices were called.
use Rattle.std.specs.Prelude.{ℕ, suc, Bool, true, false, ◌==◌, ◌&&◌, cond, List, [], ◌∷◌, take, Option, Some, option_map, Ok}
use Rattle.feed_device.specs.Calls.{LinkCalls}
use Rattle.feed_device.specs.Links.{Exchange, one_more, asked_more, received_more, shown_so, once_at, all_from}
use Rattle.feed_device.specs.Sockets.{Socket, Traffic, closed as none, opened, traffic_of, came_to, written_to}
use Rattle.feed_ledger.specs.Entries.{Entry, accepted, read, wrote, closed, begun, looked, shown_once, shown_all}

-- ---- sockets

-- a call was about this number
abbrev pub is_at : ℕ → Entry → Bool
is_at at (accepted number was_taken) = number == at
is_at at (read number answer bytes) = number == at
is_at at (wrote number answer bytes) = number == at
is_at at (closed number) = number == at
is_at at other = false

-- another connection is there, or none
abbrev pub replaced : Option Traffic → Socket → Socket
replaced current socket = record { former = traffic_of socket; current = current }

-- more went over the one that is there
abbrev pub went_on : (Traffic → Traffic) → Socket → Socket
went_on becomes socket =
    record { former = socket.former; current = option_map becomes socket.current }

-- what a call made of the socket at its number
abbrev pub becomes : Entry → Socket → Socket
becomes (accepted at true) socket = replaced (opened [] []) socket
becomes (read at (Ok count) bytes) socket = went_on (came_to (take count bytes)) socket
becomes (wrote at (Ok count) bytes) socket = went_on (written_to (take count bytes)) socket
becomes (closed at) socket = replaced none socket
becomes other socket = socket

-- what went over the connections at a number
abbrev pub socket_in : ℕ → List Entry → Socket
socket_in at [] = record { former = []; current = none }
socket_in at (entry ∷ before) =
    cond (is_at at entry) (becomes entry (socket_in at before)) (socket_in at before)

abbrev pub is_write : Entry → Bool
is_write (wrote at answer bytes) = true
is_write other = false

abbrev pub is_read : Entry → Bool
is_read (read at answer bytes) = true
is_read other = false

-- how many calls about a number were such
abbrev pub count_at : (Entry → Bool) → ℕ → List Entry → ℕ
count_at is_such at [] = 0
count_at is_such at (entry ∷ before) =
    cond (is_at at entry && is_such entry) (suc (count_at is_such at before))
    (count_at is_such at before)

-- how often a connection was asked for
abbrev pub asked_in : List Entry → ℕ
asked_in [] = 0
asked_in (accepted at was_taken ∷ before) = suc (asked_in before)
asked_in (other ∷ before) = asked_in before

-- ---- the connection to a server

-- what a call made of the connections to servers
abbrev pub exchanged : Entry → List Exchange → List Exchange
exchanged (begun server true) all = one_more server all
exchanged (read at (Ok count) bytes) all = received_more (take count bytes) all
exchanged (wrote at (Ok count) bytes) all = asked_more (take count bytes) all
exchanged (shown_once unread) all = shown_so once_at unread all
exchanged (shown_all unread) all = shown_so all_from unread all
exchanged other all = all

-- what went over each connection that was begun, the latest first
abbrev pub exchanges_in : List Entry → List Exchange
exchanges_in [] = []
exchanges_in (entry ∷ before) = exchanged entry (exchanges_in before)

-- one more call was made
abbrev pub with_call : Entry → LinkCalls → LinkCalls
with_call (begun server was_begun) calls =
    record calls { begun = option_map (λ count. suc count) calls.begun }
with_call (looked answer) calls =
    record calls { looked = option_map (λ all. answer ∷ all) calls.looked }
with_call (read at answer bytes) calls =
    record calls { read = option_map (λ all. answer ∷ all) calls.read }
with_call (wrote at answer bytes) calls =
    record calls { written = option_map (λ all. answer ∷ all) calls.written }
with_call other calls = calls

-- how often one was begun, and what each other call answered, the latest first
abbrev pub link_calls_in : List Entry → LinkCalls
link_calls_in [] =
    record { begun = Some 0; looked = Some []; read = Some []; written = Some [] }
link_calls_in (entry ∷ before) = with_call entry (link_calls_in before)
