-- What each event does to a world, and the reply. An event has one reply, but where memory ran out.
use Rattle.std.specs.Prelude.{◌≡◌, ◌≢◌, ◌⊎◌, ℕ, ◌+◌, ◌-◌, ◌<◌, ◌≤◌, Bool, true, false, ◌&&◌, List, [], ◌∷◌, ◌++◌, length, Option, Some, None, option_map, is_some, Result, Ok, Err, min, if◌then◌else◌, nat_lt, nat_le, ◌==◌, IsSome, IsTrue}
use Rattle.feed_settings.specs.Limits.{History}
use Rattle.feed_settings.specs.declared.framing.Framing.{Framing}
use Rattle.feed_changes.specs.declared.change.Change.{Change}
use Rattle.feed_node.specs.declared.primary.CommitFault.{CommitFault}
use Rattle.feed_node.specs.declared.primary.CommitFault.TheVariants.{Memory as CommitMemory}
use Rattle.feed_node.specs.declared.fault.FeedFault.TheVariants.{Memory as FeedMemory}
use Rattle.feed_follow.specs.declared.fault.FollowFault.{FollowFault}
use Rattle.feed_follow.specs.declared.fault.FollowFault.TheVariants.{Feed, Memory as FollowMemory}
use Rattle.feed_node.specs.declared.session.Pulled.{Pulled}
use Rattle.feed_node.specs.declared.session.Pulled.TheVariants.{More, UpToDate, Gone}
use Rattle.feed_node.specs.Log.{PrimaryState, token_after, early_fault, commit_fault}
use Rattle.feed_world.specs.declared.event.Event.{Event}
use Rattle.feed_world.specs.declared.event.Event.TheVariants.{Commit as DoCommit, Connect, Serve, Idle, Deliver, Cut as DoCut, Save, Restart}
use Rattle.feed_world.specs.declared.event.Reply.{Reply}
use Rattle.feed_world.specs.declared.event.Reply.TheVariants.{Committed, Opened, Refused, NotYet, Sent, Idled, Delivered, Broke, Cut, Saved, Restarted}
use Rattle.feed_world.specs.declared.event.WorldFault.{WorldFault}
use Rattle.feed_world.specs.declared.event.WorldFault.TheVariants.{NoNode, NoConnection, Commit as CommitRefused, Memory}
use Rattle.feed_world.specs.Connection.{Part, Commit, Line_feed, Connection, bytes_sent, blocks_between, moved_by, count_new, first_parts}
use Rattle.feed_world.specs.Log.{Log, numbered, state_text}
use Rattle.feed_world.specs.Position.{Position, node_at, renewed}
use Rattle.feed_world.specs.World.{Mirror, World, is_other, mirror_at, with_mirror, place_at, saved_text}

-- a reply and the world after it, or why the event is refused
abbrev pub Outcome : Type 0
Outcome = Result (Reply × World) WorldFault

-- a reply and the mirror after it
abbrev pub Move : Type 0
Move = Reply × Mirror

-- ---- Commit: the log gains the changes, unless the primary refuses them

abbrev pub primary_of : World → PrimaryState
primary_of world =
    record {
      limits = world.limits;
      count = world.primary.at;
      node = node_at (numbered world.log) world.primary;
    }

abbrev pub committed : World → List Change → World
committed world changes =
    record {
      limits = world.limits;
      framing = world.framing;
      log = world.log ++ changes ∷ [];
      primary = renewed world.limits.history (numbered (world.log ++ changes ∷ []))
          (world.primary.at + 1)
          world.primary.low;
      mirrors = world.mirrors;
    }

abbrev pub commits_unless : World → List Change → Option CommitFault → Outcome
commits_unless world changes (Some fault) = Err (CommitRefused fault)
commits_unless world changes None =
    Ok (Committed (token_after (world.primary.at + 1)), committed world changes)

abbrev pub commits : World → List Change → Outcome
commits world changes = commits_unless world changes (commit_fault (primary_of world) changes)

-- ---- Connect: to another node. Where that holds the mirror's token, a connection behind it, or
-- behind a token so many places before; else the token is refused. Without a token, or once it was
-- refused, a fresh connection.

-- the mirror, which turns to this node
abbrev pub turned_to : ℕ → Mirror → Mirror
turned_to j mirror = record mirror { upstream = j }

-- the mirror with this connection, or none
abbrev pub linked : Mirror → Option Connection → Mirror
linked mirror connection = record mirror { connection = connection }

-- the mirror whose token was refused
abbrev pub refused : Mirror → Mirror
refused mirror = record mirror { afresh = true; connection = None }

-- a connection on which nothing was delivered
abbrev pub new_connection : Framing → Bool → ℕ → Connection
new_connection framing fresh start =
    record {
      framing = framing;
      fresh = fresh;
      start = start;
      parts = first_parts fresh start;
      delivered = 0;
      last = start;
      over = false;
    }

abbrev pub opens : Framing → Mirror → Bool → ℕ → Move
opens framing mirror fresh start =
    (Opened, linked mirror (Some (new_connection framing fresh start)))

abbrev pub holds_number : Position → ℕ → Bool
holds_number server k = nat_le server.low k && nat_le k server.at

-- the number so many places before a mirror's own; no further than both nodes hold tokens
abbrev pub start_before : ℕ → Position → Position → ℕ
start_before back server own = own.at - min back (min (own.at - own.low) (own.at - server.low))

abbrev pub connects_behind : Framing → Mirror → Position → Position → ℕ → Move
connects_behind framing mirror server own back =
    if holds_number server own.at then opens framing mirror false (start_before back server own)
    else (Refused, refused mirror)

abbrev pub connects_to : Framing → Mirror → Position → Option Position → ℕ → Move
connects_to framing mirror server None back = opens framing mirror true server.at
connects_to framing mirror server (Some own) back =
    if mirror.afresh then opens framing mirror true server.at
    else connects_behind framing mirror server own back

-- to a server that is at this place
abbrev pub connects : Framing → Mirror → Option Position → ℕ → Move
connects framing mirror None back = (NotYet, linked mirror None)
connects framing mirror (Some server) back =
    connects_to framing mirror server mirror.place back

-- the reply to a connect that opens nothing
abbrev pub IsRefusal : Reply → Type 0
IsRefusal Refused = Unit {0}
IsRefusal NotYet = Unit {0}
IsRefusal reply = ⊥

-- ---- Serve: the commit after the last one, where the server holds its token; else nothing more
-- comes, and the body is not ended, either

abbrev pub with_more : Connection → Connection
with_more c = record c { parts = c.parts ++ Commit (c.last + 1) ∷ []; last = c.last + 1 }

abbrev pub ended : Connection → Connection
ended c = record c { over = true }

abbrev pub serves_behind : Connection → Position → Pulled × Connection
serves_behind c server =
    if c.last == server.at then (UpToDate, c)
    else (if nat_le server.low c.last && nat_lt c.last server.at then (More, with_more c)
    else (Gone, ended c))

abbrev pub serves_from : Connection → Option Position → Pulled × Connection
serves_from c None = (Gone, ended c)
serves_from c (Some server) = serves_behind c server

-- by a server that is at this place
abbrev pub serves : Connection → Option Position → Pulled × Connection
serves c server = if c.over then (Gone, c) else serves_from c server

-- ---- Idle: a line feed

abbrev pub with_line_feed : Connection → Connection
with_line_feed c = record c { parts = c.parts ++ Line_feed ∷ [] }

abbrev pub idles : Connection → Reply × Connection
idles c = if c.over then (Sent Gone, c) else (Idled, with_line_feed c)

-- ---- Deliver: the next n bytes, or all that remain

-- how many bytes are delivered then
abbrev pub reached : Log → Connection → ℕ → ℕ
reached log c n = min (c.delivered + n) (bytes_sent log c)

abbrev pub delivered_to : Connection → ℕ → Connection
delivered_to c e = record c { delivered = e }

-- the mirror to which its connection brought these blocks
abbrev pub brought : History → Log → Mirror → List Part → Option Connection → Mirror
brought history log mirror blocks connection =
    record mirror {
      place = moved_by history log mirror.place blocks;
      afresh = mirror.afresh && (length blocks == 0);
      connection = connection;
    }

-- the mirror after e of the bytes sent were delivered
abbrev pub brought_to : History → Log → Mirror → Connection → ℕ → Option Connection → Mirror
brought_to history log mirror c e connection =
    brought history log mirror (blocks_between log c c.delivered e) connection

abbrev pub delivers_up_to : History → Log → Mirror → Connection → ℕ → Move
delivers_up_to history log mirror c e = (
  Delivered (count_new history log mirror.place (blocks_between log c c.delivered e)),
  brought_to history log mirror c e
      (Some (delivered_to c e)),
)

abbrev pub delivers : History → Log → Mirror → Connection → ℕ → Move
delivers history log mirror c n = delivers_up_to history log mirror c (reached log c n)

-- ---- Save: the mirror's saved text becomes the snapshot of what it shows, and empty where it
-- shows nothing

abbrev pub number_at : Option Position → Option ℕ
number_at place = option_map (λ p. p.at) place

abbrev pub saves : Log → Mirror → Move
saves log mirror = (
  Saved (length (saved_text log (number_at mirror.place))),
  record mirror { saved = number_at mirror.place },
)

-- ---- Restart: the mirror has read the first n bytes of its saved text, or all of it, as a new one
-- does, and has no connection

-- the number of the state that they publish: that of the text where it came whole
abbrev pub restored : Log → Option ℕ → ℕ → Option ℕ
restored log None n = None
restored log (Some k) n = if nat_le (length (state_text log k)) n then Some k else None

-- where a node is that has published the state of this number anew
abbrev pub anew_at : Option ℕ → Option Position
anew_at number = option_map (λ k. record { at = k; low = k }) number

abbrev pub restarts_at : Mirror → Option ℕ → Move
restarts_at mirror number = (
  Restarted (is_some number),
  record mirror { place = anew_at number; afresh = false; connection = None },
)

abbrev pub restarts : Log → ℕ → Mirror → Move
restarts log n mirror = restarts_at mirror (restored log mirror.saved n)

-- ---- all events

-- what is done with a mirror's connection
abbrev pub with_connection : Option Connection → (Connection → Move) → Result Move WorldFault
with_connection None act = Err NoConnection
with_connection (Some c) act = Ok (act c)

abbrev pub mirror_connects : Framing → ℕ → ℕ → Mirror → Option Position → Result Move WorldFault
mirror_connects framing j back mirror server =
    Ok (connects framing (turned_to j mirror) server back)

abbrev pub mirror_serves : Mirror → Option Position → Result Move WorldFault
mirror_serves mirror server =
    with_connection mirror.connection (λ c. let served = serves c server in
    (Sent served.0, linked mirror (Some served.1)))

abbrev pub mirror_idles : Mirror → Result Move WorldFault
mirror_idles mirror =
    with_connection mirror.connection (λ c. let idled = idles c in (
      idled.0,
      linked mirror
          (Some idled.1),
    ))

abbrev pub mirror_delivers : History → Log → ℕ → Mirror → Result Move WorldFault
mirror_delivers history log n mirror =
    with_connection mirror.connection (λ c. delivers history log mirror c n)

abbrev pub mirror_cuts : Mirror → Result Move WorldFault
mirror_cuts mirror = with_connection mirror.connection (λ c. (Cut, linked mirror None))

abbrev pub mirror_saves : Log → Mirror → Result Move WorldFault
mirror_saves log mirror = Ok (saves log mirror)

abbrev pub mirror_restarts : Log → ℕ → Mirror → Result Move WorldFault
mirror_restarts log n mirror = Ok (restarts log n mirror)

-- the world with the mirror after its move
abbrev pub after_move : World → ℕ → Result Move WorldFault → Outcome
after_move world i (Err fault) = Err fault
after_move world i (Ok move) = Ok (move.0, with_mirror world i move.1)

-- what is done with the mirror of this number
abbrev pub with_node : World → ℕ → Option Mirror → (Mirror → Result Move WorldFault) → Outcome
with_node world i None act = Err NoNode
with_node world i (Some mirror) act = after_move world i (act mirror)

abbrev pub at_node : World → ℕ → (Mirror → Result Move WorldFault) → Outcome
at_node world i act = with_node world i (mirror_at world i) act

-- the reply to an event and the world after it, where memory suffices
abbrev pub outcome : World → Event → Outcome
outcome world (DoCommit changes) = commits world changes
outcome world (Connect i j back) =
    if is_other world i j
    then at_node world i (λ mirror. mirror_connects world.framing j back mirror (place_at world j))
    else Err NoNode
outcome world (Serve i) =
    at_node world i (λ mirror. mirror_serves mirror (place_at world mirror.upstream))
outcome world (Idle i) = at_node world i mirror_idles
outcome world (Deliver i n) =
    at_node world i (mirror_delivers world.limits.history (numbered world.log) n)
outcome world (DoCut i) = at_node world i mirror_cuts
outcome world (Save i) = at_node world i (mirror_saves (numbered world.log))
outcome world (Restart i n) = at_node world i (mirror_restarts (numbered world.log) n)

-- The connection broke for want of memory, with bytes to deliver: some of them count, and the
-- connection is gone.
pub record Breaks (old : World) (i n : ℕ) (new : World) : Type 0 where
  pub mirror : Mirror
  pub connection : Connection
  pub is_there : mirror_at old i ≡ Some mirror
  pub is_linked : mirror.connection ≡ Some connection
  pub some : connection.delivered < reached (numbered old.log) connection n
  pub e : ℕ
  pub from : connection.delivered ≤ e
  pub to : e ≤ reached (numbered old.log) connection n
  pub after : new ≡ with_mirror old i
      (brought_to old.limits.history (numbered old.log) mirror connection e None)

-- The answer refused a connection, and memory ran out while the mirror read it: there is no
-- connection, and the mirror asks with what it asked with.
pub record BreaksRefusal (old : World) (i j back : ℕ) (new : World) : Type 0 where
  pub mirror : Mirror
  pub other : is_other old i j ≡ true
  pub is_there : mirror_at old i ≡ Some mirror
  pub refusal : IsRefusal
      (connects old.framing (turned_to j mirror) (place_at old j) back).0
  pub after : new ≡ with_mirror old i (linked (turned_to j mirror) None)

-- the fault is that memory ran out: in the head of a response, or in its body
abbrev pub IsForMemory : FollowFault → Type 0
IsForMemory FollowMemory = Unit {0}
IsForMemory (Feed FeedMemory) = Unit {0}
IsForMemory fault = ⊥

-- the reply is that the mirror's connection broke as memory ran out
abbrev pub BrokeForMemory : ℕ → Reply → Type 0
BrokeForMemory i reply = (fault : FollowFault) × (reply ≡ Broke i fault) × IsForMemory fault

-- the event was a delivery, and its connection broke; or a connect, and following the refusal broke
abbrev pub Broken : World → Event → Reply → World → Type 0
Broken old (Deliver i n) reply new = BrokeForMemory i reply × Breaks old i n new
Broken old (Connect i j back) reply new = BrokeForMemory i reply × BreaksRefusal old i j back new
Broken old event reply new = ⊥

-- From the old world the event may have this reply and lead to the new one: the outcome; or memory
-- ran out in a delivery, or while a mirror read a refusal.
abbrev pub Step : World → Event → Reply → World → Type 0
Step old event reply new = (outcome old event ≡ Ok (reply, new)) ⊎ Broken old event reply new

-- From the old world these events may have these replies, one after another, and lead to the new
-- one.
abbrev pub Run : World → List Event → List Reply → World → Type 0
Run old [] [] new = new ≡ old
Run old (event ∷ events) (reply ∷ replies) new =
    (mid : World) × Step old event reply mid × Run mid events replies new
Run old [] (reply ∷ replies) new = ⊥
Run old (event ∷ events) [] new = ⊥

abbrev pub is_free_reply : Reply → Bool
is_free_reply (Sent UpToDate) = true
is_free_reply (Sent Gone) = true
is_free_reply Cut = true
is_free_reply reply = false

-- an event at no node or no connection takes no memory, nor do a pull with nothing to send, and a
-- cut; a connect writes a request
abbrev pub is_free : Outcome → Bool
is_free (Err NoNode) = true
is_free (Err NoConnection) = true
is_free (Err fault) = false
is_free (Ok p) = is_free_reply p.0

-- nor does a commit that is refused before its tables are made
abbrev pub TakesNone : World → Event → Type 0
TakesNone world (DoCommit changes) = IsSome (early_fault (primary_of world) changes)
TakesNone world event = IsTrue (is_free (outcome world event))

-- An event is refused for lack of memory only where it takes memory. In a delivery, and while a
-- mirror reads a refusal, that breaks the connection, and refuses nothing.
abbrev pub LacksMemory : World → Event → WorldFault → Type 0
LacksMemory world (Deliver i n) fault = ⊥
LacksMemory world (DoCommit changes) fault =
    ((fault ≡ Memory) ⊎ (fault ≡ CommitRefused CommitMemory))
    × ¬ (TakesNone world (DoCommit changes))
LacksMemory world event fault = (fault ≡ Memory) × ¬ (TakesNone world event)

-- The event is refused in this world, for this fault: the outcome, or a want of memory.
abbrev pub EventIsRefused : World → Event → WorldFault → Type 0
EventIsRefused world event fault = (outcome world event ≡ Err fault) ⊎ LacksMemory world event fault

-- The first refused event ends the run, and those before it stand. The room for the replies may be
-- refused before the first event, where there is one.
abbrev pub RunUpTo : World → List Event → WorldFault → World → Type 0
RunUpTo old events fault new =
    ((fault ≡ Memory) × (events ≢ []) × (new ≡ old))
    ⊎ ((done : List Event) × (event : Event) × (later : List Event) × (replies : List Reply)
    × (events ≡ done ++ event ∷ later) × Run old done replies new × EventIsRefused new event fault)
