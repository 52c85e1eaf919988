-- How sockets stand, step by step.
use Rattle.std.proofs.Common.{◌≡◌, ◌≢◌, refl, sym, ap, ◌∙◌, subst, ℕ, ◌⊎◌, true, false, List, [], ◌++◌, Option, Some, None, inl, inr, ◌<◌, ◌≤◌, arith, take, drop, append-nil, append_assoc, suc, zero}
use Rattle.std.specs.Prelude.{Bool, ◌==◌, Contains, Result, Ok, Err, IfOk, OnOk, OnErr, IsErrAnd, IfSome, option_map, if◌then◌else◌}
use Rattle.std.specs.List.{AllByRecursion}
use Rattle.std.proofs.lemmas.Bool.Decides.{eqb_tells}
use Rattle.std.proofs.lemmas.List.{take-append-drop}
use Rattle.slab.specs.Slab.{Slab, get, Updates}
use Rattle.feed_node.specs.States.{NodeState}
use Rattle.feed_answer.specs.Answered.{AnswerParts}
use Rattle.feed_hub.specs.declared.asking.Asking.{Asking}
use Rattle.feed_hub.specs.declared.hub.Hub.{Hub}
use Rattle.feed_hub.specs.declared.screen.Screen.{Screen}
use Rattle.feed_hub.specs.declared.seats.Key.{Key}
use Rattle.feed_hub.specs.declared.seats.Seat.{Seat}
use Rattle.feed_hub.specs.declared.seats.Seat.TheVariants.{Asks, Watches}
use Rattle.feed_hub.specs.Broadcast.{IsServedBy}
use Rattle.feed_hub.specs.declared.hub.Heard.{Heard}
use Rattle.feed_hub.specs.Hub.{IsSeated, IsStillSeated, ChangesOnly, prefix_of, prefix_at, IsAnsweredBy, HearsAt, HearsOf, HoldsAt}
use Rattle.feed_hub.specs.Backlog.{Backlog}
use Rattle.feed_hub.specs.Seats.{seat_at, Watched, KeepsThose, EndsSeat, IsCut, IsAskingSeat}
use Rattle.feed_hub.specs.Steps.{taken}
use Rattle.feed_hub.proofs.HubLemmas.{key_tells}
use Rattle.feed_screens.specs.declared.conn.Conn.{Conn}
use Rattle.feed_screens.specs.declared.screens.Screens.{Screens}
use Rattle.feed_screens.specs.declared.screens.Hearing.{Hearing}
use Rattle.feed_device.specs.Sockets.{Socket, Traffic, AllSockets, IsSocket, IsUnused, opened, closed, traffic_of, with_current, former_of, goes_on_with, came_to, written_to, on_current, GivesBytes, IsWrite, SameSockets, OtherSockets}
use Rattle.feed_screens.specs.Held.{answerer}
use Rattle.feed_screens.specs.Serving.{IsAnswerOf, WasServed, IsFaithful, WasFaithful, WereFaithful, nothing, refused, served, IsSent, Sits, asks, watches, cut, key_of, key_at, SocketStands, ServesScreens, SameKeys, LeavesSeat, keyless, IsGreeted, SameSeating, full_text, ServesBut, HearsSo, HearsSome, HearsAll}

-- ---- numbers and keys

pub number_tells : (a b : ℕ) → (a ≡ b) ⊎ (a ≢ b)
number_tells a b = by (eqb_tells a b)
  where
    by : (((a == b) ≡ true) × (a ≡ b)) ⊎ (((a == b) ≡ false) × (a ≢ b)) → (a ≡ b) ⊎ (a ≢ b)
    by (inl (_, same)) = inl same
    by (inr (_, differ)) = inr differ

-- ---- one socket

pub was_served : {nodes : List NodeState} {contest came : List ℕ} (hub : Hub) (key : Key) (answer : AnswerParts) (handed : List ℕ)
    → IsAnswerOf nodes contest came answer → IsSeated nodes hub key answer handed → WasServed nodes contest came handed
was_served hub key answer handed given seated =
    record {
      answer = answer;
      given = given;
      common = hub.broadcast.framing;
      lines = hub.broadcast.log;
      told = hub.broadcast.told;
      screen = seated.0;
      served = seated.2;
    }

-- whatever sits there, what was written is faithful
pub sent_of : {nodes : List NodeState} {contest : List ℕ} {hub : Hub} {key : Key} {socket : Option Socket} → Sits nodes contest hub key socket → IsSent nodes contest socket
sent_of (asks asking sits socket_is) = record { came = asking.head.items; bytes = []; socket_is = socket_is; faithful = nothing }
sent_of {hub = hub} {key = key} (watches came answer handed given seated socket_is) =
    record { came = came; bytes = handed; socket_is = socket_is; faithful = served handed (was_served hub key answer handed given seated) }
sent_of (cut none sent) = sent

-- the connection at this key stands as before, whatever socket it has
abbrev pub StillSits : List NodeState → List ℕ → Hub → Hub → Key → Type 0
StillSits nodes contest old new key = (socket : Option Socket) → Sits nodes contest old key socket → Sits nodes contest new key socket

-- what sits there stays, and is served as before, or is cut
pub record Stays (nodes : List NodeState) (old new : Hub) (key : Key) : Type 0 where
  pub gone : seat_at old.seats.slab key ≡ None → seat_at new.seats.slab key ≡ None
  pub asked : (asking : Asking) → seat_at old.seats.slab key ≡ Some (Asks asking) → (seat_at new.seats.slab key ≡ Some (Asks asking)) ⊎ (seat_at new.seats.slab key ≡ None)
  pub watched : (answer : AnswerParts) (handed : List ℕ) → IsSeated nodes old key answer handed → IsSeated nodes new key answer handed ⊎ (seat_at new.seats.slab key ≡ None)

pub still_sits : {nodes : List NodeState} (contest : List ℕ) {old new : Hub} {key : Key} → Stays nodes old new key → StillSits nodes contest old new key
still_sits {nodes} contest {old} {new} {key} stays socket (asks asking sits socket_is) = by (stays.asked asking sits)
  where
    by : (seat_at new.seats.slab key ≡ Some (Asks asking)) ⊎ (seat_at new.seats.slab key ≡ None) → Sits nodes contest new key socket
    by (inl sits_on) = asks asking sits_on socket_is
    by (inr none) = cut none (record { came = asking.head.items; bytes = []; socket_is = socket_is; faithful = nothing })
still_sits {nodes} contest {old} {new} {key} stays socket (watches came answer handed given seated socket_is) = by (stays.watched answer handed seated)
  where
    by : IsSeated nodes new key answer handed ⊎ (seat_at new.seats.slab key ≡ None) → Sits nodes contest new key socket
    by (inl seated_on) = watches came answer handed given seated_on socket_is
    by (inr none) = cut none (record { came = came; bytes = handed; socket_is = socket_is; faithful = served handed (was_served old key answer handed given seated) })
still_sits contest stays socket (cut none sent) = cut (stays.gone none) sent

-- nothing changed at a key
pub same_stays : (nodes : List NodeState) (old new : Hub) (key : Key) → seat_at new.seats.slab key ≡ seat_at old.seats.slab key → new.broadcast ≡ old.broadcast → Stays nodes old new key
same_stays nodes old new key seat broadcast =
    record {
      gone = λ none. seat ∙ none;
      asked = λ asking sits. inl (seat ∙ sits);
      watched = λ answer handed seated. inl (seated.0, seat ∙ seated.1, subst (λ b. IsServedBy nodes b answer handed seated.0) (sym broadcast) seated.2);
    }

-- so it is for each key but the one that changed
pub others_stay : (nodes : List NodeState) (old new : Hub) (key other : Key) → ChangesOnly old new key → other ≢ key → Stays nodes old new other
others_stay nodes old new key other changes differ = same_stays nodes old new other (changes.others other differ) changes.broadcast

-- and for each one, where what sat at that one stays
pub each_stays : (nodes : List NodeState) (old new : Hub) (key : Key) → ChangesOnly old new key → Stays nodes old new key → (other : Key) → Stays nodes old new other
each_stays nodes old new key changes stays other = by (key_tells other key)
  where
    by : (other ≡ key) ⊎ (other ≢ key) → Stays nodes old new other
    by (inl same) = subst (λ k. Stays nodes old new k) (sym same) stays
    by (inr differ) = others_stay nodes old new key other changes differ

-- ---- what the calls of the hub do

watched_gone : (Becomes : Screen → Screen → Type 0) (old new : Option Seat) → Watched Becomes old new → old ≡ None → new ≡ None
watched_gone Becomes old new w none = subst (λ o. Watched Becomes o new) none w

watched_asked : (Becomes : Screen → Screen → Type 0) (old new : Option Seat) (asking : Asking) → Watched Becomes old new → old ≡ Some (Asks asking) → new ≡ Some (Asks asking)
watched_asked Becomes old new asking w sits = subst (λ o. Watched Becomes o new) sits w

-- a screen became another, which is served as it was
pub watched_stays : (nodes : List NodeState) (old new : Hub) (key : Key) (Becomes : Screen → Screen → Type 0) → Watched Becomes (seat_at old.seats.slab key) (seat_at new.seats.slab key)
    → IsStillSeated nodes old new key → Stays nodes old new key
watched_stays nodes old new key Becomes w still =
    record {
      gone = λ none. watched_gone Becomes _ _ w none;
      asked = λ asking sits. inl (watched_asked Becomes _ _ asking w sits);
      watched = λ answer handed seated. inl (still answer handed seated);
    }

-- what sat there was cut
pub cut_stays : (nodes : List NodeState) (old new : Hub) (key : Key) → seat_at new.seats.slab key ≡ None → Stays nodes old new key
cut_stays nodes old new key none = record { gone = λ _. none; asked = λ _ _. inr none; watched = λ _ _ _. inr none }

-- ---- all numbers

stands_on : (nodes : List NodeState) (contest : List ℕ) (old new : Hub) (held : Option (Option Key)) (socket : Option Socket)
    → ((key : Key) → held ≡ Some (Some key) → StillSits nodes contest old new key) → SocketStands nodes contest old held socket → SocketStands nodes contest new held socket
stands_on nodes contest old new None socket still s = s
stands_on nodes contest old new (Some None) socket still s = s
stands_on nodes contest old new (Some (Some key)) socket still s = still key refl socket s

-- each connection stands as before
pub serving_on : {nodes : List NodeState} {contest : List ℕ} {old new : Hub} {conns : Slab Conn} {sockets : AllSockets}
    → ((key : Key) → StillSits nodes contest old new key) → old.seats.next ≤ new.seats.next → ServesScreens nodes contest old conns sockets → ServesScreens nodes contest new conns sockets
serving_on {nodes} {contest} {old} {new} {conns} {sockets} still next serving =
    record {
      each = λ at. stands_on nodes contest old new (key_at conns at) (sockets at) (λ key _. still key) (serving.each at);
      former = serving.former;
      one = serving.one;
      below = λ at key is. let under = serving.below at key is in omega arith;
    }

-- nothing changed that the sockets' bytes hang on
pub serving_same : {nodes : List NodeState} {contest : List ℕ} {old new : Hub} {conns conns_new : Slab Conn} {sockets sockets_new : AllSockets}
    → new ≡ old → SameKeys conns conns_new → SameSockets sockets sockets_new
    → ServesScreens nodes contest old conns sockets → ServesScreens nodes contest new conns_new sockets_new
serving_same {nodes} {contest} {old} {new} {conns} {conns_new} {sockets} {sockets_new} hub keys same serving =
    subst (λ h. ServesScreens nodes contest h conns_new sockets_new) (sym hub)
    (record {
      each = λ at. subst (λ k. SocketStands nodes contest old k (sockets_new at)) (sym (keys at))
          (subst (λ s. SocketStands nodes contest old (key_at conns at) s) (sym (same at)) (serving.each at));
      former = λ at. subst (WereFaithful nodes contest) (sym (same at)) (serving.former at);
      one = λ at other key is is_too. serving.one at other key (sym (keys at) ∙ is) (sym (keys other) ∙ is_too);
      below = λ at key is. serving.below at key (sym (keys at) ∙ is);
    })

-- One number changes: what stands there is given, and the others stand as before. A key that it
-- has now is nobody else's.
pub serving_at : {nodes : List NodeState} {contest : List ℕ} {old new : Hub} {conns conns_new : Slab Conn} {sockets sockets_new : AllSockets} (at : ℕ)
    → ((other : ℕ) → other ≢ at → key_at conns_new other ≡ key_at conns other) → OtherSockets sockets sockets_new at
    → ((other : ℕ) (key : Key) → other ≢ at → key_at conns other ≡ Some (Some key) → Stays nodes old new key)
    → old.seats.next ≤ new.seats.next
    → SocketStands nodes contest new (key_at conns_new at) (sockets_new at) → WereFaithful nodes contest (sockets_new at)
    → ((key : Key) → key_at conns_new at ≡ Some (Some key) → (key.generation < new.seats.next) × ((other : ℕ) → other ≢ at → key_at conns other ≢ Some (Some key)))
    → ServesScreens nodes contest old conns sockets → ServesScreens nodes contest new conns_new sockets_new
serving_at {nodes} {contest} {old} {new} {conns} {conns_new} {sockets} {sockets_new} at keys same stays next stands former own serving =
    record { each = λ other. each_at other (number_tells other at); former = λ other. former_at other (number_tells other at); one = λ a b key is is_too. one_at a b key is is_too (number_tells a at) (number_tells b at); below = λ other key is. below_at other key is (number_tells other at) }
  where
    each_at : (other : ℕ) → (other ≡ at) ⊎ (other ≢ at) → SocketStands nodes contest new (key_at conns_new other) (sockets_new other)
    each_at other (inl here) = subst (λ n. SocketStands nodes contest new (key_at conns_new n) (sockets_new n)) (sym here) stands
    each_at other (inr away) =
        subst (λ k. SocketStands nodes contest new k (sockets_new other)) (sym (keys other away))
        (subst (λ s. SocketStands nodes contest new (key_at conns other) s) (sym (same other away))
        (stands_on nodes contest old new (key_at conns other) (sockets other) (λ key is. still_sits contest (stays other key away is)) (serving.each other)))

    former_at : (other : ℕ) → (other ≡ at) ⊎ (other ≢ at) → WereFaithful nodes contest (sockets_new other)
    former_at other (inl here) = subst (λ n. WereFaithful nodes contest (sockets_new n)) (sym here) former
    former_at other (inr away) = subst (WereFaithful nodes contest) (sym (same other away)) (serving.former other)

    one_at : (a b : ℕ) (key : Key) → key_at conns_new a ≡ Some (Some key) → key_at conns_new b ≡ Some (Some key) → (a ≡ at) ⊎ (a ≢ at) → (b ≡ at) ⊎ (b ≢ at) → a ≡ b
    one_at a b key is is_too (inl here) (inl here_too) = here ∙ sym here_too
    one_at a b key is is_too (inl here) (inr away) = absurd ((own key (subst (λ n. key_at conns_new n ≡ Some (Some key)) here is)).1 b away (sym (keys b away) ∙ is_too))
    one_at a b key is is_too (inr away) (inl here) = absurd ((own key (subst (λ n. key_at conns_new n ≡ Some (Some key)) here is_too)).1 a away (sym (keys a away) ∙ is))
    one_at a b key is is_too (inr away) (inr away_too) = serving.one a b key (sym (keys a away) ∙ is) (sym (keys b away_too) ∙ is_too)

    below_at : (other : ℕ) (key : Key) → key_at conns_new other ≡ Some (Some key) → (other ≡ at) ⊎ (other ≢ at) → key.generation < new.seats.next
    below_at other key is (inl here) = (own key (subst (λ n. key_at conns_new n ≡ Some (Some key)) here is)).0
    below_at other key is (inr away) = let under = serving.below other key (sym (keys other away) ∙ is) in omega arith

-- another number's key is another key
pub apart : {nodes : List NodeState} {contest : List ℕ} {hub : Hub} {conns : Slab Conn} {sockets : AllSockets} → ServesScreens nodes contest hub conns sockets
    → (at other : ℕ) (key other_key : Key) → key_at conns at ≡ Some (Some key) → other ≢ at → key_at conns other ≡ Some (Some other_key) → other_key ≢ key
apart {conns = conns} serving at other key other_key is away is_too = λ same. away (serving.one other at key (subst (λ k. key_at conns other ≡ Some (Some k)) same is_too) is)

-- ---- bytes that come, and that are written

take_none : (count : ℕ) → let none : List ℕ = [] in take count none ≡ none
take_none zero = refl
take_none (suc n) = refl

-- the connections that are over stay as they were
pub former_same : (nodes : List NodeState) (contest : List ℕ) (before after : Option Socket) → former_of after ≡ former_of before → WereFaithful nodes contest before → WereFaithful nodes contest after
former_same nodes contest before after same were = subst (λ f. IfSome f (AllByRecursion (WasFaithful nodes contest))) (sym same) were

former_on : (becomes : Traffic → Traffic) (socket : Option Socket) → former_of (on_current becomes socket) ≡ former_of socket
former_on becomes None = refl
former_on becomes (Some known) = refl

pub former_becomes : (becomes : Traffic → Traffic) (before after : Option Socket) → after ≡ on_current becomes before → former_of after ≡ former_of before
former_becomes becomes before after is = ap former_of is ∙ former_on becomes before

on_socket : (becomes : Traffic → Traffic) (socket : Option Socket) (current : Option Traffic) → IsSocket socket current → IsSocket (on_current becomes socket) (option_map becomes current)
on_socket becomes None current is = tt
on_socket becomes (Some known) current is = ap (option_map becomes) is

pub more_came : (socket : Option Socket) (came written bytes : List ℕ) → IsSocket socket (opened came written) → IsSocket (on_current (came_to bytes) socket) (opened (came ++ bytes) written)
more_came socket came written bytes is = on_socket (came_to bytes) socket (opened came written) is

more_written : (socket : Option Socket) (came written bytes : List ℕ) → IsSocket socket (opened came written) → IsSocket (on_current (written_to bytes) socket) (opened came (written ++ bytes))
more_written socket came written bytes is = on_socket (written_to bytes) socket (opened came written) is

-- where there is nothing to write, nothing is written
nothing_more : (before after : Option Socket) (count : ℕ) (prefix came written : List ℕ) → prefix ≡ [] → after ≡ on_current (written_to (take count prefix)) before → IsSocket before (opened came written) → IsSocket after (opened came written)
nothing_more before after count prefix came written none after_is is =
    subst (λ s. IsSocket s (opened came written)) (sym after_is)
    (subst (λ p. IsSocket (on_current (written_to (take count p)) before) (opened came written)) (sym none)
    (subst (λ t. IsSocket (on_current (written_to t) before) (opened came written)) (sym (take_none count))
    (subst (λ t. IsSocket (on_current (written_to []) before) (opened came t)) (append-nil written) (more_written before came written [] is))))

-- the hub was told of what the socket took
pub sent_sits : {nodes : List NodeState} {contest : List ℕ} (old new : Hub) (key : Key) (now count : ℕ) (before after : Option Socket)
    → Watched (λ s t. t ≡ taken count now s) (seat_at old.seats.slab key) (seat_at new.seats.slab key)
    → ((answer : AnswerParts) (handed : List ℕ) → IsSeated nodes old key answer handed → IsSeated nodes new key answer (handed ++ take count (prefix_at old key)))
    → after ≡ on_current (written_to (take count (prefix_at old key))) before
    → Sits nodes contest old key before → Sits nodes contest new key after
sent_sits old new key now count before after exact serves after_is (asks asking sits is) =
    asks asking (watched_asked _ _ _ asking exact sits)
    (nothing_more before after count (prefix_at old key) asking.head.items [] (ap (prefix_of old.broadcast.log) sits) after_is is)
sent_sits old new key now count before after exact serves after_is (watches came answer handed given seated is) =
    let bytes = take count (prefix_at old key) in
    watches came answer (handed ++ bytes) given (serves answer handed seated)
    (subst (λ s. IsSocket s (opened came (handed ++ bytes))) (sym after_is) (more_written before came handed bytes is))
sent_sits old new key now count before after exact serves after_is (cut none sent) =
    cut (watched_gone _ _ _ exact none)
    (record {
      came = sent.came;
      bytes = sent.bytes;
      socket_is = nothing_more before after count (prefix_at old key) sent.came sent.bytes (ap (prefix_of old.broadcast.log) none) after_is sent.socket_is;
      faithful = sent.faithful;
    })

-- what a number has now is its own, where it has what it had
own_still : {nodes : List NodeState} {contest : List ℕ} {hub : Hub} {conns : Slab Conn} {sockets : AllSockets} → ServesScreens nodes contest hub conns sockets
    → (at : ℕ) (key : Key) → key_at conns at ≡ Some (Some key) → (other : ℕ) → other ≢ at → key_at conns other ≢ Some (Some key)
own_still serving at key is other away is_too = away (serving.one other at key is_too is)

same_next : (a b : ℕ) → b ≡ a → a ≤ b
same_next a b e = omega arith

pub serving_sent : {nodes : List NodeState} {contest : List ℕ} (old new : Hub) (conns : Slab Conn) (before after : AllSockets) (at : ℕ) (key : Key) (now count : ℕ)
    → key_at conns at ≡ Some (Some key)
    → Watched (λ s t. t ≡ taken count now s) (seat_at old.seats.slab key) (seat_at new.seats.slab key)
    → ((answer : AnswerParts) (handed : List ℕ) → IsSeated nodes old key answer handed → IsSeated nodes new key answer (handed ++ take count (prefix_at old key)))
    → ChangesOnly old new key
    → after at ≡ on_current (written_to (take count (prefix_at old key))) (before at) → OtherSockets before after at
    → ServesScreens nodes contest old conns before → ServesScreens nodes contest new conns after
serving_sent {nodes} {contest} old new conns before after at key now count keyed exact serves changes after_is others serving =
    serving_at at (λ other _. refl) others
    (λ other k away is. others_stay nodes old new key k changes (apart serving at other key k keyed away is))
    (same_next _ _ changes.next)
    (subst (λ k. SocketStands nodes contest new k (after at)) (sym keyed)
    (sent_sits old new key now count (before at) (after at) exact serves after_is
    (subst (λ k. SocketStands nodes contest old k (before at)) keyed (serving.each at))))
    (former_same _ _ (before at) (after at) (former_becomes _ (before at) (after at) after_is) (serving.former at))
    (λ k is. (subst (λ n. k.generation < n) (sym changes.next) (serving.below at k is), own_still serving at k is))
    serving

-- ---- what was written is faithful

-- more of what came changes nothing
given_further : {nodes : List NodeState} {contest : List ℕ} {answer : AnswerParts} (came bytes : List ℕ) → IsAnswerOf nodes contest came answer → IsAnswerOf nodes contest (came ++ bytes) answer
given_further came bytes given =
    record {
      node = given.node;
      among = given.among;
      head = given.head;
      behind = given.behind ++ bytes;
      begins = ap (λ c. c ++ bytes) given.begins ∙ append_assoc given.head given.behind bytes;
      framing = given.framing;
      answers = given.answers;
    }

faithful_further : {nodes : List NodeState} {contest : List ℕ} (came bytes : List ℕ) {written : List ℕ} → IsFaithful nodes contest came written → IsFaithful nodes contest (came ++ bytes) written
faithful_further came bytes nothing = nothing
faithful_further came bytes (refused count) = refused count
faithful_further came bytes (served handed was) =
    served handed
    (record {
      answer = was.answer;
      given = given_further came bytes was.given;
      common = was.common;
      lines = was.lines;
      told = was.told;
      screen = was.screen;
      served = was.served;
    })

sent_further : {nodes : List NodeState} {contest : List ℕ} (socket : Option Socket) (bytes : List ℕ) → IsSent nodes contest socket → IsSent nodes contest (on_current (came_to bytes) socket)
sent_further socket bytes sent =
    record {
      came = sent.came ++ bytes;
      bytes = sent.bytes;
      socket_is = more_came socket sent.came sent.bytes bytes sent.socket_is;
      faithful = faithful_further sent.came bytes sent.faithful;
    }

-- all that is known of a number
current_faithful : (nodes : List NodeState) (contest : List ℕ) (current : Option Traffic) (former : List Traffic) → IfSome current (WasFaithful nodes contest) → AllByRecursion (WasFaithful nodes contest) former
    → AllByRecursion (WasFaithful nodes contest) (with_current current former)
current_faithful nodes contest None former is were = were
current_faithful nodes contest (Some traffic) former is were = (is, were)

sent_current : {nodes : List NodeState} {contest : List ℕ} (known : Socket) → IsSent nodes contest (Some known) → IfSome known.current (WasFaithful nodes contest)
sent_current {nodes} {contest} known sent = subst (λ c. IfSome c (WasFaithful nodes contest)) (sym sent.socket_is) sent.faithful

stands_current : (nodes : List NodeState) (contest : List ℕ) (hub : Hub) (held : Option (Option Key)) (known : Socket) → SocketStands nodes contest hub held (Some known) → IfSome known.current (WasFaithful nodes contest)
stands_current nodes contest hub None known stands = subst (λ c. IfSome c (WasFaithful nodes contest)) (sym stands) tt
stands_current nodes contest hub (Some None) known stands = sent_current known stands
stands_current nodes contest hub (Some (Some key)) known stands = sent_current known (sent_of stands)

pub stands_all : (nodes : List NodeState) (contest : List ℕ) (hub : Hub) (held : Option (Option Key)) (known : Socket) → SocketStands nodes contest hub held (Some known) → WereFaithful nodes contest (Some known)
    → AllByRecursion (WasFaithful nodes contest) (traffic_of known)
stands_all nodes contest hub held known stands were = current_faithful nodes contest known.current known.former (stands_current nodes contest hub held known stands) were

-- a connection is over, and its traffic is still known
former_over : (nodes : List NodeState) (contest : List ℕ) (hub : Hub) (held : Option (Option Key)) (current : Option Traffic) (socket : Option Socket) → SocketStands nodes contest hub held socket → WereFaithful nodes contest socket
    → WereFaithful nodes contest (goes_on_with current socket)
former_over nodes contest hub held current None stands were = tt
former_over nodes contest hub held current (Some known) stands were = stands_all nodes contest hub held known stands were

over_so : {nodes : List NodeState} {contest : List ℕ} {hub : Hub} {conns : Slab Conn} {sockets : AllSockets} (at : ℕ) (current : Option Traffic) (after : Option Socket) → after ≡ goes_on_with current (sockets at)
    → ServesScreens nodes contest hub conns sockets → WereFaithful nodes contest after
over_so {nodes} {contest} {hub} {conns} {sockets} at current after is serving =
    subst (WereFaithful nodes contest) (sym is) (former_over nodes contest hub (key_at conns at) current (sockets at) (serving.each at) (serving.former at))

pub goes_on : (current : Option Traffic) (socket after : Option Socket) → after ≡ goes_on_with current socket → IsSocket after current
goes_on current socket after is = subst (λ s. IsSocket s current) (sym is) (by socket)
  where
    by : (socket : Option Socket) → IsSocket (goes_on_with current socket) current
    by None = tt
    by (Some known) = refl

-- ---- connections that end

-- what left the hub, where a number had this
abbrev pub LeavesAt : Option (Option Key) → Hub → Hub → Type 0
LeavesAt None old new = new ≡ old
LeavesAt (Some held) old new = LeavesSeat held old new

pub hub_stays : (nodes : List NodeState) (old new : Hub) (key : Key) → new ≡ old → Stays nodes old new key
hub_stays nodes old new key same = same_stays nodes old new key (ap (λ h. seat_at h.seats.slab key) same) (ap (λ h. h.broadcast) same)

left_stays : (nodes : List NodeState) (old new : Hub) (held : Option (Option Key)) (key : Key) → LeavesAt held old new → ((gone : Key) → held ≡ Some (Some gone) → key ≢ gone) → Stays nodes old new key
left_stays nodes old new None key left differ = hub_stays nodes old new key left
left_stays nodes old new (Some None) key left differ = hub_stays nodes old new key left
left_stays nodes old new (Some (Some gone)) key left differ = others_stay nodes old new gone key left.1 (differ gone refl)

left_next : (old new : Hub) (held : Option (Option Key)) → LeavesAt held old new → new.seats.next ≡ old.seats.next
left_next old new None left = ap (λ h. h.seats.next) left
left_next old new (Some None) left = ap (λ h. h.seats.next) left
left_next old new (Some (Some gone)) left = left.1.next

-- the connection at a number is gone, and its socket is closed
pub serving_ended : {nodes : List NodeState} {contest : List ℕ} (old new : Hub) (conns conns_new : Slab Conn) (before after : AllSockets) (at : ℕ)
    → ((other : ℕ) → other ≢ at → key_at conns_new other ≡ key_at conns other) → key_at conns_new at ≡ None
    → LeavesAt (key_at conns at) old new → after at ≡ goes_on_with closed (before at) → OtherSockets before after at
    → ServesScreens nodes contest old conns before → ServesScreens nodes contest new conns_new after
serving_ended {nodes} {contest} old new conns conns_new before after at keys free left over others serving =
    serving_at at keys others
    (λ other k away is. left_stays nodes old new (key_at conns at) k left (λ gone was. apart serving at other gone k was away is))
    (same_next _ _ (left_next old new (key_at conns at) left))
    (subst (λ k. SocketStands nodes contest new k (after at)) (sym free) (goes_on closed (before at) (after at) over))
    (over_so at closed (after at) over serving)
    (λ k is. let no : None ≡ Some (Some k) = sym free ∙ is in absurd (cc))
    serving

-- the connection at a number has no key any more, and its socket stays as it is
pub serving_finished : {nodes : List NodeState} {contest : List ℕ} (old new : Hub) (conns conns_new : Slab Conn) (before after : AllSockets) (at : ℕ) (key : Key)
    → key_at conns at ≡ Some (Some key)
    → ((other : ℕ) → other ≢ at → key_at conns_new other ≡ key_at conns other) → key_at conns_new at ≡ keyless (key_at conns at)
    → ChangesOnly old new key → SameSockets before after
    → ServesScreens nodes contest old conns before → ServesScreens nodes contest new conns_new after
serving_finished {nodes} {contest} old new conns conns_new before after at key keyed keys without changes same serving =
    let free : key_at conns_new at ≡ Some None = without ∙ ap keyless keyed in
    let sits : Sits nodes contest old key (before at) = subst (λ k. SocketStands nodes contest old k (before at)) keyed (serving.each at) in
    serving_at at keys (λ other _. same other)
    (λ other k away is. others_stay nodes old new key k changes (apart serving at other key k keyed away is))
    (same_next _ _ changes.next)
    (subst (λ k. SocketStands nodes contest new k (after at)) (sym free) (subst (λ s. IsSent nodes contest s) (sym (same at)) (sent_of sits)))
    (subst (WereFaithful nodes contest) (sym (same at)) (serving.former at))
    (λ k is. let no : Some None ≡ Some (Some k) = sym free ∙ is in absurd (cc))
    serving

-- a connection whose request comes was sent nothing
asks_opened : {nodes : List NodeState} {contest : List ℕ} {hub : Hub} {key : Key} {socket : Option Socket} → Sits nodes contest hub key socket
    → IsAskingSeat (seat_at hub.seats.slab key) → (came : List ℕ) × IsSocket socket (opened came [])
asks_opened (asks asking sits is) asked = (asking.head.items, is)
asks_opened (watches came answer handed given seated is) asked = absurd (subst IsAskingSeat seated.1 asked)
asks_opened (cut none sent) asked = absurd (subst IsAskingSeat none asked)

-- one whose request comes is told that there are too many, and has no key any more
pub serving_refused : {nodes : List NodeState} {contest : List ℕ} (old new : Screens) (middle after : AllSockets) (at : ℕ) (key : Key) (unheard : List ℕ)
    → key_at old.conns at ≡ Some (Some key) → IsAskingSeat (seat_at old.hub.seats.slab key)
    → ((other : ℕ) → other ≢ at → key_at new.conns other ≡ key_at old.conns other) → key_at new.conns at ≡ keyless (key_at old.conns at)
    → ChangesOnly old.hub new.hub key → ((came : List ℕ) → IsSocket (middle at) (opened came []) → IsSent nodes contest (after at)) → former_of (after at) ≡ former_of (middle at) → OtherSockets middle after at
    → ServesBut nodes contest old.hub old.conns middle at unheard → ServesScreens nodes contest new.hub new.conns after
serving_refused {nodes} {contest} old new middle after at key unheard keyed asked keys without changes sent former others serves =
    let before = serves.before in
    let serving = serves.serving in
    let free : key_at new.conns at ≡ Some None = without ∙ ap keyless keyed in
    let sits : Sits nodes contest old.hub key (before at) = subst (λ k. SocketStands nodes contest old.hub k (before at)) keyed (serving.each at) in
    let (came, is) = asks_opened sits asked in
    serving_at at keys (λ other away. others other away ∙ serves.came.others other away)
    (λ other k away is. others_stay nodes old.hub new.hub key k changes (apart serving at other key k keyed away is))
    (same_next _ _ changes.next)
    (subst (λ k. SocketStands nodes contest new.hub k (after at)) (sym free) (sent (came ++ unheard) (subst (λ s. IsSocket s (opened (came ++ unheard) [])) (sym serves.came.more) (more_came (before at) came [] unheard is))))
    (former_same _ _ (before at) (after at) (former ∙ former_becomes _ (before at) (middle at) serves.came.more) (serving.former at))
    (λ k is. let no : Some None ≡ Some (Some k) = sym free ∙ is in absurd (cc))
    serving

-- ---- connections that come

pub serving_accepted : {nodes : List NodeState} {contest : List ℕ} (old new : Hub) (conns conns_new : Slab Conn) (before after : AllSockets) (at : ℕ) (held : Option Key)
    → ((other : ℕ) → other ≢ at → key_at conns_new other ≡ key_at conns other) → key_at conns_new at ≡ Some held
    → IsGreeted nodes contest old new held (after at) → WereFaithful nodes contest (after at) → OtherSockets before after at
    → ServesScreens nodes contest old conns before → ServesScreens nodes contest new conns_new after
serving_accepted {nodes} {contest} old new conns conns_new before after at held keys keyed greeted were others serving =
    serving_at at keys others
    (λ other k away is. same_stays nodes old new k (greeted.others k (serving.below other k is)) greeted.broadcast)
    greeted.kept
    (subst (λ k. SocketStands nodes contest new k (after at)) (sym keyed) greeted.stands)
    were
    (λ k is. let mine : held ≡ Some k = of_some (sym keyed ∙ is) in
    (greeted.next k mine, λ other away is_too. let below = serving.below other k is_too in let same = greeted.is_new k mine in absurd (omega arith)))
    serving
  where
    of_some : {k : Key} → Some held ≡ Some (Some k) → held ≡ Some k
    of_some e = cc

-- ---- what the calls of the hub do to all

-- those stay of whom something holds
kept_gone : {Holds : Seat → Type 0} (old new : Hub) (key : Key) (now : Option Seat) → KeepsThose Holds old.seats.slab new.seats.slab → seat_at new.seats.slab key ≡ now → seat_at old.seats.slab key ≡ None → now ≡ None
kept_gone old new key None keeps is none = refl
kept_gone old new key (Some seat) keeps is none = let was = (keeps.kept key seat is).0 in let no : Some seat ≡ None = sym was ∙ none in absurd (cc)

kept_was : {Holds : Seat → Type 0} (old new : Hub) (key : Key) (now : Option Seat) → KeepsThose Holds old.seats.slab new.seats.slab → seat_at new.seats.slab key ≡ now → (now ≡ seat_at old.seats.slab key) ⊎ (now ≡ None)
kept_was old new key None keeps is = inr refl
kept_was old new key (Some seat) keeps is = inl (sym (keeps.kept key seat is).0)

pub kept_stays : {Holds : Seat → Type 0} (nodes : List NodeState) (old new : Hub) (key : Key) → KeepsThose Holds old.seats.slab new.seats.slab
    → (IsStillSeated nodes old new key ⊎ (seat_at new.seats.slab key ≡ None)) → Stays nodes old new key
kept_stays nodes old new key keeps (inr none) = cut_stays nodes old new key none
kept_stays nodes old new key keeps (inl still) =
    record {
      gone = λ none. kept_gone old new key (seat_at new.seats.slab key) keeps refl none;
      asked = λ asking sits. by asking sits (kept_was old new key (seat_at new.seats.slab key) keeps refl);
      watched = λ answer handed seated. inl (still answer handed seated);
    }
  where
    by : (asking : Asking) → seat_at old.seats.slab key ≡ Some (Asks asking) → (seat_at new.seats.slab key ≡ seat_at old.seats.slab key) ⊎ (seat_at new.seats.slab key ≡ None)
        → (seat_at new.seats.slab key ≡ Some (Asks asking)) ⊎ (seat_at new.seats.slab key ≡ None)
    by asking sits (inl same) = inl (same ∙ sits)
    by asking sits (inr none) = inr none

-- where what all are sent stays, too
pub late_stays : {Holds : Seat → Type 0} (nodes : List NodeState) (old new : Hub) (key : Key) → KeepsThose Holds old.seats.slab new.seats.slab → new.broadcast ≡ old.broadcast → Stays nodes old new key
late_stays nodes old new key keeps broadcast = by (kept_was old new key (seat_at new.seats.slab key) keeps refl)
  where
    by : (seat_at new.seats.slab key ≡ seat_at old.seats.slab key) ⊎ (seat_at new.seats.slab key ≡ None) → Stays nodes old new key
    by (inl same) = same_stays nodes old new key same broadcast
    by (inr none) = cut_stays nodes old new key none

pub ended_stays : (nodes : List NodeState) (old new : Hub) (key : Key) (log : Backlog) (told : Option (List ℕ)) (now : ℕ)
    → (EndsSeat log told now (seat_at old.seats.slab key) (seat_at new.seats.slab key) ⊎ IsCut old.seats.slab new.seats.slab key)
    → (IsStillSeated nodes old new key ⊎ (seat_at new.seats.slab key ≡ None)) → Stays nodes old new key
ended_stays nodes old new key log told now (inl ends) (inl still) = watched_stays nodes old new key _ ends still
ended_stays nodes old new key log told now (inl ends) (inr none) = cut_stays nodes old new key none
ended_stays nodes old new key log told now (inr was_cut) still = cut_stays nodes old new key was_cut.cut

-- the seats stay
pub said_stays : (nodes : List NodeState) (old new : Hub) (key : Key) → new.seats ≡ old.seats → IsStillSeated nodes old new key → Stays nodes old new key
said_stays nodes old new key seats still =
    let seat : seat_at new.seats.slab key ≡ seat_at old.seats.slab key = ap (λ s. seat_at s.slab key) seats in
    record {
      gone = λ none. seat ∙ none;
      asked = λ asking sits. inl (seat ∙ sits);
      watched = λ answer handed seated. inl (still answer handed seated);
    }

-- so it is for each key, where nothing else changed
pub each_sits : {nodes : List NodeState} (contest : List ℕ) (old new : Hub) (key : Key) → ChangesOnly old new key → StillSits nodes contest old new key → (other : Key) → StillSits nodes contest old new other
each_sits {nodes} contest old new key changes still other = by (key_tells other key)
  where
    by : (other ≡ key) ⊎ (other ≢ key) → StillSits nodes contest old new other
    by (inl same) = subst (λ k. StillSits nodes contest old new k) (sym same) still
    by (inr differ) = still_sits contest (others_stay nodes old new key other changes differ)

-- ---- whole calls

-- the seats stay, and whoever is served still is
pub serving_said : {nodes : List NodeState} {contest : List ℕ} {old new : Hub} {conns : Slab Conn} {sockets : AllSockets} → new.seats ≡ old.seats → ((key : Key) → IsStillSeated nodes old new key)
    → ServesScreens nodes contest old conns sockets → ServesScreens nodes contest new conns sockets
serving_said {nodes} {contest} {old} {new} seats still serving =
    serving_on (λ key. still_sits contest (said_stays nodes old new key seats (still key))) (same_next _ _ (ap (λ s. s.next) seats)) serving

-- one key changes, and what sat there stays
pub serving_changed : {nodes : List NodeState} {contest : List ℕ} {old new : Hub} {conns : Slab Conn} {sockets : AllSockets} (key : Key) → ChangesOnly old new key → StillSits nodes contest old new key
    → ServesScreens nodes contest old conns sockets → ServesScreens nodes contest new conns sockets
serving_changed {nodes} {contest} {old} {new} key changes still serving =
    serving_on (each_sits contest old new key changes still) (same_next _ _ changes.next) serving

-- nothing changed that a socket's bytes hang on
pub serving_seated : {nodes : List NodeState} {contest : List ℕ} {old new : Screens} {sockets sockets_new : AllSockets} → SameSeating old new → SameSockets sockets sockets_new
    → ServesScreens nodes contest old.hub old.conns sockets → ServesScreens nodes contest new.hub new.conns sockets_new
serving_seated {nodes} {contest} {old} {new} same sockets serving = serving_same {conns = old.conns} {conns_new = new.conns} same.hub same.keys sockets serving

-- the same, where no socket is touched
pub serving_noted : {nodes : List NodeState} {contest : List ℕ} {old new : Screens} {sockets : AllSockets} → SameSeating old new
    → ServesScreens nodes contest old.hub old.conns sockets → ServesScreens nodes contest new.hub new.conns sockets
serving_noted {nodes} {contest} {old} {new} same serving = serving_seated same (λ _. refl) serving

same_sockets : (before after : AllSockets) (at : ℕ) → after at ≡ before at → OtherSockets before after at → SameSockets before after
same_sockets before after at here others other = by (number_tells other at)
  where
    by : (other ≡ at) ⊎ (other ≢ at) → after other ≡ before other
    by (inl same) = subst (λ n. after n ≡ before n) (sym same) here
    by (inr away) = others other away

-- ---- what is heard

-- more came of a connection whose request does not come
further_sits : {nodes : List NodeState} {contest : List ℕ} {hub : Hub} {key : Key} (bytes : List ℕ) (socket : Option Socket) → (IsAskingSeat (seat_at hub.seats.slab key) → ⊥)
    → Sits nodes contest hub key socket → Sits nodes contest hub key (on_current (came_to bytes) socket)
further_sits bytes socket not_asked (asks asking sits is) = absurd (not_asked (subst IsAskingSeat (sym sits) tt))
further_sits bytes socket not_asked (watches came answer handed given seated is) =
    watches (came ++ bytes) answer handed (given_further came bytes given) seated (more_came socket came handed bytes is)
further_sits bytes socket not_asked (cut none sent) = cut none (sent_further socket bytes sent)

further_stands : (nodes : List NodeState) (contest : List ℕ) (hub : Hub) (held : Option (Option Key)) (bytes : List ℕ) (socket : Option Socket)
    → ((key : Key) → held ≡ Some (Some key) → IsAskingSeat (seat_at hub.seats.slab key) → ⊥) → SocketStands nodes contest hub held socket → SocketStands nodes contest hub held (on_current (came_to bytes) socket)
further_stands nodes contest hub None bytes socket not_asked stands = on_socket (came_to bytes) socket closed stands
further_stands nodes contest hub (Some None) bytes socket not_asked stands = sent_further socket bytes stands
further_stands nodes contest hub (Some (Some key)) bytes socket not_asked stands = further_sits bytes socket (not_asked key refl) stands

-- nothing of it is a request
pub serving_further : {nodes : List NodeState} {contest : List ℕ} (hub : Hub) (conns : Slab Conn) (sockets : AllSockets) (at : ℕ) (bytes : List ℕ)
    → ((key : Key) → key_at conns at ≡ Some (Some key) → IsAskingSeat (seat_at hub.seats.slab key) → ⊥)
    → ServesBut nodes contest hub conns sockets at bytes → ServesScreens nodes contest hub conns sockets
serving_further {nodes} {contest} hub conns sockets at bytes not_asked serves =
    let before = serves.before in
    serving_at {old = hub} {new = hub} {conns = conns} {conns_new = conns} at (λ other _. refl) serves.came.others
    (λ other k away is. hub_stays nodes hub hub k refl) (same_next _ _ refl)
    (subst (SocketStands nodes contest hub (key_at conns at)) (sym serves.came.more) (further_stands nodes contest hub (key_at conns at) bytes (before at) not_asked (serves.serving.each at)))
    (former_same _ _ (before at) (sockets at) (former_becomes _ (before at) (sockets at) serves.came.more) (serves.serving.former at))
    (λ k is. (serves.serving.below at k is, own_still serves.serving at k is))
    serves.serving

-- a read that gave no bytes changed nothing
pub came_nothing : (socket : Option Socket) → on_current (came_to []) socket ≡ socket
came_nothing None = refl
came_nothing (Some known) = ap (λ c. Some (record { former = known.former; current = c })) (by known.current)
  where
    by : (current : Option Traffic) → option_map (came_to []) current ≡ current
    by None = refl
    by (Some traffic) = ap (λ c. Some (record { came = c; written = traffic.written })) (append-nil traffic.came)

pub serving_nothing : {nodes : List NodeState} {contest : List ℕ} (hub : Hub) (conns : Slab Conn) (sockets : AllSockets) (at : ℕ) (bytes : List ℕ) → bytes ≡ []
    → ServesBut nodes contest hub conns sockets at bytes → ServesScreens nodes contest hub conns sockets
serving_nothing {nodes} {contest} hub conns sockets at bytes none serves =
    let before = serves.before in
    let here : sockets at ≡ before at = serves.came.more ∙ ap (λ b. on_current (came_to b) (before at)) none ∙ came_nothing (before at) in
    serving_same {old = hub} {new = hub} {conns = conns} {conns_new = conns} refl (λ _. refl) (same_sockets before sockets at here serves.came.others) serves.serving

-- so many of the bytes came, and then the others
came_in_parts : (count : ℕ) (bytes : List ℕ) (socket : Option Socket) → on_current (came_to bytes) socket ≡ on_current (came_to (drop count bytes)) (on_current (came_to (take count bytes)) socket)
came_in_parts count bytes None = refl
came_in_parts count bytes (Some known) = ap (λ c. Some (record { former = known.former; current = c })) (by known.current)
  where
    by : (current : Option Traffic) → option_map (came_to bytes) current ≡ option_map (came_to (drop count bytes)) (option_map (came_to (take count bytes)) current)
    by None = refl
    by (Some traffic) = ap (λ c. Some (record { came = c; written = traffic.written })) (ap (λ b. traffic.came ++ b) (sym (take-append-drop count bytes)) ∙ sym (append_assoc traffic.came (take count bytes) (drop count bytes)))

module _ {nodes : List NodeState} (contest : List ℕ) (old new : Hub) (key : Key) (node : NodeState) (now : ℕ) (piece : List ℕ) (heard : Heard) (among : Contains nodes node)
    (hears : HearsAt old.broadcast contest node now piece heard (seat_at old.seats.slab key) (seat_at new.seats.slab key))
    (answered : (asking : Asking) (s : Screen) → seat_at old.seats.slab key ≡ Some (Asks asking) → seat_at new.seats.slab key ≡ Some (Watches s)
    → IsAnsweredBy node contest old.broadcast.framing (asking.head.items ++ take heard.taken piece) (λ answer. IsSeated nodes new key answer []))
    (broadcast : new.broadcast ≡ old.broadcast) where
  hears_from : (before : Option Seat) → seat_at old.seats.slab key ≡ before → HearsAt old.broadcast contest node now piece heard before (seat_at new.seats.slab key)
  hears_from before is = subst (λ o. HearsAt old.broadcast contest node now piece heard o (seat_at new.seats.slab key)) is hears

  -- of a request that comes so many bytes more were heard, or it is answered
  heard_at : (asking : Asking) (seat : Seat) (socket : Option Socket) → seat_at old.seats.slab key ≡ Some (Asks asking) → seat_at new.seats.slab key ≡ Some seat
      → HearsOf old.broadcast contest node now asking (asking.head.items ++ take heard.taken piece) heard.status seat
      → IsSocket socket (opened asking.head.items []) → Sits nodes contest new key (on_current (came_to (take heard.taken piece)) socket)
  heard_at asking (Asks more) socket was sits so is =
      asks more sits (subst (λ h. IsSocket (on_current (came_to (take heard.taken piece)) socket) (opened h [])) (sym so.head_is) (more_came socket asking.head.items [] (take heard.taken piece) is))
  heard_at asking (Watches s) socket was sits so is =
      let (answer, answers, seated) = answered asking s was sits in
      let head = asking.head.items ++ take heard.taken piece in
      watches head answer [] (record { node = node; among = among; head = head; behind = []; begins = sym (append-nil head); framing = old.broadcast.framing; answers = answers }) seated
      (more_came socket asking.head.items [] (take heard.taken piece) is)

  -- what sits there was heard, as far as it is heard
  pub heard_sits : (socket : Option Socket) → Sits nodes contest old key socket → Sits nodes contest new key (on_current (came_to (take heard.taken piece)) socket)
  heard_sits socket (asks asking sits is) = let h = hears_from (Some (Asks asking)) sits in heard_at asking h.seat socket sits h.seat_is h.hears is
  heard_sits socket (watches came answer handed given seated is) =
      let h = hears_from (Some (Watches seated.0)) seated.1 in
      further_sits (take heard.taken piece) socket (λ asked. subst IsAskingSeat h.stays asked)
      (still_sits contest (same_stays nodes old new key (h.stays ∙ sym seated.1) broadcast) socket (watches came answer handed given seated is))
  heard_sits socket (cut none sent) =
      let h = hears_from None none in cut h.stays (sent_further socket (take heard.taken piece) sent)

  -- where it is answered no request comes there any more
  pub is_answered : heard.status ≢ None → IsAskingSeat (seat_at new.seats.slab key) → ⊥
  is_answered some asked = by (seat_at old.seats.slab key) refl
    where
      asks_on : (asking : Asking) (seat : Seat) → HearsOf old.broadcast contest node now asking (asking.head.items ++ take heard.taken piece) heard.status seat → IsAskingSeat (Some seat) → ⊥
      asks_on asking (Asks more) so is_asking = some so.status_is
      asks_on asking (Watches s) so is_asking = is_asking

      by : (before : Option Seat) → seat_at old.seats.slab key ≡ before → ⊥
      by None is = some (hears_from None is).status
      by (Some (Watches s)) is = some (hears_from (Some (Watches s)) is).status
      by (Some (Asks asking)) is = let h = hears_from (Some (Asks asking)) is in asks_on asking h.seat h.hears (subst IsAskingSeat h.seat_is asked)

-- where nothing was taken no request comes there any more, or there was nothing to be taken
pub is_unasked : (seat : Option Seat) (piece : List ℕ) → (IsAskingSeat seat → piece ≡ []) → (IsAskingSeat seat → ⊥) ⊎ (piece ≡ [])
is_unasked None piece moves = inl (λ asked. asked)
is_unasked (Some (Asks asking)) piece moves = inr (moves tt)
is_unasked (Some (Watches s)) piece moves = inl (λ asked. asked)

-- ---- a request is held

holds_from : (until : ℕ) (piece : List ℕ) (count : ℕ) (old new seat : Option Seat) → HoldsAt until piece count old new → old ≡ seat → HoldsAt until piece count seat new
holds_from until piece count old new seat held is = subst (λ s. HoldsAt until piece count s new) is held

module _ {nodes : List NodeState} {contest : List ℕ} (until : ℕ) (piece : List ℕ) (count : ℕ) (old new : Hub) (key : Key)
    (held : HoldsAt until piece count (seat_at old.seats.slab key) (seat_at new.seats.slab key)) (broadcast : new.broadcast ≡ old.broadcast) where
  -- what sits there was heard, as far as it is heard
  pub held_sits : (socket : Option Socket) → Sits nodes contest old key socket → Sits nodes contest new key (on_current (came_to (take count piece)) socket)
  held_sits socket (asks asking sits is) =
      let h = holds_from until piece count _ _ (Some (Asks asking)) held sits in
      asks h.1.0 h.1.1 (subst (λ head. IsSocket (on_current (came_to (take count piece)) socket) (opened head [])) (sym h.1.2)
      (more_came socket asking.head.items [] (take count piece) is))
  held_sits socket (watches came answer handed given seated is) =
      let h = holds_from until piece count _ _ (Some (Watches seated.0)) held seated.1 in
      further_sits (take count piece) socket (λ asked. subst IsAskingSeat (h.0) asked)
      (still_sits contest (same_stays nodes old new key (h.0 ∙ sym seated.1) broadcast) socket (watches came answer handed given seated is))
  held_sits socket (cut none sent) =
      let h = holds_from until piece count _ _ None held none in cut h.0 (sent_further socket (take count piece) sent)

-- nothing came
pub but_nothing : {nodes : List NodeState} {contest : List ℕ} {hub : Hub} {conns : Slab Conn} {sockets : AllSockets} (at : ℕ)
    → ServesScreens nodes contest hub conns sockets → ServesBut nodes contest hub conns sockets at []
but_nothing {sockets = sockets} at serving =
    record {
      before = sockets;
      came = record { more = sym (came_nothing (sockets at)); others = λ _ _. refl };
      serving = serving;
    }

-- memory ran out
pub hears_nothing_more : {nodes : List NodeState} {contest : List ℕ} {E : Type 0} (new : Screens) (sockets : AllSockets) (at : ℕ) (Q : E → Type 0) (result : Result Hearing E) → IsErrAnd result Q
    → ServesScreens nodes contest new.hub new.conns sockets → HearsAll nodes contest new sockets at result
hears_nothing_more new sockets at Q (Ok hearing) failed serving = absurd failed
hears_nothing_more new sockets at Q (Err why) failed serving = serving

-- one socket is another now
abbrev update : AllSockets → ℕ → Option Socket → AllSockets
update sockets at socket n = if n == at then socket else sockets n

updated : (sockets : AllSockets) (at : ℕ) (socket : Option Socket) → update sockets at socket at ≡ socket
updated sockets at socket = by (eqb_tells at at)
  where
    by : (((at == at) ≡ true) × (at ≡ at)) ⊎ (((at == at) ≡ false) × (at ≢ at)) → (if at == at then socket else sockets at) ≡ socket
    by (inl (is, _)) = rw is refl
    by (inr (_, differ)) = absurd (differ refl)

not_updated : (sockets : AllSockets) (at : ℕ) (socket : Option Socket) → OtherSockets sockets (update sockets at socket) at
not_updated sockets at socket other away = by (eqb_tells other at)
  where
    by : (((other == at) ≡ true) × (other ≡ at)) ⊎ (((other == at) ≡ false) × (other ≢ at)) → (if other == at then socket else sockets other) ≡ sockets other
    by (inl (_, same)) = absurd (away same)
    by (inr (is, _)) = rw is refl

-- the hub heard so many of the bytes
pub serving_heard : {nodes : List NodeState} {contest : List ℕ} (old new : Hub) (conns : Slab Conn) (sockets : AllSockets) (at : ℕ) (key : Key) (bytes : List ℕ) (count : ℕ)
    → key_at conns at ≡ Some (Some key) → ChangesOnly old new key
    → ((socket : Option Socket) → Sits nodes contest old key socket → Sits nodes contest new key (on_current (came_to (take count bytes)) socket))
    → ServesBut nodes contest old conns sockets at bytes → ServesBut nodes contest new conns sockets at (drop count bytes)
serving_heard {nodes} {contest} old new conns sockets at key bytes count keyed changes sits serves =
    let before = serves.before in
    let serving = serves.serving in
    let part = on_current (came_to (take count bytes)) (before at) in
    let middle = update before at part in
    let here : middle at ≡ part = updated before at part in
    record {
      before = middle;
      came = record {
        more = serves.came.more ∙ came_in_parts count bytes (before at) ∙ ap (on_current (came_to (drop count bytes))) (sym here);
        others = λ other away. serves.came.others other away ∙ sym (not_updated before at part other away);
      };
      serving =
          serving_at at (λ other _. refl) (not_updated before at part)
          (λ other k away is. others_stay nodes old new key k changes (apart serving at other key k keyed away is))
          (same_next _ _ changes.next)
          (subst (λ k. SocketStands nodes contest new k (middle at)) (sym keyed)
          (subst (Sits nodes contest new key) (sym here)
          (sits (before at) (subst (λ k. SocketStands nodes contest old k (before at)) keyed (serving.each at)))))
          (former_same _ _ (before at) (middle at) (former_becomes _ (before at) (middle at) here) (serving.former at))
          (λ k is. (subst (λ n. k.generation < n) (sym changes.next) (serving.below at k is), own_still serving at k is))
          serving;
    }

-- what was heard is noted
pub but_noted : {nodes : List NodeState} {contest : List ℕ} {old new : Screens} (sockets : AllSockets) (at : ℕ) (bytes : List ℕ) → SameSeating old new
    → ServesBut nodes contest old.hub old.conns sockets at bytes → ServesBut nodes contest new.hub new.conns sockets at bytes
but_noted {nodes} {contest} {old} {new} sockets at bytes same serves =
    record { before = serves.before; came = serves.came; serving = serving_same {conns = old.conns} {conns_new = new.conns} same.hub same.keys (λ _. refl) serves.serving }

-- one key changes, and what sat there stays
pub but_changed : {nodes : List NodeState} {contest : List ℕ} {old new : Hub} {conns : Slab Conn} (sockets : AllSockets) (at : ℕ) (bytes : List ℕ) (key : Key) → ChangesOnly old new key → StillSits nodes contest old new key
    → ServesBut nodes contest old conns sockets at bytes → ServesBut nodes contest new conns sockets at bytes
but_changed sockets at bytes key changes still serves =
    record { before = serves.before; came = serves.came; serving = serving_changed key changes still serves.serving }

-- the key at a number sits where no request comes
keyed_unasked : (hub : Hub) (conns : Slab Conn) (at : ℕ) (key : Key) → key_at conns at ≡ Some (Some key) → (IsAskingSeat (seat_at hub.seats.slab key) → ⊥)
    → (other : Key) → key_at conns at ≡ Some (Some other) → IsAskingSeat (seat_at hub.seats.slab other) → ⊥
keyed_unasked hub conns at key keyed not_asked other is asked = not_asked (subst (λ k. IsAskingSeat (seat_at hub.seats.slab k)) (same_keys (sym is ∙ keyed)) asked)
  where
    same_keys : {a b : Key} → Some (Some a) ≡ Some (Some b) → a ≡ b
    same_keys e = cc

-- all that is ever heard of the bytes was
pub serving_all : {nodes : List NodeState} {contest : List ℕ} (hub : Hub) (conns : Slab Conn) (sockets : AllSockets) (at : ℕ) (key : Key) (bytes : List ℕ)
    → key_at conns at ≡ Some (Some key) → (IsAskingSeat (seat_at hub.seats.slab key) → ⊥) ⊎ (bytes ≡ [])
    → ServesBut nodes contest hub conns sockets at bytes → ServesScreens nodes contest hub conns sockets
serving_all hub conns sockets at key bytes keyed (inl not_asked) serves = serving_further hub conns sockets at bytes (keyed_unasked hub conns at key keyed not_asked) serves
serving_all hub conns sockets at key bytes keyed (inr none) serves = serving_nothing hub conns sockets at bytes none serves

-- memory ran out
pub hears_failed : {nodes : List NodeState} {contest : List ℕ} {E : Type 0} (new : Screens) (sockets : AllSockets) (at : ℕ) (bytes : List ℕ) (Q : E → Type 0) (result : Result ℕ E) → IsErrAnd result Q
    → ServesScreens nodes contest new.hub new.conns sockets → HearsSome nodes contest new sockets at bytes result
hears_failed new sockets at bytes Q (Ok count) failed serving = absurd failed
hears_failed new sockets at bytes Q (Err why) failed serving = serving

-- by how many were taken
pub hears_none : {nodes : List NodeState} {contest : List ℕ} (new : Screens) (sockets : AllSockets) (at : ℕ) (bytes : List ℕ) (count : ℕ) → count ≡ 0
    → HearsSo nodes contest new sockets at bytes count → ServesScreens nodes contest new.hub new.conns sockets
hears_none new sockets at bytes zero is hears = hears
hears_none new sockets at bytes (suc n) is hears = absurd (omega (arith, is))

pub hears_more : {nodes : List NodeState} {contest : List ℕ} (new : Screens) (sockets : AllSockets) (at : ℕ) (bytes : List ℕ) (count : ℕ) → count ≢ 0
    → HearsSo nodes contest new sockets at bytes count → ServesBut nodes contest new.hub new.conns sockets at (drop count bytes)
hears_more new sockets at bytes zero is hears = absurd (is refl)
hears_more new sockets at bytes (suc n) is hears = hears

pub hears_so : {nodes : List NodeState} {contest : List ℕ} (new : Screens) (sockets : AllSockets) (at : ℕ) (bytes : List ℕ) (count : ℕ)
    → (count ≡ 0 → ServesScreens nodes contest new.hub new.conns sockets) → ServesBut nodes contest new.hub new.conns sockets at (drop count bytes)
    → HearsSo nodes contest new sockets at bytes count
hears_so new sockets at bytes zero none serves = none refl
hears_so new sockets at bytes (suc n) none serves = serves

-- a line feed for a screen, or it was cut
pub idled_stays : {E : Type 0} (nodes : List NodeState) (old new : Hub) (key : Key) (Becomes : Screen → Screen → Type 0) (Waiting : Type 0) (result : Result (Unit {0}) E)
    → OnOk result (Watched Becomes (seat_at old.seats.slab key) (seat_at new.seats.slab key)) → OnOk result (IsStillSeated nodes old new key)
    → OnErr result ((seat_at new.seats.slab key ≡ None) × Waiting) → Stays nodes old new key
idled_stays nodes old new key Becomes Waiting (Ok _) became still failed = watched_stays nodes old new key Becomes became still
idled_stays nodes old new key Becomes Waiting (Err _) became still failed = cut_stays nodes old new key failed.0

-- what was handed to a socket
pub serving_handed : {nodes : List NodeState} {contest : List ℕ} {E : Type 0} (old new : Hub) (conns : Slab Conn) (before after : AllSockets) (at : ℕ) (key : Key) (now : ℕ) (result : Result ℕ E)
    → key_at conns at ≡ Some (Some key)
    → IsWrite (before at) (after at) result (prefix_at old key)
    → ((among : List NodeState) (answer : AnswerParts) (handed : List ℕ) → IsSeated among old key answer handed → IfOk result (λ count. IsSeated among new key answer (handed ++ take count (prefix_at old key))))
    → IfOk result (λ count. Watched (λ s t. t ≡ taken count now s) (seat_at old.seats.slab key) (seat_at new.seats.slab key))
    → OtherSockets before after at → IfOk result (λ _. ChangesOnly old new key) → OnErr result (new ≡ old)
    → ServesScreens nodes contest old conns before → ServesScreens nodes contest new conns after
serving_handed {nodes} old new conns before after at key now (Ok count) keyed bytes serves exact others changes same serving =
    serving_sent old new conns before after at key now count keyed exact (serves nodes) changes bytes others serving
serving_handed {nodes} {contest} old new conns before after at key now (Err _) keyed bytes serves exact others changes same serving =
    serving_same {conns = conns} {conns_new = conns} same (λ _. refl) (same_sockets before after at bytes others) serving

-- the connection at a number was taken out, and its socket is closed
pub serving_removed : {nodes : List NodeState} {contest : List ℕ} (old new : Hub) (conns conns_new : Slab Conn) (before after : AllSockets) (at : ℕ) (conn : Conn)
    → get conns at ≡ Some conn → Updates conns conns_new at None → LeavesSeat conn.key old new → after at ≡ goes_on_with closed (before at) → OtherSockets before after at
    → ServesScreens nodes contest old conns before → ServesScreens nodes contest new conns_new after
serving_removed old new conns conns_new before after at conn was updates leaves over others serving =
    serving_ended old new conns conns_new before after at (λ other away. ap key_of (updates.others other away)) (ap key_of updates.changed)
    (subst (λ k. LeavesAt k old new) (sym (ap key_of was)) leaves) over others serving

-- a connection was put in at a number
pub serving_inserted : {nodes : List NodeState} {contest : List ℕ} (old new : Hub) (conns reserved conns_new : Slab Conn) (before mid after : AllSockets) (at place : ℕ) (conn : Conn)
    → ((other : ℕ) → get reserved other ≡ get conns other) → place ≡ at → Updates reserved conns_new place (Some conn)
    → mid at ≡ goes_on_with (opened [] []) (before at) → former_of (after at) ≡ former_of (mid at)
    → OtherSockets before mid at → OtherSockets mid after at → IsGreeted nodes contest old new conn.key (after at)
    → ServesScreens nodes contest old conns before → ServesScreens nodes contest new conns_new after
serving_inserted {nodes} {contest} old new conns reserved conns_new before mid after at place conn same here updates accepts former others more greeted serving =
    serving_accepted old new conns conns_new before after at conn.key
    (λ other away. ap key_of (updates.others other (λ e. away (e ∙ here))) ∙ ap key_of (same other))
    (subst (λ n. key_at conns_new n ≡ Some conn.key) here (ap key_of updates.changed))
    greeted (former_same _ _ (mid at) (after at) former (over_so at (opened [] []) (mid at) accepts serving)) (λ other away. more other away ∙ others other away) serving

-- what is written to one more than there may be
pub refused_sent : {E : Type 0} (nodes : List NodeState) (contest came : List ℕ) (before after : Option Socket) (result : Result ℕ E) → IsWrite before after result full_text → IsSocket before (opened came []) → IsSent nodes contest after
refused_sent nodes contest came before after (Ok count) writes is =
    record {
      came = came;
      bytes = take count full_text;
      socket_is = subst (λ s. IsSocket s (opened came (take count full_text))) (sym writes) (more_written before came [] (take count full_text) is);
      faithful = refused count;
    }
refused_sent nodes contest came before after (Err _) writes is =
    record { came = came; bytes = []; socket_is = subst (λ s. IsSocket s (opened came [])) (sym writes) is; faithful = nothing }

pub refused_former : {E : Type 0} (before after : Option Socket) (result : Result ℕ E) (text : List ℕ) → IsWrite before after result text → former_of after ≡ former_of before
refused_former before after (Ok count) text writes = former_becomes _ before after writes
refused_former before after (Err _) text writes = ap former_of writes

-- what a read gave is to be heard
pub read_so : {nodes : List NodeState} {contest : List ℕ} (hub : Hub) (conns : Slab Conn) (before after : AllSockets) (at : ℕ) (bytes : List ℕ)
    → after at ≡ on_current (came_to bytes) (before at) → OtherSockets before after at
    → ServesScreens nodes contest hub conns before → ServesBut nodes contest hub conns after at bytes
read_so hub conns before after at bytes more others serving = record { before = before; came = record { more = more; others = others }; serving = serving }

-- nothing came
pub serving_unread : {nodes : List NodeState} {contest : List ℕ} (hub : Hub) (conns : Slab Conn) (before after : AllSockets) (at : ℕ) → after at ≡ before at → OtherSockets before after at
    → ServesScreens nodes contest hub conns before → ServesScreens nodes contest hub conns after
serving_unread hub conns before after at here others serving =
    serving_same {old = hub} {new = hub} {conns = conns} {conns_new = conns} refl (λ _. refl) (same_sockets before after at here others) serving

-- what came of a connection without a key is read and forgotten
pub serving_forgotten : {nodes : List NodeState} {contest : List ℕ} {E : Type 0} (hub : Hub) (conns : Slab Conn) (before after : AllSockets) (at : ℕ) (result : Result ℕ E) (bytes : List ℕ)
    → GivesBytes (before at) (after at) result bytes → OtherSockets before after at → key_at conns at ≡ Some None
    → ServesScreens nodes contest hub conns before → ServesScreens nodes contest hub conns after
serving_forgotten hub conns before after at (Ok count) bytes reads others keyless_at serving =
    serving_further hub conns after at (take count bytes) (λ key keyed asked. let none : Some None ≡ Some (Some key) = sym keyless_at ∙ keyed in absurd (cc))
    (read_so hub conns before after at (take count bytes) reads others serving)
serving_forgotten hub conns before after at (Err _) bytes reads others keyless_at serving = serving_unread hub conns before after at reads others serving

-- ---- what requests are answered with

pub answerer_among : (nodes : List NodeState) (is_held : Bool) (shown blank : NodeState) → Contains nodes shown → (is_held ≡ true → Contains nodes blank)
    → Contains nodes (answerer is_held shown blank)
answerer_among nodes false shown blank among among_blank = among
answerer_among nodes true shown blank among among_blank = among_blank refl

-- ---- at the start, and at each moment

unused_closed : (socket : Option Socket) → IsUnused socket → IsSocket socket closed
unused_closed None is = tt
unused_closed (Some known) is = ap (λ s. s.current) is

unused_former : (nodes : List NodeState) (contest : List ℕ) (socket : Option Socket) → IsUnused socket → WereFaithful nodes contest socket
unused_former nodes contest None is = tt
unused_former nodes contest (Some known) is = subst (λ s. AllByRecursion (WasFaithful nodes contest) s.former) (sym is) tt

-- no connection, and no socket that was ever used
pub serving_none : {nodes : List NodeState} {contest : List ℕ} (hub : Hub) (conns : Slab Conn) (sockets : AllSockets) → ((at : ℕ) → get conns at ≡ None) → ((at : ℕ) → IsUnused (sockets at)) → ServesScreens nodes contest hub conns sockets
serving_none {nodes} {contest} hub conns sockets empty unused =
    record {
      each = λ at. subst (λ k. SocketStands nodes contest hub k (sockets at)) (sym (ap key_of (empty at))) (unused_closed (sockets at) (unused at));
      former = λ at. unused_former nodes contest (sockets at) (unused at);
      one = λ at other key is _. let no : None ≡ Some (Some key) = sym (ap key_of (empty at)) ∙ is in absurd (cc);
      below = λ at key is. let no : None ≡ Some (Some key) = sym (ap key_of (empty at)) ∙ is in absurd (cc);
    }
