-- What an event at one mirror does to all nodes.
use Rattle.std.proofs.Common.{Bor, ◌≡◌, refl, sym, ap, ◌∙◌, subst, ℕ, zero, suc, ◌+◌, ◌-◌, ◌<◌, ◌≤◌, Bool, true, false, not, ◌&&◌, nat_le, IfSome, arith, List, [], ◌∷◌, ◌++◌, length, map, take, drop, Option, Some, None, inl, inr, Result, Ok, Err, IfOk, IfErr, slice_get, slice_set, get_or}
use Rattle.std.proofs.lemmas.List.{length-map}
use Rattle.std.proofs.lemmas.Option.{slice_get_past, slice_get-get_or, slice_get_within, slice_get-map}
use Rattle.std.specs.Option.{option_and_then}
use Rattle.std.specs.Prelude.{IsTrue, if◌then◌else◌, ◌⊎◌, ◌==◌, option_map, option_copied, IfNone}
use Rattle.feed_settings.specs.Limits.{Limits}
use Rattle.feed_settings.specs.declared.framing.Framing.{Framing}
use Rattle.feed_node.specs.Log.{PrimaryState}
use Rattle.feed_node.specs.States.{Node, NodeState}
use Rattle.feed_world.specs.declared.event.Event.{Event}
use Rattle.feed_world.specs.declared.event.Event.TheVariants.{Deliver, Connect}
use Rattle.feed_world.specs.declared.event.Reply.{Reply}
use Rattle.feed_world.specs.declared.event.WorldFault.{WorldFault}
use Rattle.feed_world.specs.declared.event.WorldFault.TheVariants.{NoNode, NoConnection, Memory}
use Rattle.feed_world.specs.Log.{Log, numbered}
use Rattle.feed_world.specs.Connection.{Connection}
use Rattle.feed_world.specs.Position.{Position, IsPlaceOfLog, node_where}
use Rattle.feed_world.specs.States.{FollowingMirror, IsMirror, ConnectionState, AreLinked, AreMirrors, AreNodes, Moves, RefusesMove, BreaksMirror, BreaksConnect, NodesMove, IsBrought, all_shown}
use Rattle.feed_world.specs.Step.{Move, Outcome, outcome, at_node, with_node, after_move, with_connection, is_free, is_free_reply, EventIsRefused, Breaks, BreaksRefusal, BrokeForMemory, linked, mirror_connects, mirror_serves, mirror_idles, mirror_delivers, mirror_cuts, mirror_saves, mirror_restarts, turned_to, connects, connects_to, holds_number, brought_to}
use Rattle.feed_world.specs.World.{Mirror, World, is_other, mirror_at, with_mirror, place_at}

-- ---- lists of mirrors

module _ (limits : Limits) (log : Log) where
  pub same_length : (ms : List Mirror) (fs : List FollowingMirror) → AreMirrors limits log ms fs → length ms ≡ length fs
  same_length [] [] h = refl
  same_length [] (f ∷ fs) h = absurd h
  same_length (m ∷ ms) [] h = absurd h
  same_length (m ∷ ms) (f ∷ fs) h = ap suc (same_length ms fs h.1)

  pub mirror_of : (ms : List Mirror) (fs : List FollowingMirror) (place : ℕ) (f : FollowingMirror) → AreMirrors limits log ms fs → slice_get fs place ≡ Some f
      → (m : Mirror) × (slice_get ms place ≡ Some m) × IsMirror limits log m f
  mirror_of [] [] place f h e = absurd (cc)
  mirror_of [] (g ∷ fs) place f h e = absurd h
  mirror_of (m ∷ ms) [] place f h e = absurd h
  mirror_of (m ∷ ms) (g ∷ fs) zero f h e = (m, refl, subst (λ o. option_is (IsMirror limits log m) o) e h.0)
    where
      option_is : (FollowingMirror → Type 0) → Option FollowingMirror → Type 0
      option_is P None = Unit {0}
      option_is P (Some x) = P x
  mirror_of (m ∷ ms) (g ∷ fs) (suc place) f h e = mirror_of ms fs place f h.1 e

  set_both : (ms : List Mirror) (fs : List FollowingMirror) (place : ℕ) (m : Mirror) (f : FollowingMirror) → AreMirrors limits log ms fs → IsMirror limits log m f
      → AreMirrors limits log (slice_set ms place m) (slice_set fs place f)
  set_both [] [] place m f h k = h
  set_both [] (g ∷ fs) place m f h k = absurd h
  set_both (n ∷ ms) [] place m f h k = absurd h
  set_both (n ∷ ms) (g ∷ fs) zero m f h k = (k, h.1)
  set_both (n ∷ ms) (g ∷ fs) (suc place) m f h k = (h.0, set_both ms fs place m f h.1 k)

-- what holds of each mirror holds after one was put in another's place
module _ (P : ℕ → Mirror → Type 0) where
  each_set : (ms : List Mirror) (base place : ℕ) (n : Mirror) → ((i : ℕ) → IfSome (slice_get ms i) (P (base + i))) → P (base + place) n
      → (i : ℕ) → IfSome (slice_get (slice_set ms place n) i) (P (base + i))
  each_set [] base place n h k i = tt
  each_set (m ∷ ms) base zero n h k zero = k
  each_set (m ∷ ms) base zero n h k (suc i) = h (suc i)
  each_set (m ∷ ms) base (suc place) n h k zero = h zero
  each_set (m ∷ ms) base (suc place) n h k (suc i) =
      let e : (j : ℕ) → suc base + j ≡ base + suc j = λ j. omega arith in
      subst (λ q. IfSome (slice_get (slice_set ms place n) i) (P q)) (e i)
      (each_set ms (suc base) place n (λ j. subst (λ q. IfSome (slice_get ms j) (P q)) (sym (e j)) (h (suc j))) (subst (λ q. P q n) (sym (e place)) k) i)

  each_put : (ms : List Mirror) (place : ℕ) (n : Mirror) → ((i : ℕ) → IfSome (slice_get ms i) (P i)) → P place n → (i : ℕ) → IfSome (slice_get (slice_set ms place n) i) (P i)
  each_put ms place n h k i =
      let e : (j : ℕ) → 0 + j ≡ j = λ j. omega arith in
      subst (λ q. IfSome (slice_get (slice_set ms place n) i) (P q)) (e i)
      (each_set ms 0 place n (λ j. subst (λ q. IfSome (slice_get ms j) (P q)) (sym (e j)) (h j)) (subst (λ q. P q n) (sym (e place)) k) i)

length_set : (ms : List Mirror) (place : ℕ) (n : Mirror) → length (slice_set ms place n) ≡ length ms
length_set [] place n = refl
length_set (m ∷ ms) zero n = refl
length_set (m ∷ ms) (suc place) n = ap suc (length_set ms place n)

-- ---- one mirror moves

module _ (w : World) (primary : PrimaryState) (fs : List FollowingMirror) (h : AreNodes w primary fs) where
  put_back : (place : ℕ) (n : Mirror) (f : FollowingMirror) → is_other w (suc place) n.upstream ≡ true → IsMirror w.limits (numbered w.log) n f
      → AreNodes (with_mirror w (suc place) n) primary (slice_set fs place f)
  put_back place n f other k =
      record {
        log = h.log;
        latest = h.latest;
        place = h.place;
        shows = h.shows;
        others = λ i. subst (λ l. IfSome (slice_get (slice_set w.mirrors place n) i) (λ m. (nat_le m.upstream l && not (m.upstream == suc i)) ≡ true)) (sym (length_set w.mirrors place n))
            (each_put (λ j m. is_other w (suc j) m.upstream ≡ true) w.mirrors place n h.others other i);
        mirrors = set_both w.limits (numbered w.log) w.mirrors fs place n f h.mirrors k;
      }

-- the outcome is this reply and a world of these nodes
pub record LeadsTo (w : World) (o : Outcome) (primary : PrimaryState) (reply : Reply) (fs : List FollowingMirror) : Type 0 where
  pub after : World
  pub outcome : o ≡ Ok (reply, after)
  pub limits : after.limits ≡ w.limits
  pub framing : after.framing ≡ w.framing
  pub log : after.log ≡ w.log
  pub nodes : AreNodes after primary fs

pub moved : (w : World) (primary : PrimaryState) (fs : List FollowingMirror) → AreNodes w primary fs → (place : ℕ) (m : Mirror) (r : Result Move WorldFault) → slice_get w.mirrors place ≡ Some m
    → IfOk r (λ move. is_other w (suc place) move.1.upstream ≡ true) → (reply : Reply) (f : FollowingMirror) → Moves w.limits (numbered w.log) r reply f
    → LeadsTo w (after_move w (suc place) r) primary reply (slice_set fs place f)
moved w primary fs h place m (Err fault) there keeps reply f k = absurd k
moved w primary fs h place m (Ok move) there keeps reply f k =
    record {
      after = with_mirror w (suc place) move.1;
      outcome = ap (λ x. Ok (x, with_mirror w (suc place) move.1)) (sym k.0);
      limits = refl;
      framing = refl;
      log = refl;
      nodes = put_back w primary fs h place move.1 f keeps k.1;
    }

pub outcome_at : (w : World) (place : ℕ) (m : Mirror) (act : Mirror → Result Move WorldFault) → slice_get w.mirrors place ≡ Some m → at_node w (suc place) act ≡ after_move w (suc place) (act m)
outcome_at w place m act there = ap (λ o. with_node w (suc place) o act) there

-- ---- refusals

abbrev pub RefusesOutcome : Outcome → WorldFault → Type 0
RefusesOutcome (Ok p) fault = (fault ≡ Memory) × (is_free_reply p.0 ≡ false)
RefusesOutcome (Err reason) fault = fault ≡ reason

move_refused : (w : World) (i : ℕ) (r : Result Move WorldFault) (fault : WorldFault) → RefusesMove r fault → RefusesOutcome (after_move w i r) fault
move_refused w i (Ok move) fault k = k
move_refused w i (Err reason) fault k = k

not_of_false : (b : Bool) → b ≡ false → ¬ (IsTrue b)
not_of_false true e t = absurd (cc)
not_of_false false e t = absurd (cc)

-- a fault is the outcome, or a want of memory that comes where memory is taken
pub refused_by : (o : Outcome) (fault : WorldFault) → RefusesOutcome o fault → (o ≡ Err fault) ⊎ ((fault ≡ Memory) × ¬ (IsTrue (is_free o)))
refused_by (Ok p) fault k = inr (k.0, not_of_false (is_free_reply p.0) k.1)
refused_by (Err reason) fault k = inl (ap Err (sym k))

-- one that is none is the outcome
refused_as : (o : Outcome) (fault : WorldFault) → ¬ (fault ≡ Memory) → RefusesOutcome o fault → o ≡ Err fault
refused_as (Ok p) fault other k = absurd (other k.0)
refused_as (Err reason) fault other k = ap Err (sym k)

-- ---- moves after which a mirror has connected to another node last, as before

abbrev pub Keeps : World → ℕ → (Mirror → Result Move WorldFault) → Type 0
Keeps w i act = (m : Mirror) → is_other w i m.upstream ≡ true → IfOk (act m) (λ move. is_other w i move.1.upstream ≡ true)

-- the node that it connected to last
abbrev IsBehind : ℕ → Result Move WorldFault → Type 0
IsBehind j r = IfOk r (λ move. move.1.upstream ≡ j)

still_other : (w : World) (i j : ℕ) (r : Result Move WorldFault) → IsBehind j r → is_other w i j ≡ true → IfOk r (λ move. is_other w i move.1.upstream ≡ true)
still_other w i j (Ok move) same other = ap (is_other w i) same ∙ other
still_other w i j (Err fault) same other = tt

choose_keeps : (j : ℕ) (b : Bool) (x y : Move) → x.1.upstream ≡ j → y.1.upstream ≡ j → (if b then x else y).1.upstream ≡ j
choose_keeps j true x y p q = p
choose_keeps j false x y p q = q

connects_to_keeps : (framing : Framing) (m : Mirror) (server : Position) (own : Option Position) (back : ℕ) → (connects_to framing m server own back).1.upstream ≡ m.upstream
connects_to_keeps framing m server None back = refl
connects_to_keeps framing m server (Some own) back = choose_keeps m.upstream m.afresh _ _ refl (choose_keeps m.upstream (holds_number server own.at) _ _ refl refl)

connects_keeps : (framing : Framing) (m : Mirror) (server : Option Position) (back : ℕ) → (connects framing m server back).1.upstream ≡ m.upstream
connects_keeps framing m None back = refl
connects_keeps framing m (Some server) back = connects_to_keeps framing m server m.place back

linked_keeps : (m : Mirror) (c : Option Connection) (act : Connection → Move) → ((d : Connection) → (act d).1.upstream ≡ m.upstream) → IsBehind m.upstream (with_connection c act)
linked_keeps m None act k = tt
linked_keeps m (Some c) act k = k c

-- a mirror that connects turns to the node that it connects to
pub keeps_connect : (w : World) (i j back : ℕ) → is_other w i j ≡ true → Keeps w i (λ m. mirror_connects w.framing j back m (place_at w j))
keeps_connect w i j back other m old = still_other w i j (mirror_connects w.framing j back m (place_at w j)) (connects_keeps w.framing (turned_to j m) (place_at w j) back) other

pub keeps_serve : (w : World) (i : ℕ) → Keeps w i (λ m. mirror_serves m (place_at w m.upstream))
keeps_serve w i m = still_other w i m.upstream (mirror_serves m (place_at w m.upstream)) (linked_keeps m m.connection _ (λ c. refl))

pub keeps_idle : (w : World) (i : ℕ) → Keeps w i mirror_idles
keeps_idle w i m = still_other w i m.upstream (mirror_idles m) (linked_keeps m m.connection _ (λ c. refl))

keeps_deliver : (w : World) (i n : ℕ) → Keeps w i (mirror_delivers w.limits.history (numbered w.log) n)
keeps_deliver w i n m = still_other w i m.upstream (mirror_delivers w.limits.history (numbered w.log) n m) (linked_keeps m m.connection _ (λ c. refl))

pub keeps_cut : (w : World) (i : ℕ) → Keeps w i mirror_cuts
keeps_cut w i m = still_other w i m.upstream (mirror_cuts m) (linked_keeps m m.connection _ (λ c. refl))

pub keeps_save : (w : World) (i : ℕ) → Keeps w i (mirror_saves (numbered w.log))
keeps_save w i m = still_other w i m.upstream (mirror_saves (numbered w.log) m) refl

pub keeps_restart : (w : World) (i n : ℕ) → Keeps w i (mirror_restarts (numbered w.log) n)
keeps_restart w i n m = still_other w i m.upstream (mirror_restarts (numbered w.log) n m) refl

-- ---- where nodes are

abbrev pub IsShown : World → ℕ → NodeState → Type 0
IsShown w i node = (node ≡ node_where (numbered w.log) (place_at w i)) × IsPlaceOfLog w.limits (numbered w.log) (place_at w i)

module _ (w : World) (primary : PrimaryState) (fs : List FollowingMirror) (h : AreNodes w primary fs) where
  shown_mirror : (ms : List Mirror) (gs : List FollowingMirror) (i : ℕ) (node : NodeState) → AreMirrors w.limits (numbered w.log) ms gs → slice_get (map (λ f. f.mirror.node) gs) i ≡ Some node
      → (node ≡ node_where (numbered w.log) (option_and_then (λ m. m.place) (slice_get ms i))) × IsPlaceOfLog w.limits (numbered w.log) (option_and_then (λ m. m.place) (slice_get ms i))
  shown_mirror [] [] i node k e = absurd (cc)
  shown_mirror [] (g ∷ gs) i node k e = absurd k
  shown_mirror (m ∷ ms) [] i node k e = absurd k
  shown_mirror (m ∷ ms) (g ∷ gs) zero node k e = (sym (same_node e) ∙ k.0.node, k.0.place)
    where
      node_or : Option NodeState → NodeState
      node_or None = g.mirror.node
      node_or (Some n) = n

      same_node : Some g.mirror.node ≡ Some node → g.mirror.node ≡ node
      same_node p = ap node_or p
  shown_mirror (m ∷ ms) (g ∷ gs) (suc i) node k e = shown_mirror ms gs i node k.1 e

  pub shown : (i : ℕ) (node : NodeState) → slice_get (all_shown primary fs) i ≡ Some node → IsShown w i node
  shown zero node e = (sym (same_node e) ∙ ap (λ p. p.node) h.shows, h.place)
    where
      node_or : Option NodeState → NodeState
      node_or None = primary.node
      node_or (Some n) = n

      same_node : Some primary.node ≡ Some node → primary.node ≡ node
      same_node p = ap node_or p
  shown (suc i) node e = shown_mirror w.mirrors fs i node h.mirrors e

-- it is one of the nodes
pub within : (w : World) (primary : PrimaryState) (fs : List FollowingMirror) → AreNodes w primary fs → (i : ℕ) (node : NodeState) → slice_get (all_shown primary fs) i ≡ Some node → i ≤ length w.mirrors
within w primary fs h i node e =
    let a = slice_get_within (all_shown primary fs) i node e in
    let b = length-map fs (λ f. f.mirror.node) in
    let l = same_length w.limits (numbered w.log) w.mirrors fs h.mirrors in
    omega (arith, a, b, l)

-- ---- events

pub event_moves : (w : World) (primary : PrimaryState) (event : Event) (reply : Reply) (fs : List FollowingMirror) → LeadsTo w (outcome w event) primary reply fs → NodesMove w primary event reply fs
event_moves w primary event reply fs l = (l.after, record { step = inl l.outcome; limits = l.limits; framing = l.framing; log = l.log }, l.nodes)

-- a mirror without a connection has none in memory, and the other way round
no_link : (limits : Limits) (log : Log) (m : Mirror) (f : FollowingMirror) (c : Option Connection) (s : Option ConnectionState) → AreLinked limits log m c f s → s ≡ None → c ≡ None
no_link limits log m f None s k e = refl
no_link limits log m f (Some c) None k e = absurd k
no_link limits log m f (Some c) (Some s) k e = absurd (cc)

-- where there is no connection, a cut and a delivery are refused
module _ (limits : Limits) (log : Log) (m : Mirror) (f : FollowingMirror) (act : Connection → Move) where
  unlinked : (fault : WorldFault) → IsMirror limits log m f → (fault ≡ NoConnection) × (f.connection ≡ None) → RefusesMove (with_connection m.connection act) fault
  unlinked fault k e = subst (λ o. RefusesMove (with_connection o act) fault) (sym (no_link limits log m f m.connection f.connection k.linked e.1)) e.0

  pub refused_unlinked : (r : Result Reply WorldFault) → IsMirror limits log m f → IfErr r (λ fault. (fault ≡ NoConnection) × (f.connection ≡ None)) → IfErr r (λ fault. RefusesMove (with_connection m.connection act) fault)
  refused_unlinked (Ok reply) k e = tt
  refused_unlinked (Err fault) k e = unlinked fault k e

-- no mirror has the number
no_mirror : (w : World) (number : ℕ) (act : Mirror → Result Move WorldFault) → ((place : ℕ) → number ≡ suc place → length w.mirrors ≤ place) → at_node w number act ≡ Err NoNode
no_mirror w zero act k = refl
no_mirror w (suc place) act k = ap (λ o. with_node w (suc place) o act) (slice_get_past w.mirrors place (k place refl))

pub nobody : (w : World) (primary : PrimaryState) (fs : List FollowingMirror) → AreNodes w primary fs → (number : ℕ) (act : Mirror → Result Move WorldFault)
    → ((place : ℕ) → number ≡ suc place → length fs ≤ place) → at_node w number act ≡ Err NoNode
nobody w primary fs h number act k =
    no_mirror w number act (λ place e. let l = same_length w.limits (numbered w.log) w.mirrors fs h.mirrors in let m = k place e in omega arith)

module _ (w : World) (primary : PrimaryState) (fs : List FollowingMirror) (h : AreNodes w primary fs) (number place : ℕ) (same : number ≡ suc place) (d : FollowingMirror) (less : place < length fs) where
  -- the mirror of this number
  pub at : (m : Mirror) × (slice_get w.mirrors place ≡ Some m) × IsMirror w.limits (numbered w.log) m (get_or fs place d)
  at = mirror_of w.limits (numbered w.log) w.mirrors fs place (get_or fs place d) h.mirrors (slice_get-get_or fs place d less)

  -- it connected to another node last
  other_at : is_other w (suc place) at.0.upstream ≡ true
  other_at = subst (λ o. IfSome o (λ m. is_other w (suc place) m.upstream ≡ true)) at.1 (h.others place)

  pub leads : (act : Mirror → Result Move WorldFault) → Keeps w (suc place) act → (reply : Reply) (f : FollowingMirror) → Moves w.limits (numbered w.log) (act at.0) reply f
      → LeadsTo w (at_node w number act) primary reply (slice_set fs place f)
  leads act keeps reply f k =
      subst (λ n. LeadsTo w (at_node w n act) primary reply (slice_set fs place f)) (sym same)
      (subst (λ o. LeadsTo w o primary reply (slice_set fs place f)) (sym (outcome_at w place at.0 act at.1)) (moved w primary fs h place at.0 (act at.0) at.1 (keeps at.0 other_at) reply f k))

  refuses : (act : Mirror → Result Move WorldFault) (fault : WorldFault) → RefusesMove (act at.0) fault → RefusesOutcome (at_node w number act) fault
  refuses act fault k =
      subst (λ n. RefusesOutcome (at_node w n act) fault) (sym same)
      (subst (λ o. RefusesOutcome o fault) (sym (outcome_at w place at.0 act at.1)) (move_refused w (suc place) (act at.0) fault k))

  -- an event at which the mirror makes this move
  pub move_leads : (event : Event) (act : Mirror → Result Move WorldFault) → at_node w number act ≡ outcome w event → Keeps w (suc place) act → (r : Result Reply WorldFault) (f : FollowingMirror)
      → ((m : Mirror) → IsMirror w.limits (numbered w.log) m (get_or fs place d) → IfOk r (λ reply. Moves w.limits (numbered w.log) (act m) reply f))
      → IfOk r (λ reply. NodesMove w primary event reply (slice_set fs place f))
  move_leads event act is keeps (Ok reply) f k =
      event_moves w primary event reply _ (subst (λ o. LeadsTo w o primary reply (slice_set fs place f)) is (leads act keeps reply f (k at.0 at.2)))
  move_leads event act is keeps (Err fault) f k = tt

  -- why it makes none; a want of memory is told so
  pub move_fails : (act : Mirror → Result Move WorldFault) (r : Result Reply WorldFault)
      → ((m : Mirror) → IsMirror w.limits (numbered w.log) m (get_or fs place d) → IfErr r (λ fault. RefusesMove (act m) fault))
      → IfErr r (λ fault. (at_node w number act ≡ Err fault) ⊎ ((fault ≡ Memory) × ¬ (IsTrue (is_free (at_node w number act)))))
  move_fails act (Ok reply) k = tt
  move_fails act (Err fault) k = refused_by (at_node w number act) fault (refuses act fault (k at.0 at.2))

  broken : (n : ℕ) (reply : Reply) (f : FollowingMirror) → BrokeForMemory number reply → BreaksMirror w.limits (numbered w.log) at.0 n f → NodesMove w primary (Deliver number n) reply (slice_set fs place f)
  broken n reply f is b =
      let after : World = with_mirror w (suc place) (brought_to w.limits.history (numbered w.log) at.0 b.connection b.e None) in
      let breaks : Breaks w number n after = record {
        mirror = at.0;
        connection = b.connection;
        is_there = ap (mirror_at w) same ∙ at.1;
        is_linked = b.is_linked;
        some = b.some;
        e = b.e;
        from = b.from;
        to = b.to;
        after = ap (λ j. with_mirror w j (brought_to w.limits.history (numbered w.log) at.0 b.connection b.e None)) (sym same);
      } in
      (after, record { step = inr (is, breaks); limits = refl; framing = refl; log = refl }, put_back w primary fs h place _ f other_at b.is_mirror)

  delivered : (n : ℕ) (reply : Reply) (f : FollowingMirror) → IsBrought w.limits (numbered w.log) at.0 number n reply f → NodesMove w primary (Deliver number n) reply (slice_set fs place f)
  delivered n reply f (inl moves) =
      event_moves w primary (Deliver number n) reply _ (leads (mirror_delivers w.limits.history (numbered w.log) n) (keeps_deliver w (suc place) n) reply f moves)
  delivered n reply f (inr broke) = broken n reply f broke.0 broke.1

  -- a connect at which following the refusal broke off
  pub refusal_broke : (j back : ℕ) (reply : Reply) (f : FollowingMirror) → is_other w number j ≡ true → BrokeForMemory number reply
      → BreaksConnect w.limits (numbered w.log) w.framing at.0 j back (place_at w j) f → NodesMove w primary (Connect number j back) reply (slice_set fs place f)
  refusal_broke j back reply f other is b =
      let after : World = with_mirror w (suc place) (linked (turned_to j at.0) None) in
      let breaks : BreaksRefusal w number j back after = record {
        mirror = at.0;
        other = other;
        is_there = ap (mirror_at w) same ∙ at.1;
        refusal = b.refusal;
        after = ap (λ k. with_mirror w k (linked (turned_to j at.0) None)) (sym same);
      } in
      (after, record { step = inr (is, breaks); limits = refl; framing = refl; log = refl }, put_back w primary fs h place _ f (ap (λ k. is_other w k j) (sym same) ∙ other) b.is_mirror)

  pub deliver_leads : (n : ℕ) (r : Result Reply WorldFault) (f : FollowingMirror)
      → ((m : Mirror) → IsMirror w.limits (numbered w.log) m (get_or fs place d) → IfOk r (λ reply. IsBrought w.limits (numbered w.log) m number n reply f)) → IfOk r (λ reply. NodesMove w primary (Deliver number n) reply (slice_set fs place f))
  deliver_leads n (Ok reply) f k = delivered n reply f (k at.0 at.2)
  deliver_leads n (Err fault) f k = tt

  pub deliver_fails : (n : ℕ) (r : Result Reply WorldFault) → IfErr r (λ fault. (fault ≡ NoConnection) × ((get_or fs place d).connection ≡ None)) → IfErr r (λ fault. EventIsRefused w (Deliver number n) fault)
  deliver_fails n (Ok reply) k = tt
  deliver_fails n (Err fault) k =
      inl (refused_as (outcome w (Deliver number n)) fault (λ e. let both : NoConnection ≡ Memory = sym k.0 ∙ e in absurd (cc))
      (refuses (mirror_delivers w.limits.history (numbered w.log) n) fault (unlinked w.limits (numbered w.log) at.0 _ _ fault at.2 k)))

-- ---- a mirror between the others

set_between : (fs : List FollowingMirror) (place : ℕ) (g : FollowingMirror) → take place fs ++ (slice_set (take 1 (drop place fs)) 0 g ++ drop 1 (drop place fs)) ≡ slice_set fs place g
set_between [] zero g = refl
set_between (f ∷ fs) zero g = refl
set_between [] (suc place) g = refl
set_between (f ∷ fs) (suc place) g = ap (λ xs. f ∷ xs) (set_between fs place g)

pub put_between : (fs early rest own later : List FollowingMirror) (place : ℕ) (g : FollowingMirror) → early ≡ take place fs → rest ≡ drop place fs → own ≡ take 1 rest → later ≡ drop 1 rest
    → early ++ (slice_set own 0 g ++ later) ≡ slice_set fs place g
put_between fs early rest own later place g e r o l =
    (λ i. e i ++ (slice_set ((o ∙ ap (take 1) r) i) 0 g ++ (l ∙ ap (drop 1) r) i)) ∙ set_between fs place g

around : (fs : List FollowingMirror) (place : ℕ) (d : FollowingMirror) → place < length fs → take place fs ++ get_or fs place d ∷ drop 1 (drop place fs) ≡ fs
around [] place d less = absurd (omega arith)
around (f ∷ fs) zero d less = refl
around (f ∷ fs) (suc place) d less = ap (λ xs. f ∷ xs) (around fs place d (omega arith))

pub between : (fs early rest later : List FollowingMirror) (place : ℕ) (d : FollowingMirror) → place < length fs → early ≡ take place fs → rest ≡ drop place fs → later ≡ drop 1 rest
    → early ++ get_or fs place d ∷ later ≡ fs
between fs early rest later place d less e r l = (λ i. e i ++ get_or fs place d ∷ (l ∙ ap (drop 1) r) i) ∙ around fs place d less

pub first_of_rest : (fs rest own : List FollowingMirror) (place : ℕ) (d : FollowingMirror) → ((k : ℕ) (x : FollowingMirror) → get_or rest k x ≡ get_or fs (place + k) x)
    → get_or own 0 d ≡ get_or rest 0 d → get_or own 0 d ≡ get_or fs place d
first_of_rest fs rest own place d k o = o ∙ k 0 d ∙ ap (λ n. get_or fs n d) (omega arith)

-- ---- the nodes besides one mirror

module _ (primary : PrimaryState) where
  pub always_there : (early : List FollowingMirror) (i : ℕ) → i ≤ length early → None ≡ slice_get (all_shown primary early) i → ⊥
  always_there early zero less e = absurd (cc)
  always_there [] (suc i) less e = absurd (omega arith)
  always_there (f ∷ early) (suc zero) less e = absurd (cc)
  always_there (f ∷ early) (suc (suc i)) less e = always_there early (suc i) (omega arith) e

  shown_in : (early later : List FollowingMirror) (i : ℕ) (node : NodeState) → slice_get (map (λ f. f.mirror.node) early) i ≡ Some node → slice_get (map (λ f. f.mirror.node) (early ++ later)) i ≡ Some node
  shown_in [] later i node e = absurd (cc)
  shown_in (f ∷ early) later zero node e = e
  shown_in (f ∷ early) later (suc i) node e = shown_in early later i node e

  pub shown_before : (early later : List FollowingMirror) (i : ℕ) (node : NodeState) → slice_get (all_shown primary early) i ≡ Some node → slice_get (all_shown primary (early ++ later)) i ≡ Some node
  shown_before early later zero node e = e
  shown_before early later (suc i) node e = shown_in early later i node e

  shown_at_end : (early later : List FollowingMirror) (f g : FollowingMirror) (i : ℕ) → slice_get later i ≡ Some g → slice_get (map (λ h. h.mirror.node) (early ++ f ∷ later)) (suc (length early + i)) ≡ Some g.mirror.node
  shown_at_end [] later f g i e = ap (λ k. slice_get (map (λ h. h.mirror.node) later) k) (omega arith) ∙ shown_of later g i e
    where
      shown_of : (fs : List FollowingMirror) (g : FollowingMirror) (k : ℕ) → slice_get fs k ≡ Some g → slice_get (map (λ h. h.mirror.node) fs) k ≡ Some g.mirror.node
      shown_of fs g k e = slice_get-map (λ h. h.mirror.node) fs k ∙ ap (option_map (λ h. h.mirror.node)) e
  shown_at_end (h ∷ early) later f g i e =
      let same : suc (length early) + i ≡ suc (length early + i) = omega arith in
      ap (λ k. slice_get (map (λ q. q.mirror.node) (early ++ f ∷ later)) k) same ∙ shown_at_end early later f g i e

  pub shown_behind : (early later : List FollowingMirror) (f g : FollowingMirror) (i number : ℕ) → slice_get later i ≡ Some g → number ≡ suc (suc (length early + i)) → slice_get (all_shown primary (early ++ f ∷ later)) number ≡ Some g.mirror.node
  shown_behind early later f g i number e same = ap (λ k. slice_get (all_shown primary (early ++ f ∷ later)) k) same ∙ shown_at_end early later f g i e

  -- one among the first
  pub found_before : (early later : List FollowingMirror) (i : ℕ) (r : Option (Bor Node)) → option_map (λ node. node.shown) (option_copied r) ≡ slice_get (all_shown primary early) i
      → IfSome r (λ node. slice_get (all_shown primary (early ++ later)) i ≡ Some node.now.shown)
  found_before early later i None e = tt
  found_before early later i (Some node) e = shown_before early later i node.now.shown (sym e)

  pub found_there : (early : List FollowingMirror) (i : ℕ) (P : Type 0) (r : Option (Bor Node)) → i ≤ length early → option_map (λ node. node.shown) (option_copied r) ≡ slice_get (all_shown primary early) i → IfNone r P
  found_there early i P None less e = absurd (always_there early i less e)
  found_there early i P (Some node) less e = tt

get_node : (fs : List FollowingMirror) (place : ℕ) (d : FollowingMirror) → place < length fs → Some (get_or fs place d).mirror.node ≡ slice_get (map (λ f. f.mirror.node) fs) place
get_node [] place d less = absurd (omega arith)
get_node (f ∷ fs) zero d less = refl
get_node (f ∷ fs) (suc place) d less = get_node fs place d (omega arith)

at_number : (primary : PrimaryState) (fs : List FollowingMirror) (number place : ℕ) (d : FollowingMirror) → number ≡ suc place → place < length fs → Some (get_or fs place d).mirror.node ≡ slice_get (all_shown primary fs) number
at_number primary fs number place d same less = get_node fs place d less ∙ ap (λ n. slice_get (all_shown primary fs) n) (sym same)

pub among_mirrors : (primary : PrimaryState) (fs : List FollowingMirror) (number place : ℕ) (f : FollowingMirror) (node : NodeState) → 1 ≤ number → place ≡ number - 1 → place < length fs
    → f ≡ get_or fs place f → node ≡ f.mirror.node → Some node ≡ slice_get (all_shown primary fs) number
among_mirrors primary fs number place f node some same less is n =
    ap Some (n ∙ ap (λ g. g.mirror.node) is) ∙ at_number primary fs number place f (omega arith) less
