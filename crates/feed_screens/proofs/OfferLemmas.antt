-- What is pending is offered at each place, one after another.
use Rattle.std.proofs.Common.{◌≡◌, ◌≢◌, ◌<◌, ◌≤◌, ◌+◌, arith, refl, sym, ap, ◌∙◌, subst, inl, inr, ℕ, [], length, Option, Some, None}
use Rattle.std.proofs.lemmas.Bool.Decides.{eqb_tells, leb_tells}
use Rattle.std.proofs.lemmas.List.{get_or_past}
use Rattle.std.specs.Prelude.{leb, ◌==◌, ◌⊎◌, true, false}
use Rattle.slab.specs.Slab.{Slab, get}
use Rattle.feed_device.specs.Calls.{AllCalls, CalledOnce, NotCalled, OthersNotCalled}
use Rattle.feed_hub.specs.declared.hub.Hub.{Hub}
use Rattle.feed_hub.specs.declared.seats.Key.{Key}
use Rattle.feed_hub.specs.Hub.{prefix_at, prefix_of}
use Rattle.feed_hub.specs.Seats.{seat_at}
use Rattle.feed_screens.specs.declared.conn.Conn.{Conn}
use Rattle.feed_screens.specs.declared.screens.Screens.{Screens}
use Rattle.feed_screens.specs.Serving.{HasNoSeat, IsAlone, IsWritable, OtherConns, key_of, key_at}

-- what was pending at each place below this one was offered
abbrev pub HaveBeenOffered : Screens → AllCalls → AllCalls → ℕ → Type 0
HaveBeenOffered old before after end =
    (at : ℕ) (key : Key) → at < end → IsWritable (get old.conns at) key → prefix_at old.hub key ≢ [] → IsAlone old.conns key at
    → CalledOnce (before at) (after at)

-- from this place on nothing happened
pub record AreAhead (old new : Screens) (before after : AllCalls) (end : ℕ) : Type 0 where
  pub conns : (at : ℕ) → end ≤ at → get new.conns at ≡ get old.conns at
  pub offered : (at : ℕ) → end ≤ at → after at ≡ before at
  pub seats : (key : Key) → ((at : ℕ) → at < end → key_at old.conns at ≢ Some (Some key))
      → seat_at new.hub.seats.slab key ≡ seat_at old.hub.seats.slab key
  pub log : new.hub.broadcast ≡ old.hub.broadcast

pub none_ahead : (screens : Screens) (calls : AllCalls) → AreAhead screens screens calls calls 0
none_ahead screens calls = record { conns = λ at _. refl; offered = λ at _. refl; seats = λ key _. refl; log = refl }

pub ahead_next : (old before new : Screens) (first mid last : AllCalls) (end : ℕ) → AreAhead old before first mid end
    → OtherConns before.conns new.conns end → OthersNotCalled mid last end
    → ((key : Key) → key_at before.conns end ≢ Some (Some key) → seat_at new.hub.seats.slab key ≡ seat_at before.hub.seats.slab key)
    → new.hub.broadcast ≡ before.hub.broadcast → AreAhead old new first last (end + 1)
ahead_next old before new first mid last end so places rest seats log =
    record {
      conns = λ at past. places at (away at past) ∙ so.conns at (from at past);
      offered = λ at past. rest at (away at past) ∙ so.offered at (from at past);
      seats = λ key none.
          seats key (λ is. none end (omega arith) (ap key_of (sym (so.conns end (omega arith))) ∙ is))
          ∙ so.seats key (λ at under. none at (omega (arith, under)));
      log = log ∙ so.log;
    }
  where
    away : (at : ℕ) → end + 1 ≤ at → at ≢ end
    away at past same = omega (arith, past, same)

    from : (at : ℕ) → end + 1 ≤ at → end ≤ at
    from at past = omega (arith, past)

pub prefix_same : (old new : Hub) (key : Key) → new.broadcast ≡ old.broadcast → seat_at new.seats.slab key ≡ seat_at old.seats.slab key
    → prefix_at new key ≡ prefix_at old key
prefix_same old new key log seat = ap (λ b. prefix_of b.log (seat_at new.seats.slab key)) log ∙ ap (prefix_of old.broadcast.log) seat

pub offered_next : (old before : Screens) (first mid last : AllCalls) (end : ℕ) → AreAhead old before first mid end
    → HaveBeenOffered old first mid end → OthersNotCalled mid last end
    → ((key : Key) → IsWritable (get before.conns end) key → prefix_at before.hub key ≢ [] → CalledOnce (mid end) (last end))
    → HaveBeenOffered old first last (end + 1)
offered_next old before first mid last end so were rest here at key under writable pending alone = by (eqb_tells at end)
  where
    by : (((at == end) ≡ true) × (at ≡ end)) ⊎ (((at == end) ≡ false) × (at ≢ end)) → CalledOnce (first at) (last at)
    by (inr (_, away)) =
        let less : at < end = omega (arith, under, away) in
        subst (CalledOnce (first at)) (sym (rest at away)) (were at key less writable pending alone)
    by (inl (_, same)) = subst (λ n. CalledOnce (first n) (last n)) (sym same)
        (subst (λ c. CalledOnce c (last end)) (so.offered end (omega arith))
        (here key (subst (λ c. IsWritable c key) (sym (so.conns end (omega arith))) (subst (λ n. IsWritable (get old.conns n) key) same writable))
        (λ none. pending (sym (prefix_same old.hub before.hub key so.log (so.seats key others)) ∙ none))))
      where
        others : (other : ℕ) → other < end → key_at old.conns other ≢ Some (Some key)
        others other less is = omega (arith, less, alone other is, same)

-- no place has a connection but those that are counted
pub is_within : (conns : Slab Conn) (at : ℕ) (key : Key) → IsWritable (get conns at) key → at < length conns.slots
is_within conns at key writable = by (leb_tells (length conns.slots) at)
  where
    by : ((leb (length conns.slots) at ≡ true) × (length conns.slots ≤ at)) ⊎ ((leb (length conns.slots) at ≡ false) × (at < length conns.slots))
        → at < length conns.slots
    by (inr (_, under)) = under
    by (inl (_, past)) =
        let none : get conns at ≡ None = get_or_past conns.slots at None past in
        absurd (subst (λ c. IsWritable c key) none writable)

-- what may be written to and has something pending was not cut, and is the same after a sweep
pub offered_after_sweep : (old swept : Screens) (first mid last : AllCalls) (at : ℕ) (key : Key)
    → ((at : ℕ) → (HasNoSeat old.hub (get old.conns at) → ⊥) → get swept.conns at ≡ get old.conns at)
    → ((at : ℕ) → (get swept.conns at ≡ get old.conns at) ⊎ (get swept.conns at ≡ None))
    → ((key : Key) → seat_at swept.hub.seats.slab key ≡ seat_at old.hub.seats.slab key)
    → swept.hub.broadcast ≡ old.hub.broadcast → NotCalled first mid
    → ((at : ℕ) (key : Key) → IsWritable (get swept.conns at) key → prefix_at swept.hub key ≢ [] → IsAlone swept.conns key at → CalledOnce (mid at) (last at))
    → IsWritable (get old.conns at) key → prefix_at old.hub key ≢ [] → IsAlone old.conns key at → CalledOnce (first at) (last at)
offered_after_sweep old swept first mid last at key stays places seats log none here writable pending alone =
    subst (λ c. CalledOnce c (last at)) (none at)
    (here at key (subst (λ c. IsWritable c key) (sym (stays at seated)) writable)
    (λ empty. pending (sym (prefix_same old.hub swept.hub key log (seats key)) ∙ empty)) still_alone)
  where
    same_key : {a b : Key} → Some a ≡ Some b → a ≡ b
    same_key e = cc

    no_seat : (conn : Option Conn) → IsWritable conn key → HasNoSeat old.hub conn → ⊥
    no_seat None writes cut = writes
    no_seat (Some conn) writes cut =
        let held : Some cut.0 ≡ Some key = sym cut.1 ∙ writes.0 in
        let gone : seat_at old.hub.seats.slab key ≡ None = subst (λ k. seat_at old.hub.seats.slab k ≡ None) (same_key held) cut.2 in
        pending (ap (prefix_of old.hub.broadcast.log) gone)

    seated : HasNoSeat old.hub (get old.conns at) → ⊥
    seated = no_seat (get old.conns at) writable

    still_alone : IsAlone swept.conns key at
    still_alone other is = by (places other)
      where
        by : (get swept.conns other ≡ get old.conns other) ⊎ (get swept.conns other ≡ None) → other ≡ at
        by (inl same) = alone other (ap key_of (sym same) ∙ is)
        by (inr gone) = absurd (let no : None ≡ Some (Some key) = ap key_of (sym gone) ∙ is in cc)
