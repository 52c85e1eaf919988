-- Who has something pending is marked, and whoever is marked is looked at in the next turn.
use Rattle.std.proofs.Common.{◌≡◌, ◌≢◌, ◌<◌, ◌≤◌, ◌+◌, arith, refl, sym, ap, ◌∙◌, subst, inl, inr, ℕ, Bool, true, false, List, [], ◌∷◌, length, suc, Option, Some, None}
use Rattle.std.proofs.lemmas.Bool.Decides.{eqb_tells, leb_tells}
use Rattle.std.proofs.lemmas.List.{get_or_past}
use Rattle.std.specs.Prelude.{leb, ◌==◌, ◌⊎◌, IfSome, option_map, if◌then◌else◌}
use Rattle.slab.specs.Slab.{Slab, get}
use Rattle.feed_hub.specs.declared.hub.Hub.{Hub}
use Rattle.feed_hub.specs.declared.seats.Key.{Key}
use Rattle.feed_hub.specs.Hub.{prefix_at}
use Rattle.feed_hub.specs.Seats.{seat_at}
use Rattle.feed_screens.specs.declared.conn.Conn.{Conn}
use Rattle.feed_screens.specs.declared.screens.Screens.{Screens}
use Rattle.feed_screens.specs.Serving.{HasPending, IsAlone, IsWritable, OtherConns, SameSeating, key_of, key_at}
use Rattle.feed_screens.specs.Waiting.{HasMoreToWrite, having_more}
use Rattle.feed_screens.proofs.OfferLemmas.{prefix_same}
use Rattle.feed_screens.proofs.ShutLemmas.{same_key}

or_true : (b : Bool) → (if b then true else true) ≡ true
or_true true = refl
or_true false = refl

-- a connection that is there is marked
pub marked : (old new : Option Conn) (held : Option Key) → new ≡ option_map (having_more true) old → key_of new ≡ Some held → HasMoreToWrite new
marked None new held is keyed = absurd (let no : None ≡ Some held = ap key_of (sym is) ∙ keyed in cc)
marked (Some conn) new held is keyed = subst HasMoreToWrite (sym is) (or_true conn.has_more)

empty_of : (bytes : List ℕ) → length bytes ≡ 0 → bytes ≡ []
empty_of [] none = refl
empty_of (b ∷ rest) none = absurd (let no : suc (length rest) ≡ 0 = none in cc)

-- what is empty is nothing
pub nothing_there : (bytes prefix : List ℕ) (is_empty : Bool) → bytes ≡ prefix → is_empty ≡ (length bytes == 0) → is_empty ≡ true → prefix ≡ []
nothing_there bytes prefix is_empty is tells empty = by (eqb_tells (length bytes) 0)
  where
    by : (((length bytes == 0) ≡ true) × (length bytes ≡ 0)) ⊎ (((length bytes == 0) ≡ false) × (length bytes ≢ 0)) → prefix ≡ []
    by (inl (_, none)) = sym is ∙ empty_of bytes none
    by (inr (some, _)) = absurd (let no : true ≡ false = sym empty ∙ tells ∙ some in cc)

-- who may be written to has its key
pub key_of_writable : (conn : Option Conn) (key : Key) → IsWritable conn key → key_of conn ≡ Some (Some key)
key_of_writable None key writable = absurd writable
key_of_writable (Some conn) key writable = ap (λ k. Some k) writable.0

-- nothing is pending for the key that it has
pub none_for : (hub : Hub) (held key : Key) → Some (Some held) ≡ Some (Some key) → prefix_at hub held ≡ [] → prefix_at hub key ≡ []
none_for hub held key same none = subst (λ k. prefix_at hub k ≡ []) (same_key same) none

-- and still is not
pub none_still : (old new : Screens) (at : ℕ) (held key : Key) → SameSeating old new → key_at old.conns at ≡ Some (Some held) → prefix_at old.hub held ≡ []
    → key_at new.conns at ≡ Some (Some key) → prefix_at new.hub key ≡ []
none_still old new at held key same had none has =
    none_for new.hub held key (sym (same.keys at ∙ had) ∙ has) (ap (λ h. prefix_at h held) same.hub ∙ none)

-- nothing is pending for who has no key, or for no key
pub none_has : (screens : Screens) (at : ℕ) → ((key : Key) → key_at screens.conns at ≡ Some (Some key) → prefix_at screens.hub key ≡ []) → HasPending screens at → ⊥
none_has screens at none has = has.some (none has.key (key_of_writable (get screens.conns at) has.key has.writable))

-- nor for a connection that is over
pub over_has : (screens : Screens) (at : ℕ) → key_at screens.conns at ≡ None → HasPending screens at → ⊥
over_has screens at over has = (let no : None ≡ Some (Some has.key) = sym over ∙ key_of_writable (get screens.conns at) has.key has.writable in cc)

blocked_not : (conn : Option Conn) (key : Key) → IfSome conn (λ c. c.is_blocked ≡ true) → IsWritable conn key → ⊥
blocked_not None key blocked writable = writable
blocked_not (Some conn) key blocked writable = (let no : true ≡ false = sym blocked ∙ writable.2 in cc)

-- nor for one that is blocked
pub blocked_has : (screens : Screens) (at : ℕ) → IfSome (get screens.conns at) (λ c. c.is_blocked ≡ true) → HasPending screens at → ⊥
blocked_has screens at blocked has = blocked_not (get screens.conns at) has.key blocked has.writable

-- it is marked, or nothing is pending
pub marked_or_none : (mid new : Screens) (more : Bool) (at : ℕ) → SameSeating mid new
    → get new.conns at ≡ option_map (having_more more) (get mid.conns at)
    → (more ≡ false → (key : Key) → key_at mid.conns at ≡ Some (Some key) → prefix_at mid.hub key ≡ [])
    → HasPending new at → HasMoreToWrite (get new.conns at)
marked_or_none mid new true at same here none has =
    marked (get mid.conns at) (get new.conns at) (Some has.key) here (key_of_writable (get new.conns at) has.key has.writable)
marked_or_none mid new false at same here none has =
    absurd (none_has new at (λ key held. ap (λ h. prefix_at h key) same.hub ∙ none refl key (sym (same.keys at) ∙ held)) has)

-- ---- one place after another

-- where one below this place is marked, that is noted
abbrev pub AreNoted : Screens → ℕ → Type 0
AreNoted screens end = (at : ℕ) → at < end → HasMoreToWrite (get screens.conns at) → screens.has_more ≡ true

pub noted_next : (before mid new : Screens) (end : ℕ) → AreNoted before end → OtherConns before.conns mid.conns end
    → (before.has_more ≡ true → mid.has_more ≡ true) → new.conns ≡ mid.conns → (mid.has_more ≡ true → new.has_more ≡ true)
    → (HasMoreToWrite (get mid.conns end) → new.has_more ≡ true) → AreNoted new (end + 1)
noted_next before mid new end so places first conns second here at under more = by (eqb_tells at end)
  where
    there : HasMoreToWrite (get mid.conns at)
    there = subst (λ s. HasMoreToWrite (get s at)) conns more

    by : (((at == end) ≡ true) × (at ≡ end)) ⊎ (((at == end) ≡ false) × (at ≢ end)) → new.has_more ≡ true
    by (inl (_, same)) = here (subst (λ n. HasMoreToWrite (get mid.conns n)) same there)
    by (inr (_, away)) = second (first (so at (omega (arith, under, away)) (subst HasMoreToWrite (places at away) there)))

pub noted_all : (old new : Screens) (end at : ℕ) → AreNoted new end → ((other : ℕ) → end ≤ other → get new.conns other ≡ get old.conns other)
    → length old.conns.slots ≤ end → HasMoreToWrite (get new.conns at) → new.has_more ≡ true
noted_all old new end at so ahead all more = by (leb_tells end at)
  where
    by : ((leb end at ≡ true) × (end ≤ at)) ⊎ ((leb end at ≡ false) × (at < end)) → new.has_more ≡ true
    by (inr (_, under)) = so at under more
    by (inl (_, past)) =
        let gone : get old.conns at ≡ None = get_or_past old.conns.slots at None (omega (arith, all, past)) in
        absurd (subst HasMoreToWrite (ahead at past ∙ gone) more)

-- where something is pending at one below this place, which has its key alone, that is noted
abbrev pub AreAwaited : Slab Conn → Screens → ℕ → Type 0
AreAwaited old screens end =
    (at : ℕ) (key : Key) → at < end → IsAlone old key at → IsWritable (get screens.conns at) key → prefix_at screens.hub key ≢ [] → screens.has_more ≡ true

pub awaited_next : (old : Slab Conn) (before mid new : Screens) (end : ℕ) → AreAwaited old before end → get before.conns end ≡ get old end
    → OtherConns before.conns mid.conns end
    → ((key : Key) → key_at before.conns end ≢ Some (Some key) → seat_at mid.hub.seats.slab key ≡ seat_at before.hub.seats.slab key)
    → mid.hub.broadcast ≡ before.hub.broadcast → (before.has_more ≡ true → mid.has_more ≡ true)
    → new.conns ≡ mid.conns → new.hub ≡ mid.hub → (mid.has_more ≡ true → new.has_more ≡ true)
    → (HasPending mid end → new.has_more ≡ true) → AreAwaited old new (end + 1)
awaited_next old before mid new end so ahead places seats log first conns hub second here at key under alone writable some = by (eqb_tells at end)
  where
    writes : IsWritable (get mid.conns at) key
    writes = subst (λ s. IsWritable (get s at) key) conns writable

    pending : prefix_at mid.hub key ≢ []
    pending none = some (ap (λ h. prefix_at h key) hub ∙ none)

    by : (((at == end) ≡ true) × (at ≡ end)) ⊎ (((at == end) ≡ false) × (at ≢ end)) → new.has_more ≡ true
    by (inl (_, same)) = here (record { key = key; writable = subst (λ n. IsWritable (get mid.conns n) key) same writes; some = pending })
    by (inr (_, away)) =
        second (first (so at key (omega (arith, under, away)) alone (subst (λ c. IsWritable c key) (places at away) writes)
        (λ none. pending (prefix_same before.hub mid.hub key log (seats key other) ∙ none))))
      where
        other : key_at before.conns end ≢ Some (Some key)
        other is = away (sym (alone end (ap key_of (sym ahead) ∙ is)))

pub awaited_all : (old new : Screens) (end at : ℕ) (key : Key) → AreAwaited old.conns new end
    → ((other : ℕ) → end ≤ other → get new.conns other ≡ get old.conns other) → length old.conns.slots ≤ end
    → IsAlone old.conns key at → IsWritable (get new.conns at) key → prefix_at new.hub key ≢ [] → new.has_more ≡ true
awaited_all old new end at key so ahead all alone writable some = by (leb_tells end at)
  where
    by : ((leb end at ≡ true) × (end ≤ at)) ⊎ ((leb end at ≡ false) × (at < end)) → new.has_more ≡ true
    by (inr (_, under)) = so at key under alone writable some
    by (inl (_, past)) =
        let gone : get old.conns at ≡ None = get_or_past old.conns.slots at None (omega (arith, all, past)) in
        absurd (subst (λ c. IsWritable c key) (ahead at past ∙ gone) writable)

-- whoever has its key alone still has once some are gone
pub alone_still : (old new : Slab Conn) (key : Key) (at : ℕ) → ((other : ℕ) → (get new other ≡ get old other) ⊎ (get new other ≡ None)) → IsAlone old key at → IsAlone new key at
alone_still old new key at places alone other is = by (places other)
  where
    by : (get new other ≡ get old other) ⊎ (get new other ≡ None) → other ≡ at
    by (inl same) = alone other (ap key_of (sym same) ∙ is)
    by (inr gone) = absurd (let no : None ≡ Some (Some key) = ap key_of (sym gone) ∙ is in cc)
