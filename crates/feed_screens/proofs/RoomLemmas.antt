-- Who is refused, since it has waited for room for long enough.
use Rattle.std.proofs.Common.{◌≡◌, ◌≢◌, ◌<◌, ◌≤◌, ◌+◌, arith, length, refl, inl, inr, sym, ap, ◌∙◌, subst, ℕ}
use Rattle.std.proofs.lemmas.Bool.Decides.{eqb_tells, leb_tells}
use Rattle.std.proofs.lemmas.List.{get_or_past}
use Rattle.std.specs.Prelude.{leb, ◌==◌, ◌⊎◌, true, false, Option, Some, None}
use Rattle.slab.specs.Slab.{Slab, get}
use Rattle.feed_hub.specs.declared.seats.Key.{Key}
use Rattle.feed_hub.specs.Seats.{seat_at, IsAskingSeat}
use Rattle.feed_screens.specs.declared.conn.Conn.{Conn}
use Rattle.feed_screens.specs.declared.screens.Screens.{Screens}
use Rattle.feed_screens.specs.Serving.{key_of, key_at, keyless}
use Rattle.feed_screens.specs.Waiting.{IsOverdue, IsOverdueAt, HasNotWaited, RefusesAt, RefusesOne}

abbrev pub HasNoKey : Slab Conn → ℕ → Type 0
HasNoKey conns at = (key : Key) → key_at conns at ≢ Some (Some key)

-- whoever has waited for so long may be refused, and has no key then; all others stay
pub record RefusesOverdue (old new : Screens) (now : ℕ) : Type 0 where
  pub each : (at : ℕ) → (get new.conns at ≡ get old.conns at)
      ⊎ (IsOverdue (get old.conns at) now × HasNoKey new.conns at)
  pub seats : (key : Key) → HasNotWaited old.conns key now
      → seat_at new.hub.seats.slab key ≡ seat_at old.hub.seats.slab key

pub refuses_nobody : (screens : Screens) (now : ℕ) → RefusesOverdue screens screens now
refuses_nobody screens now = record { each = λ at. inl refl; seats = λ key waits. refl }

-- one that never has this key
pub not_this : (old before : Screens) (at now : ℕ) (key : Key) → RefusesOverdue old before now
    → IsOverdue (get before.conns at) now → HasNotWaited old.conns key now
    → key_at before.conns at ≢ Some (Some key)
not_this old before at now key so due waits is = by (so.each at)
  where
    by : (get before.conns at ≡ get old.conns at) ⊎ (IsOverdue (get old.conns at) now × HasNoKey before.conns at) → ⊥
    by (inl same) = waits at (ap key_of (sym same) ∙ is) (subst (λ c. IsOverdue c now) same due)
    by (inr (_, none)) = none key is

-- the one at a place was refused, or stays
pub refused_here : (old before new : Screens) (at now : ℕ) → RefusesOverdue old before now
    → RefusesAt before new at → IsOverdue (get before.conns at) now
    → (get new.conns at ≡ get old.conns at) ⊎ (IsOverdue (get old.conns at) now × HasNoKey new.conns at)
refused_here old before new at now so one due = by (so.each at) one.here
  where
    by : (get before.conns at ≡ get old.conns at) ⊎ (IsOverdue (get old.conns at) now × HasNoKey before.conns at)
        → (get new.conns at ≡ get before.conns at) ⊎ HasNoKey new.conns at
        → (get new.conns at ≡ get old.conns at) ⊎ (IsOverdue (get old.conns at) now × HasNoKey new.conns at)
    by (inl same) (inl stays) = inl (stays ∙ same)
    by (inl same) (inr none) = inr (subst (λ c. IsOverdue c now) same due, none)
    by (inr (was, none)) (inl stays) = inr (was, λ key is. none key (ap key_of (sym stays) ∙ is))
    by (inr (was, _)) (inr none) = inr (was, none)

pub refuses_one : (old before new : Screens) (at now : ℕ) → RefusesOverdue old before now
    → RefusesAt before new at → IsOverdue (get before.conns at) now → RefusesOverdue old new now
refuses_one old before new at now so one due =
    record {
      each = λ other. by other (eqb_tells other at);
      seats = λ key waits. one.seats key (not_this old before at now key so due waits) ∙ so.seats key waits;
    }
  where
    by : (other : ℕ) → (((other == at) ≡ true) × (other ≡ at)) ⊎ (((other == at) ≡ false) × (other ≢ at))
        → (get new.conns other ≡ get old.conns other) ⊎ (IsOverdue (get old.conns other) now × HasNoKey new.conns other)
    by other (inl (_, same)) =
        subst (λ o. (get new.conns o ≡ get old.conns o) ⊎ (IsOverdue (get old.conns o) now × HasNoKey new.conns o)) (sym same)
        (refused_here old before new at now so one due)
    by other (inr (_, away)) = stays (so.each other)
      where
        stays : (get before.conns other ≡ get old.conns other) ⊎ (IsOverdue (get old.conns other) now × HasNoKey before.conns other)
            → (get new.conns other ≡ get old.conns other) ⊎ (IsOverdue (get old.conns other) now × HasNoKey new.conns other)
        stays (inl same) = inl (one.others other away ∙ same)
        stays (inr (was, none)) = inr (was, λ key is. none key (ap key_of (sym (one.others other away)) ∙ is))

pub refuses_next : (old before new : Screens) (at now time : ℕ) → time ≡ now → RefusesOverdue old before now
    → RefusesOne before new at time → RefusesOverdue old new now
refuses_next old before new at now time same so (inl nobody) = subst (λ s. RefusesOverdue old s now) (sym nobody) so
refuses_next old before new at now time same so (inr (due, one)) =
    refuses_one old before new at now so one (subst (IsOverdue (get before.conns at)) same due)

-- whoever has not waited for so long stays
pub stays_waiting : (old new : Screens) (now at : ℕ) → RefusesOverdue old new now
    → (IsOverdue (get old.conns at) now → ⊥) → get new.conns at ≡ get old.conns at
stays_waiting old new now at so not_due = by (so.each at)
  where
    by : (get new.conns at ≡ get old.conns at) ⊎ (IsOverdue (get old.conns at) now × HasNoKey new.conns at)
        → get new.conns at ≡ get old.conns at
    by (inl same) = same
    by (inr (was, _)) = absurd (not_due was)

-- a connection that was there has no key any more
pub has_no_key : (held : Option (Option Key)) (key : Key) → keyless held ≢ Some (Some key)
has_no_key None key is = (let x : None ≡ Some (Some key) = is in cc)
has_no_key (Some held) key is = (let x : Some None ≡ Some (Some key) = is in cc)

-- whoever is at another place stays
pub stays_elsewhere : (before new : Screens) (at time other : ℕ) → RefusesOne before new at time → other ≢ at
    → get new.conns other ≡ get before.conns other
stays_elsewhere before new at time other (inl nobody) away = ap (λ (s : Screens). get s.conns other) nobody
stays_elsewhere before new at time other (inr (_, one)) away = one.others other away

-- of those up to this one nobody asks any more who has waited for so long
pub gone_next : (before new : Screens) (at time now : ℕ) → time ≡ now → RefusesOne before new at time
    → ((key : Key) → IsAskingSeat (seat_at new.hub.seats.slab key) → IsAskingSeat (seat_at before.hub.seats.slab key))
    → (IsOverdueAt new at time → ⊥) → ((other : ℕ) → other < at → IsOverdueAt before other now → ⊥)
    → (other : ℕ) → other < at + 1 → IsOverdueAt new other now → ⊥
gone_next before new at time now same one asking here below other under is = by (eqb_tells other at)
  where
    by : (((other == at) ≡ true) × (other ≡ at)) ⊎ (((other == at) ≡ false) × (other ≢ at)) → ⊥
    by (inl (_, this)) = here (subst (λ o. IsOverdueAt new o time) this (subst (IsOverdueAt new other) (sym same) is))
    by (inr (_, away)) =
        let kept = stays_elsewhere before new at time other one away in
        let under_it : other < at = omega (arith, under, away) in
        below other under_it
        (record {
          asks = record { key = is.asks.key; keyed = ap key_of (sym kept) ∙ is.asks.keyed; asks = asking is.asks.key is.asks.asks };
          overdue = subst (λ c. IsOverdue c now) kept is.overdue;
        })

-- and so of all, once the last place was looked at
pub gone_all : (old new : Screens) (end now at : ℕ) → RefusesOverdue old new now → length old.conns.slots ≤ end
    → ((other : ℕ) → other < end → IsOverdueAt new other now → ⊥) → IsOverdueAt new at now → ⊥
gone_all old new end now at so all below is = by (so.each at)
  where
    by : (get new.conns at ≡ get old.conns at) ⊎ (IsOverdue (get old.conns at) now × HasNoKey new.conns at) → ⊥
    by (inr (_, none)) = none is.asks.key is.asks.keyed
    by (inl same) = within (leb_tells end at)
      where
        within : ((leb end at ≡ true) × (end ≤ at)) ⊎ ((leb end at ≡ false) × (at < end)) → ⊥
        within (inr (_, under)) = below at under is
        within (inl (_, past)) =
            let none : get old.conns at ≡ None = get_or_past old.conns.slots at None (omega (arith, all, past)) in
            subst (λ c. IsOverdue c now) (same ∙ none) is.overdue
