-- Where there may be something to read of a connection, as before.
use Rattle.std.proofs.Common.{◌≡◌, ◌≢◌, ◌<◌, ◌≤◌, ◌+◌, arith, refl, sym, ap, ◌∙◌, subst, inl, inr, ℕ, length, Option, Some, None}
use Rattle.std.proofs.lemmas.Bool.Decides.{eqb_tells, leb_tells}
use Rattle.std.proofs.lemmas.List.{get_or_past}
use Rattle.std.specs.Prelude.{leb, ◌==◌, ◌⊎◌, Bool, true, false, option_map}
use Rattle.slab.specs.Slab.{Slab, get}
use Rattle.feed_device.specs.Calls.{AllCalls, CalledOnce, NotCalled, OthersNotCalled}
use Rattle.feed_device.specs.Sockets.{Socket}
use Rattle.feed_screens.specs.declared.conn.Conn.{Conn}
use Rattle.feed_screens.specs.Held.{KeepsInput, AllKeepInput, IsAnswering, IsToBeRead}
use Rattle.feed_screens.specs.Serving.{OtherConns, key_of}

pub keeps_same : (conn : Option Conn) → KeepsInput conn conn
keeps_same None = tt
keeps_same (Some conn) = (refl, refl, λ asks. asks)

-- nothing changed
pub keeps_still : {old new : Option Conn} → new ≡ old → KeepsInput old new
keeps_still {old} {new} same = subst (KeepsInput old) (sym same) (keeps_same old)

pub keeps_then : (old mid new : Option Conn) → KeepsInput old mid → KeepsInput mid new → KeepsInput old new
keeps_then old mid None first second = tt
keeps_then None None (Some new) first second = second
keeps_then (Some old) None (Some new) first second = absurd second
keeps_then None (Some mid) (Some new) first second = first
keeps_then (Some old) (Some mid) (Some new) (input, since, asks) (input', since', asks') = (input' ∙ input, since' ∙ since, λ a. asks (asks' a))

-- it became this
pub keeps_mapped : (f : Conn → Conn) → ((conn : Conn) → KeepsInput (Some conn) (Some (f conn))) → (old new : Option Conn) → new ≡ option_map f old → KeepsInput old new
keeps_mapped f same None new is = subst (KeepsInput None) (sym is) tt
keeps_mapped f same (Some conn) new is = subst (KeepsInput (Some conn)) (sym is) (same conn)

-- it is over
pub keeps_over : (old new : Option Conn) → key_of new ≡ None → KeepsInput old new
keeps_over old None is = tt
keeps_over old (Some conn) is = absurd (let no : Some conn.key ≡ None = is in cc)

-- it stays, or is over
pub keeps_or_over : (old new : Option Conn) → (new ≡ old) ⊎ (new ≡ None) → KeepsInput old new
keeps_or_over old new (inl same) = keeps_still same
keeps_or_over old new (inr over) = subst (KeepsInput old) (sym over) tt

-- no more comes: it is over, or nothing came
pub keeps_ended : {A : Type 0} (old new : Option Conn) (socket_of : A → Option Socket) {before mid after : A} → (key_of new ≡ None) ⊎ (after ≡ mid)
    → socket_of mid ≡ socket_of before → KeepsInput old new ⊎ (socket_of after ≡ socket_of before)
keeps_ended old new socket_of (inl over) same = inl (keeps_over old new over)
keeps_ended old new socket_of (inr still) same = inr (ap socket_of still ∙ same)

-- nothing changed but the connection at this place
pub input_at : (old new : Slab Conn) (at : ℕ) → OtherConns old new at → KeepsInput (get old at) (get new at) → AllKeepInput old new
input_at old new at others here other = by (eqb_tells other at)
  where
    by : (((other == at) ≡ true) × (other ≡ at)) ⊎ (((other == at) ≡ false) × (other ≢ at)) → KeepsInput (get old other) (get new other)
    by (inl (_, same)) = subst (λ o. KeepsInput (get old o) (get new o)) (sym same) here
    by (inr (_, away)) = keeps_still (others other away)

pub input_then : (old mid new : Slab Conn) → AllKeepInput old mid → AllKeepInput mid new → AllKeepInput old new
input_then old mid new first second at = keeps_then (get old at) (get mid at) (get new at) (first at) (second at)

-- it is over, or is still to be read
pub still_to_be_read : (old new : Option Conn) (held : Bool) (hold now : ℕ) → KeepsInput old new → IsToBeRead old held hold now → (new ≡ None) ⊎ IsToBeRead new held hold now
still_to_be_read old None held hold now keeps to_read = inl refl
still_to_be_read None (Some new) held hold now keeps to_read = absurd to_read
still_to_be_read (Some old) (Some new) held hold now (input, since, asks) (has_input, answers) =
    inr (input ∙ has_input, λ a. subst (λ t. IsAnswering held hold t now) (sym since) (answers (asks a)))

-- what was over stays so
pub stays_over : (old new : Option Conn) → KeepsInput old new → old ≡ None → new ≡ None
stays_over old None keeps over = refl
stays_over None (Some new) keeps over = absurd keeps
stays_over (Some old) (Some new) keeps over = absurd (let no : Some old ≡ None = over in cc)

-- of those below this place each was read that was to be, or is over; and the others are as they were
pub record ReadsBelow (old new : Slab Conn) (first last : AllCalls) (held : Bool) (hold now end : ℕ) : Type 0 where
  pub tried : (at : ℕ) → at < end → IsToBeRead (get old at) held hold now → CalledOnce (first at) (last at) ⊎ (get new at ≡ None)
  pub ahead : (at : ℕ) → end ≤ at → KeepsInput (get old at) (get new at)
  pub calls : (at : ℕ) → end ≤ at → last at ≡ first at
  pub over : (at : ℕ) → get old at ≡ None → get new at ≡ None

pub reads_next : (old mid new : Slab Conn) (first before last : AllCalls) (held : Bool) (hold now time end : ℕ) → time ≡ now
    → ReadsBelow old mid first before held hold now end
    → (IsToBeRead (get mid end) held hold time → CalledOnce (before end) (last end)) → OthersNotCalled before last end
    → ((other : ℕ) → other ≢ end → KeepsInput (get mid other) (get new other)) → (get mid end ≡ None → get new end ≡ None)
    → ReadsBelow old new first last held hold now (end + 1)
reads_next old mid new first before last held hold now time end same so here rest others gone =
    record {
      tried = λ at under to_read. tried at under to_read (eqb_tells at end);
      ahead = λ at past. keeps_then (get old at) (get mid at) (get new at) (so.ahead at (from at past)) (others at (away at past));
      calls = λ at past. rest at (away at past) ∙ so.calls at (from at past);
      over = λ at none. over at (so.over at none) (eqb_tells at end);
    }
  where
    away : (at : ℕ) → end + 1 ≤ at → at ≢ end
    away at past is = omega (arith, past, is)

    from : (at : ℕ) → end + 1 ≤ at → end ≤ at
    from at past = omega (arith, past)

    over : (at : ℕ) → get mid at ≡ None → (((at == end) ≡ true) × (at ≡ end)) ⊎ (((at == end) ≡ false) × (at ≢ end)) → get new at ≡ None
    over at none (inl (_, is)) = subst (λ n. get new n ≡ None) (sym is) (gone (subst (λ n. get mid n ≡ None) is none))
    over at none (inr (_, differs)) = stays_over (get mid at) (get new at) (others at differs) none

    below : (at : ℕ) → at ≢ end → CalledOnce (first at) (before at) ⊎ (get mid at ≡ None) → CalledOnce (first at) (last at) ⊎ (get new at ≡ None)
    below at differs (inl was) = inl (subst (CalledOnce (first at)) (sym (rest at differs)) was)
    below at differs (inr over) = inr (stays_over (get mid at) (get new at) (others at differs) over)

    now_read : (get mid end ≡ None) ⊎ IsToBeRead (get mid end) held hold now → CalledOnce (first end) (last end) ⊎ (get new end ≡ None)
    now_read (inl over) = inr (gone over)
    now_read (inr to_read) = inl (subst (λ c. CalledOnce c (last end)) (so.calls end (omega arith)) (here (subst (IsToBeRead (get mid end) held hold) (sym same) to_read)))

    tried : (at : ℕ) → at < end + 1 → IsToBeRead (get old at) held hold now
        → (((at == end) ≡ true) × (at ≡ end)) ⊎ (((at == end) ≡ false) × (at ≢ end)) → CalledOnce (first at) (last at) ⊎ (get new at ≡ None)
    tried at under to_read (inr (_, differs)) = below at differs (so.tried at (omega (arith, under, differs)) to_read)
    tried at under to_read (inl (_, is)) =
        subst (λ n. CalledOnce (first n) (last n) ⊎ (get new n ≡ None)) (sym is)
        (now_read (still_to_be_read (get old end) (get mid end) held hold now (so.ahead end (omega arith)) (subst (λ n. IsToBeRead (get old n) held hold now) is to_read)))

-- and so of all, once the last place was looked at
pub reads_all : (old mid new : Slab Conn) (start first last : AllCalls) (held : Bool) (hold now time end places at : ℕ) → AllKeepInput old mid → NotCalled start first
    → time ≡ now → ReadsBelow mid new first last held hold time end → length old.slots ≤ places → places ≤ end
    → IsToBeRead (get old at) held hold now → CalledOnce (start at) (last at) ⊎ (get new at ≡ None)
reads_all old mid new start first last held hold now time end places at keeps none same so all ends to_read = by (leb_tells end at)
  where
    here : at < end → (get mid at ≡ None) ⊎ IsToBeRead (get mid at) held hold now → CalledOnce (start at) (last at) ⊎ (get new at ≡ None)
    here under (inl over) = inr (so.over at over)
    here under (inr still) =
        subst (λ c. CalledOnce c (last at) ⊎ (get new at ≡ None)) (none at) (so.tried at under (subst (IsToBeRead (get mid at) held hold) (sym same) still))

    by : ((leb end at ≡ true) × (end ≤ at)) ⊎ ((leb end at ≡ false) × (at < end)) → CalledOnce (start at) (last at) ⊎ (get new at ≡ None)
    by (inr (_, under)) = here under (still_to_be_read (get old at) (get mid at) held hold now (keeps at) to_read)
    by (inl (_, past)) =
        let gone : get old at ≡ None = get_or_past old.slots at None (omega (arith, all, ends, past)) in
        absurd (subst (λ c. IsToBeRead c held hold now) gone to_read)
