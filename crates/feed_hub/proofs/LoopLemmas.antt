-- Seats one after the other.
use Rattle.std.proofs.Common.{◌≡◌, ◌≢◌, refl, sym, ap, ◌∙◌, subst, ℕ, ◌⊎◌, List, Bool, true, false, Option, Some, None, inl, inr, ◌≤◌, ◌<◌, ◌+◌, length, arith}
use Rattle.std.specs.Prelude.{◌==◌, if◌then◌else◌}
use Rattle.std.proofs.lemmas.Bool.{cases_lt}
use Rattle.std.proofs.lemmas.Bool.Decides.{eqb_tells}
use Rattle.std.proofs.lemmas.List.{get_or_past}
use Rattle.slab.specs.Slab.{Slab, get, slab_len, Updates}
use Rattle.feed_hub.specs.declared.screen.Screen.{Screen}
use Rattle.feed_hub.specs.declared.screen.Way.TheVariants.{CatchesUp, OnLog, Stops, Over}
use Rattle.feed_hub.specs.declared.screen.Way.{Way}
use Rattle.feed_hub.specs.declared.seats.Key.{Key}
use Rattle.feed_hub.specs.declared.seats.Seat.{Seat}
use Rattle.feed_hub.specs.declared.seats.Seat.TheVariants.{Asks, Watches}
use Rattle.feed_hub.specs.declared.seats.Seated.{Seated}
use Rattle.feed_hub.specs.Backlog.{Backlog, Has}
use Rattle.feed_hub.specs.Screen.{IsNotBehind}
use Rattle.feed_hub.specs.Seats.{of_generation, seat_at, KeepsThose, IsSeatNotBehind, IsLeastPlace, HasWhatIsDue, EndsSeat, IsCut, CutsSeat, IsSomeCut}
use Rattle.feed_hub.proofs.SeatLemmas.{found_at, seat_found, key_at, empty_at, updated_elsewhere, removed_at, same_seat as same_some}
use Rattle.feed_hub.proofs.StepLemmas.{ended_is_off}

-- nobody sits past the last slot
pub nobody_past : (seats : Slab Seated) (key : Key) (capacity : ℕ) → length seats.slots ≤ capacity → capacity ≤ key.index → seat_at seats key ≡ None
nobody_past seats key capacity short past = empty_at seats key (get_or_past seats.slots key.index None (omega (arith, short, past)))

-- ---- who is cut

-- so far below an index
pub record KeepsBelow (Holds : Seat → Type 0) (index : ℕ) (old seats : Slab Seated) : Type 0 where
  pub kept : (key : Key) (seat : Seat) → seat_at seats key ≡ Some seat → seat_at old key ≡ Some seat
  pub below : (key : Key) (seat : Seat) → key.index < index → seat_at seats key ≡ Some seat → Holds seat
  pub stays : (key : Key) (seat : Seat) → seat_at old key ≡ Some seat → Holds seat → seat_at seats key ≡ Some seat
  pub len : slab_len seats ≤ slab_len old

module _ (Holds : Seat → Type 0) (index : ℕ) (old now : Slab Seated) (so_far : KeepsBelow Holds index old now) where
  -- what sits there stays
  pub one_stays : ((seated : Seated) → get now index ≡ Some seated → Holds seated.seat) → KeepsBelow Holds (index + 1) old now
  one_stays holds =
      record { kept = so_far.kept; below = λ key seat less sits. by key seat less sits (eqb_tells key.index index); stays = so_far.stays; len = so_far.len }
    where
      by : (key : Key) (seat : Seat) → key.index < index + 1 → seat_at now key ≡ Some seat
          → (((key.index == index) ≡ true) × (key.index ≡ index)) ⊎ (((key.index == index) ≡ false) × (key.index ≢ index)) → Holds seat
      by key seat less sits (inl (_, same)) = holds (record { generation = key.generation; seat = seat }) (ap (get now) (sym same) ∙ found_at now key seat sits)
      by key seat less sits (inr (_, differ)) =
          let before : key.index < index = (let far : key.index ≢ index = differ in grind (arith, less, far)) in
          so_far.below key seat before sits

  -- what sat there is cut
  pub one_goes : (new : Slab Seated) (seated : Seated) → get now index ≡ Some seated → ¬ (Holds seated.seat) → Updates now new index None
      → slab_len new ≤ slab_len now → KeepsBelow Holds (index + 1) old new
  one_goes new seated at lacks u fewer =
      record {
        kept = λ key seat sits. so_far.kept key seat (before key seat sits (eqb_tells key.index index));
        below = λ key seat less sits. by key seat less sits (eqb_tells key.index index);
        stays = λ key seat sat holds. goes_on key seat (so_far.stays key seat sat holds) holds (eqb_tells key.index index);
        len = (let a : slab_len new ≤ slab_len now = fewer in let b : slab_len now ≤ slab_len old = so_far.len in omega arith);
      }
    where
      before : (key : Key) (seat : Seat) → seat_at new key ≡ Some seat
          → (((key.index == index) ≡ true) × (key.index ≡ index)) ⊎ (((key.index == index) ≡ false) × (key.index ≢ index)) → seat_at now key ≡ Some seat
      before key seat sits (inl (_, same)) = let none : None ≡ Some seat = sym (removed_at now new index u key same) ∙ sits in cc
      before key seat sits (inr (_, differ)) = sym (updated_elsewhere now new index None u key differ) ∙ sits

      by : (key : Key) (seat : Seat) → key.index < index + 1 → seat_at new key ≡ Some seat
          → (((key.index == index) ≡ true) × (key.index ≡ index)) ⊎ (((key.index == index) ≡ false) × (key.index ≢ index)) → Holds seat
      by key seat less sits (inl (_, same)) = let none : None ≡ Some seat = sym (removed_at now new index u key same) ∙ sits in absurd (cc)
      by key seat less sits (inr (_, differ)) =
          let less' : key.index < index = (let far : key.index ≢ index = differ in grind (arith, less, far)) in
          so_far.below key seat less' (sym (updated_elsewhere now new index None u key differ) ∙ sits)

      goes_on : (key : Key) (seat : Seat) → seat_at now key ≡ Some seat → Holds seat
          → (((key.index == index) ≡ true) × (key.index ≡ index)) ⊎ (((key.index == index) ≡ false) × (key.index ≢ index)) → seat_at new key ≡ Some seat
      goes_on key seat sits holds (inl (_, same)) =
          let there : Some seated ≡ Some (record { generation = key.generation; seat = seat }) = sym at ∙ ap (get now) (sym same) ∙ found_at now key seat sits in
          let is : seated ≡ record { generation = key.generation; seat = seat } = cc in
          absurd (lacks (subst (λ s. Holds s.seat) (sym is) holds))
      goes_on key seat sits holds (inr (_, differ)) = updated_elsewhere now new index None u key differ ∙ sits

  pub all_looked_at : length old.slots ≤ index → KeepsThose Holds old now
  all_looked_at short =
      record { kept = λ key seat sits. (so_far.kept key seat sits, by key seat sits (cases_lt key.index index)); stays = so_far.stays }
    where
      by : (key : Key) (seat : Seat) → seat_at now key ≡ Some seat → (key.index < index) ⊎ (index ≤ key.index) → Holds seat
      by key seat sits (inl less) = so_far.below key seat less sits
      by key seat sits (inr past) =
          let none : None ≡ Some seat = sym (nobody_past old key index short past) ∙ so_far.kept key seat sits in absurd (cc)

pub none_looked_at : (Holds : Seat → Type 0) (old : Slab Seated) → KeepsBelow Holds 0 old old
none_looked_at Holds old =
    record {
      kept = λ key seat sits. sits;
      below = λ key seat less sits. absurd (omega (arith, less));
      stays = λ key seat sits holds. sits;
      len = omega arith;
    }

-- ---- what of the log is needed

-- so far below an index
pub record LeastBelow (seats : Slab Seated) (end index least : ℕ) : Type 0 where
  pub below : (key : Key) (seat : Seat) → key.index < index → seat_at seats key ≡ Some seat → IsSeatNotBehind least seat
  pub within : least ≤ end
  pub needed : (least ≡ end) ⊎ ((key : Key) × (s : Screen) × (seat_at seats key ≡ Some (Watches s)) × (s.way ≡ OnLog least))

pub none_needs : (seats : Slab Seated) (end : ℕ) → LeastBelow seats end 0 end
none_needs seats end = record { below = λ key seat less sits. absurd (omega (arith, less)); within = omega arith; needed = inl refl }

way_before : (less least : ℕ) (way : Way) → less ≤ least → IsNotBehind least way → IsNotBehind less way
way_before less least (CatchesUp token) few holds = tt
way_before less least (Stops token) few holds = tt
way_before less least (OnLog at) few holds = let h : least ≤ at = holds in omega (arith, few, h)
way_before less least Over few holds = tt

seat_before : (less least : ℕ) (seat : Seat) → less ≤ least → IsSeatNotBehind least seat → IsSeatNotBehind less seat
seat_before less least (Asks asking) few holds = tt
seat_before less least (Watches s) few holds = way_before less least s.way few holds

module _ (seats : Slab Seated) (end index least : ℕ) (so_far : LeastBelow seats end index least) where
  -- nobody sits there
  pub none_more : get seats index ≡ None → LeastBelow seats end (index + 1) least
  none_more none =
      record { below = λ key seat less sits. by key seat less sits (eqb_tells key.index index); within = so_far.within; needed = so_far.needed }
    where
      by : (key : Key) (seat : Seat) → key.index < index + 1 → seat_at seats key ≡ Some seat
          → (((key.index == index) ≡ true) × (key.index ≡ index)) ⊎ (((key.index == index) ≡ false) × (key.index ≢ index)) → IsSeatNotBehind least seat
      by key seat less sits (inl (_, same)) =
          let nobody : None ≡ Some seat = sym (empty_at seats key (ap (get seats) same ∙ none)) ∙ sits in absurd (cc)
      by key seat less sits (inr (_, differ)) =
          let before : key.index < index = (let far : key.index ≢ index = differ in grind (arith, less, far)) in
          so_far.below key seat before sits

  -- who sits there may be further back
  pub one_more : (less : ℕ) (seated : Seated) → get seats index ≡ Some seated → IsSeatNotBehind less seated.seat → less ≤ least
      → (less ≡ least) ⊎ ((s : Screen) × (seated.seat ≡ Watches s) × (s.way ≡ OnLog less)) → LeastBelow seats end (index + 1) less
  one_more less seated at holds few some =
      record {
        below = λ key seat less' sits. by key seat less' sits (eqb_tells key.index index);
        within = (let w : least ≤ end = so_far.within in omega (arith, few, w));
        needed = need some;
      }
    where
      by : (key : Key) (seat : Seat) → key.index < index + 1 → seat_at seats key ≡ Some seat
          → (((key.index == index) ≡ true) × (key.index ≡ index)) ⊎ (((key.index == index) ≡ false) × (key.index ≢ index)) → IsSeatNotBehind less seat
      by key seat less' sits (inl (_, same)) =
          let there : Some seated ≡ Some (record { generation = key.generation; seat = seat }) = sym at ∙ ap (get seats) (sym same) ∙ found_at seats key seat sits in
          let is : seated ≡ record { generation = key.generation; seat = seat } = cc in
          subst (λ x. IsSeatNotBehind less x.seat) is holds
      by key seat less' sits (inr (_, differ)) =
          let before : key.index < index = (let far : key.index ≢ index = differ in grind (arith, less', far)) in
          seat_before less least seat few (so_far.below key seat before sits)

      need : (less ≡ least) ⊎ ((s : Screen) × (seated.seat ≡ Watches s) × (s.way ≡ OnLog less))
          → (less ≡ end) ⊎ ((key : Key) × (s : Screen) × (seat_at seats key ≡ Some (Watches s)) × (s.way ≡ OnLog less))
      need (inl same) =
          subst (λ n. (n ≡ end) ⊎ ((key : Key) × (s : Screen) × (seat_at seats key ≡ Some (Watches s)) × (s.way ≡ OnLog n))) (sym same) so_far.needed
      need (inr (s, is, way)) =
          inr (key_at index seated, s, seat_found seats (key_at index seated) seated at refl ∙ ap Some is, way)

  pub all_need : length seats.slots ≤ index → IsLeastPlace seats end least
  all_need short =
      record { all = λ key seat sits. by key seat sits (cases_lt key.index index); within = so_far.within; needed = so_far.needed }
    where
      by : (key : Key) (seat : Seat) → seat_at seats key ≡ Some seat → (key.index < index) ⊎ (index ≤ key.index) → IsSeatNotBehind least seat
      by key seat sits (inl less) = so_far.below key seat less sits
      by key seat sits (inr past) = let nobody : None ≡ Some seat = sym (nobody_past seats key index short past) ∙ sits in absurd (cc)

-- ---- whose body ends

-- so far below an index
pub record LeaveBelow (log : Backlog) (told : Option (List ℕ)) (now index : ℕ) (old seats : Slab Seated) (failed : Bool) : Type 0 where
  pub ok : failed ≡ false → (key : Key) → key.index < index → EndsSeat log told now (seat_at old key) (seat_at seats key)
  pub left : (key : Key) → key.index < index → EndsSeat log told now (seat_at old key) (seat_at seats key) ⊎ IsCut old seats key
  pub later : (key : Key) → index ≤ key.index → seat_at seats key ≡ seat_at old key
  pub err : failed ≡ true → IsSomeCut old seats
  pub len : slab_len seats ≤ slab_len old

-- whoever ends is not on the log
ends_off : (log : Backlog) (told : Option (List ℕ)) (now : ℕ) (old : Option Seat) (s : Screen) (at : ℕ) → EndsSeat log told now old (Some (Watches s)) → s.way ≡ OnLog at → ⊥
ends_off log told now None s at e w = cc
ends_off log told now (Some (Asks asking)) s at e w = cc
ends_off log told now (Some (Watches t)) s at e w =
    let same : s ≡ e.0 = (let is : Some (Watches s) ≡ Some (Watches e.0) = e.1 in cc) in
    ended_is_off log told now t at (ap (λ x. x.way) (sym (same ∙ e.2)) ∙ w)

-- who is cut is gone
pub or_gone : (log : Backlog) (told : Option (List ℕ)) (now : ℕ) (old seats : Slab Seated) (key : Key) → EndsSeat log told now (seat_at old key) (seat_at seats key) ⊎ IsCut old seats key
    → EndsSeat log told now (seat_at old key) (seat_at seats key) ⊎ (seat_at seats key ≡ None)
or_gone log told now old seats key (inl ends) = inl ends
or_gone log told now old seats key (inr cut) = inr cut.cut

pub left_off : (log : Backlog) (told : Option (List ℕ)) (now : ℕ) (old new : Option Seat) (s : Screen) (at : ℕ) → EndsSeat log told now old new ⊎ (new ≡ None) → new ≡ Some (Watches s) → s.way ≡ OnLog at → ⊥
left_off log told now old new s at (inl e) is w = ends_off log told now old s at (subst (EndsSeat log told now old) is e) w
left_off log told now old new s at (inr none) is w = let no : None ≡ Some (Watches s) = sym none ∙ is in cc

pub still_has_all : (log : Backlog) (told : Option (List ℕ)) (now index : ℕ) (old seats : Slab Seated) (failed : Bool) → LeaveBelow log told now index old seats failed → HasWhatIsDue log old → HasWhatIsDue log seats
still_has_all log told now index old seats failed so_far all key s at sits way = by (cases_lt key.index index)
  where
    by : (key.index < index) ⊎ (index ≤ key.index) → Has log at
    by (inl less) = absurd (left_off log told now (seat_at old key) (seat_at seats key) s at (or_gone log told now old seats key (so_far.left key less)) sits way)
    by (inr past) = all key s at (sym (so_far.later key past) ∙ sits) way

pub none_left : (log : Backlog) (told : Option (List ℕ)) (now : ℕ) (old : Slab Seated) → LeaveBelow log told now 0 old old false
none_left log told now old =
    record {
      ok = λ _ key less. absurd (omega (arith, less));
      left = λ key less. absurd (omega (arith, less));
      later = λ key past. refl;
      err = λ e. absurd (cc);
      len = omega arith;
    }

nobody_ends : (log : Backlog) (told : Option (List ℕ)) (now : ℕ) (old new : Option Seat) → old ≡ None → new ≡ old → EndsSeat log told now old new
nobody_ends log told now old new none same = subst (λ o. EndsSeat log told now o new) (sym none) (same ∙ none)

-- no two sit at one index
at_one : (a b : ℕ) (found : Option Seated) (seat : Seat) → a ≢ b → of_generation b found ≡ Some seat → of_generation a found ≡ None
at_one a b None seat differ sits = refl
at_one a b (Some seated) seat differ sits = by (eqb_tells seated.generation a) (eqb_tells seated.generation b)
  where
    by : (((seated.generation == a) ≡ true) × (seated.generation ≡ a)) ⊎ (((seated.generation == a) ≡ false) × (seated.generation ≢ a))
        → (((seated.generation == b) ≡ true) × (seated.generation ≡ b)) ⊎ (((seated.generation == b) ≡ false) × (seated.generation ≢ b))
        → of_generation a (Some seated) ≡ None
    by (inr (differs, _)) _ = ap (λ t. if t then Some seated.seat else None) differs
    by (inl (_, is)) (inl (_, too)) = absurd (differ (sym is ∙ too))
    by (inl _) (inr (differs, _)) = let none : None ≡ Some seat = sym (ap (λ t. if t then Some seated.seat else None) differs) ∙ sits in absurd (cc)

lone : (seats : Slab Seated) (key other : Key) (seat : Seat) → key.index ≡ other.index → key.generation ≢ other.generation → seat_at seats other ≡ Some seat → seat_at seats key ≡ None
lone seats key other seat there differ sits =
    at_one key.generation other.generation (get seats key.index) seat differ (ap (λ x. of_generation other.generation (get seats x)) there ∙ sits)

module _ (log : Backlog) (told : Option (List ℕ)) (now index : ℕ) (old seats new : Slab Seated) (failed : Bool) (so_far : LeaveBelow log told now index old seats failed)
    (others : (key : Key) → key.index ≢ index → seat_at new key ≡ seat_at seats key) (fewer : slab_len new ≤ slab_len seats) where
  shorter : slab_len new ≤ slab_len old
  shorter = (let a : slab_len new ≤ slab_len seats = fewer in let b : slab_len seats ≤ slab_len old = so_far.len in omega arith)

  later_on : (key : Key) → index + 1 ≤ key.index → seat_at new key ≡ seat_at old key
  later_on key past = others key (λ e. (let same : key.index ≡ index = e in omega (arith, past))) ∙ so_far.later key (omega (arith, past))

  below_it : (key : Key) → key.index < index + 1 → key.index ≢ index → key.index < index
  below_it key less differ = (let far : key.index ≢ index = differ in grind (arith, less, far))

  -- the one at this index has ended
  ended_here : ((key : Key) → key.index ≡ index → EndsSeat log told now (seat_at seats key) (seat_at new key)) → (key : Key) → key.index ≡ index → EndsSeat log told now (seat_at old key) (seat_at new key)
  ended_here here key same = subst (λ o. EndsSeat log told now o (seat_at new key)) (so_far.later key (omega (arith, same))) (here key same)

  still_cut : (key : Key) → IsCut old seats key → key.index ≢ index → IsCut old new key
  still_cut key c differ = record { screen = c.screen; sat = c.sat; follows_log = c.follows_log; cut = others key differ ∙ c.cut }

  cut_apart : (key : Key) → IsCut old seats key → ((k : Key) → k.index ≡ index → seat_at new k ≡ None) ⊎ (key.index ≢ index) → IsCut old new key
  cut_apart key c (inr differ) = still_cut key c differ
  cut_apart key c (inl gone) = record { screen = c.screen; sat = c.sat; follows_log = c.follows_log; cut = by (eqb_tells key.index index) }
    where
      by : (((key.index == index) ≡ true) × (key.index ≡ index)) ⊎ (((key.index == index) ≡ false) × (key.index ≢ index)) → seat_at new key ≡ None
      by (inl (_, same)) = gone key same
      by (inr (_, differ)) = others key differ ∙ c.cut

  stays_left : (key : Key) → key.index ≢ index → EndsSeat log told now (seat_at old key) (seat_at seats key) ⊎ IsCut old seats key
      → EndsSeat log told now (seat_at old key) (seat_at new key) ⊎ IsCut old new key
  stays_left key differ (inl ends) = inl (subst (λ n. EndsSeat log told now (seat_at old key) n) (sym (others key differ)) ends)
  stays_left key differ (inr cut) = inr (still_cut key cut differ)

  -- where the one at this index is cut, nobody else sat there
  cut_or_nobody : CutsSeat seats new index → (key : Key) → key.index ≡ index → EndsSeat log told now (seat_at old key) (seat_at new key) ⊎ IsCut old new key
  cut_or_nobody c key same = by (eqb_tells key.generation c.some.0.generation)
    where
      one : IsCut old new c.some.0
      one = (let k = c.some.0 in let is = c.some.1.0 in let cut = c.some.1.1 in
          record { screen = cut.screen; sat = sym (so_far.later k (omega (arith, is))) ∙ cut.sat; follows_log = cut.follows_log; cut = cut.cut })

      there : key.index ≡ c.some.0.index
      there = same ∙ sym c.some.1.0

      by : (((key.generation == c.some.0.generation) ≡ true) × (key.generation ≡ c.some.0.generation)) ⊎ (((key.generation == c.some.0.generation) ≡ false) × (key.generation ≢ c.some.0.generation))
          → EndsSeat log told now (seat_at old key) (seat_at new key) ⊎ IsCut old new key
      by (inl (_, alike)) =
          inr (subst (IsCut old new) (sym (ap (λ x. record { index = x; generation = key.generation }) there ∙ ap (λ x. record { index = c.some.0.index; generation = x }) alike)) one)
      by (inr (_, differ)) = inl (nobody_ends log told now (seat_at old key) (seat_at new key) (lone old key c.some.0 (Watches one.screen) there differ one.sat)
          (c.all key same ∙ sym (lone old key c.some.0 (Watches one.screen) there differ one.sat)))

  -- whoever was cut sat below this index
  cut_before : (key : Key) → IsCut old seats key → key.index ≢ index
  cut_before key c same =
      let none : Some (Watches c.screen) ≡ None = sym c.sat ∙ sym (so_far.later key (omega (arith, same))) ∙ c.cut in absurd (cc)

  pub one_leaves : ((key : Key) → key.index ≡ index → EndsSeat log told now (seat_at seats key) (seat_at new key)) → LeaveBelow log told now (index + 1) old new failed
  one_leaves here =
      record {
        ok = λ f key less. ok_by f key less (eqb_tells key.index index);
        left = λ key less. left_by key less (eqb_tells key.index index);
        later = later_on;
        err = λ t. (let c = so_far.err t in (c.0, still_cut c.0 c.1 (cut_before c.0 c.1)));
        len = shorter;
      }
    where
      ok_by : failed ≡ false → (key : Key) → key.index < index + 1
          → (((key.index == index) ≡ true) × (key.index ≡ index)) ⊎ (((key.index == index) ≡ false) × (key.index ≢ index)) → EndsSeat log told now (seat_at old key) (seat_at new key)
      ok_by f key less (inl (_, same)) = ended_here here key same
      ok_by f key less (inr (_, differ)) = subst (λ n. EndsSeat log told now (seat_at old key) n) (sym (others key differ)) (so_far.ok f key (below_it key less differ))

      left_by : (key : Key) → key.index < index + 1
          → (((key.index == index) ≡ true) × (key.index ≡ index)) ⊎ (((key.index == index) ≡ false) × (key.index ≢ index)) → EndsSeat log told now (seat_at old key) (seat_at new key) ⊎ IsCut old new key
      left_by key less (inl (_, same)) = inl (ended_here here key same)
      left_by key less (inr (_, differ)) = stays_left key differ (so_far.left key (below_it key less differ))

  pub one_is_cut : CutsSeat seats new index → LeaveBelow log told now (index + 1) old new true
  one_is_cut c =
      record {
        ok = λ f. absurd (let no : true ≡ false = f in cc);
        left = λ key less. left_by key less (eqb_tells key.index index);
        later = later_on;
        err = λ _. (let k = c.some.0 in let is = c.some.1.0 in let one = c.some.1.1 in
            (k, record { screen = one.screen; sat = sym (so_far.later k (omega (arith, is))) ∙ one.sat; follows_log = one.follows_log; cut = one.cut }));
        len = shorter;
      }
    where
      left_by : (key : Key) → key.index < index + 1
          → (((key.index == index) ≡ true) × (key.index ≡ index)) ⊎ (((key.index == index) ≡ false) × (key.index ≢ index)) → EndsSeat log told now (seat_at old key) (seat_at new key) ⊎ IsCut old new key
      left_by key less (inl (_, same)) = cut_or_nobody c key same
      left_by key less (inr (_, differ)) = stays_left key differ (so_far.left key (below_it key less differ))

module _ (log : Backlog) (told : Option (List ℕ)) (now index : ℕ) (old seats : Slab Seated) (failed : Bool) (so_far : LeaveBelow log told now index old seats failed) (short : length old.slots ≤ index) where
  past_end : (key : Key) → index ≤ key.index → EndsSeat log told now (seat_at old key) (seat_at seats key)
  past_end key past = nobody_ends log told now (seat_at old key) (seat_at seats key) (nobody_past old key index short past) (so_far.later key past)

  pub all_ended : failed ≡ false → (key : Key) → EndsSeat log told now (seat_at old key) (seat_at seats key)
  all_ended f key = by (cases_lt key.index index)
    where
      by : (key.index < index) ⊎ (index ≤ key.index) → EndsSeat log told now (seat_at old key) (seat_at seats key)
      by (inl less) = so_far.ok f key less
      by (inr past) = past_end key past

  pub all_left : (key : Key) → EndsSeat log told now (seat_at old key) (seat_at seats key) ⊎ IsCut old seats key
  all_left key = by (cases_lt key.index index)
    where
      by : (key.index < index) ⊎ (index ≤ key.index) → EndsSeat log told now (seat_at old key) (seat_at seats key) ⊎ IsCut old seats key
      by (inl less) = so_far.left key less
      by (inr past) = inl (past_end key past)

-- whoever ends sat there before
pub ends_was : (log : Backlog) (told : Option (List ℕ)) (now : ℕ) (old new : Option Seat) (seat : Seat) → EndsSeat log told now old new ⊎ (new ≡ None) → new ≡ Some seat → (was : Seat) × (old ≡ Some was)
ends_was log told now old new seat (inr none) is = let no : None ≡ Some seat = sym none ∙ is in absurd (cc)
ends_was log told now None new seat (inl e) is = let no : None ≡ Some seat = sym e ∙ is in absurd (cc)
ends_was log told now (Some was) new seat (inl e) is = (was, refl)
