-- A hub, seat by seat.
use Rattle.std.proofs.Common.{◌≡◌, ◌≢◌, refl, sym, ap, ◌∙◌, subst, ℕ, ◌⊎◌, true, false, true≢false, List, [], ◌∷◌, ◌++◌, Option, Some, None, inl, inr, ◌<◌, ◌≤◌, ◌^◌, ◌+◌, ◌-◌, max, length, length-append, length-drop, arith, take}
use Rattle.std.specs.Prelude.{◌==◌, Bool, IsSome, Result, Ok, Err, IfOk, OnOk}
use Rattle.std.proofs.lemmas.Bool.Decides.{eqb_tells}
use Rattle.slab.specs.Slab.{Slab, get, Updates}
use Rattle.feed_settings.specs.declared.framing.Framing.{Framing}
use Rattle.feed_node.specs.States.{NodeState, published_token}
use Rattle.feed_node.specs.declared.session.Pulled.{Pulled}
use Rattle.feed_node.specs.declared.session.Pulled.TheVariants.{More, UpToDate, Gone}
use Rattle.feed_http.specs.Sessions.{Next, Nothing_new, Lost, Commit_after, next}
use Rattle.feed_answer.specs.Answered.{AnswerParts, AnswersTo}
use Rattle.feed_hub.specs.declared.asking.Asking.{Asking}
use Rattle.feed_hub.specs.declared.broadcast.Broadcast.{Broadcast}
use Rattle.feed_hub.specs.declared.hub.Heard.{Heard}
use Rattle.feed_hub.specs.declared.screen.Refill.{Refill}
use Rattle.feed_hub.specs.declared.screen.Refill.TheVariants.{Goes, Waits}
use Rattle.feed_hub.specs.declared.screen.Screen.{Screen}
use Rattle.feed_hub.specs.declared.screen.Way.{Way}
use Rattle.feed_hub.specs.declared.screen.Way.TheVariants.{CatchesUp, OnLog, Stops, Over}
use Rattle.feed_hub.specs.declared.seats.Key.{Key}
use Rattle.feed_hub.specs.declared.seats.Seat.{Seat}
use Rattle.feed_hub.specs.declared.seats.Seat.TheVariants.{Asks, Watches}
use Rattle.feed_hub.specs.declared.seats.Seated.{Seated}
use Rattle.feed_hub.specs.Broadcast.{IsServedBy, Gains, SaysNext}
use Rattle.feed_hub.specs.Hub.{TakesOfHead, HearsOf, HearsAt, HoldsAt}
use Rattle.feed_hub.specs.Backlog.{Backlog, Has, behind, end_of, oldest_in}
use Rattle.feed_hub.specs.Screen.{IsOnLog, IsSentFrom, IsNotBehind, IsServed}
use Rattle.feed_hub.specs.Seats.{seat_at, AreOnLog, HasWhatIsDue, ChangesSeat, KeepsThose, IsSeatNotBehind, IsLeastPlace, Watched, EndsSeat, CutsSeat}
use Rattle.feed_hub.specs.Steps.{opened, Gets, way_after, with_next, refilled, refilled_at, idled, idled_at, taken, way_from, TakesFromLog, ended}
use Rattle.feed_hub.proofs.LoopLemmas.{left_off}
use Rattle.feed_hub.proofs.SeatLemmas.{seat_found, removed_at, same_seat}
use Rattle.feed_hub.proofs.ServedLemmas.{served_opens, served_refused, ended_served}

-- ---- keys

pub key_tells : (a b : Key) → (a ≡ b) ⊎ (a ≢ b)
key_tells a b = by (eqb_tells a.index b.index) (eqb_tells a.generation b.generation)
  where
    by : (((a.index == b.index) ≡ true) × (a.index ≡ b.index)) ⊎ (((a.index == b.index) ≡ false) × (a.index ≢ b.index))
        → (((a.generation == b.generation) ≡ true) × (a.generation ≡ b.generation)) ⊎ (((a.generation == b.generation) ≡ false) × (a.generation ≢ b.generation))
        → (a ≡ b) ⊎ (a ≢ b)
    by (inr (_, differ)) _ = inr (λ e. differ (ap (λ k. k.index) e))
    by (inl _) (inr (_, differ)) = inr (λ e. differ (ap (λ k. k.generation) e))
    by (inl (_, i)) (inl (_, g)) = inl (ap (λ x. record { index = x; generation = a.generation }) i ∙ ap (λ x. record { index = b.index; generation = x }) g)

pub same_asking : (a b : Asking) → Some (Asks a) ≡ Some (Asks b) → a ≡ b
same_asking a b e = cc

pub same_screen : (s t : Screen) → Some (Watches s) ≡ Some (Watches t) → s ≡ t
same_screen s t e = cc

-- nothing becomes of a seat with no screen
pub unwatched : (Becomes : Screen → Screen → Type 0) (o : Option Seat) → ((s : Screen) → o ≢ Some (Watches s)) → Watched Becomes o o
unwatched Becomes None none = refl
unwatched Becomes (Some (Asks asking)) none = refl
unwatched Becomes (Some (Watches s)) none = absurd (none s refl)

-- a screen that was there became this one
pub watched : (Becomes : Screen → Screen → Type 0) (old new : Option Seat) (s t : Screen) → old ≡ Some (Watches s)
    → new ≡ Some (Watches t) → Becomes s t → Watched Becomes old new
watched Becomes old new s t was is becomes = subst (λ o. Watched Becomes o new) (sym was) (t, is, becomes)

-- ---- who is on the log

-- what sits here is as it should be, if it is on the log
abbrev pub IsFine : Framing → Option (List ℕ) → Backlog → Seat → Type 0
IsFine common told log seat = (s : Screen) (at : ℕ) → seat ≡ Watches s → s.way ≡ OnLog at → IsSentFrom common told log s.framing at

pub fine_at : (common : Framing) (told : Option (List ℕ)) (log : Backlog) (seats : Slab Seated) (key : Key) (s : Screen)
    → AreOnLog common told log seats → seat_at seats key ≡ Some (Watches s) → (at : ℕ) → s.way ≡ OnLog at → IsSentFrom common told log s.framing at
fine_at common told log seats key s on sits at way = on key s at sits way

on_of_way : (log : Backlog) (way : Way) → ((at : ℕ) → way ≡ OnLog at → Has log at) → IsOnLog log way
on_of_way log (CatchesUp token) has = tt
on_of_way log (OnLog at) has = has at refl
on_of_way log (Stops token) has = tt
on_of_way log Over has = tt

pub on_log : (common : Framing) (told : Option (List ℕ)) (log : Backlog) (seats : Slab Seated) (key : Key) (s : Screen)
    → AreOnLog common told log seats → seat_at seats key ≡ Some (Watches s) → IsOnLog log s.way
on_log common told log seats key s on sits = on_of_way log s.way (λ at way. (on key s at sits way).has)

pub has_all : (common : Framing) (told : Option (List ℕ)) (log : Backlog) (seats : Slab Seated) → AreOnLog common told log seats → HasWhatIsDue log seats
has_all common told log seats on key s at sits way = (on key s at sits way).has

module _ (common : Framing) (told : Option (List ℕ)) (log : Backlog) (old new : Slab Seated) (key : Key) (on : AreOnLog common told log old) where
  pub changed_on : (seat : Seat) → ChangesSeat old new key (Some seat) → IsFine common told log seat → AreOnLog common told log new
  changed_on seat ch fine k s at sits way = by (key_tells k key)
    where
      by : (k ≡ key) ⊎ (k ≢ key) → IsSentFrom common told log s.framing at
      by (inl same) = fine s at (same_seat seat (Watches s) (sym ch.changed ∙ ap (seat_at new) (sym same) ∙ sits)) way
      by (inr other) = on k s at (sym (ch.others k other) ∙ sits) way

  pub emptied_on : ChangesSeat old new key None → AreOnLog common told log new
  emptied_on ch k s at sits way = by (key_tells k key)
    where
      by : (k ≡ key) ⊎ (k ≢ key) → IsSentFrom common told log s.framing at
      by (inl same) = let none : None ≡ Some (Watches s) = sym ch.changed ∙ ap (seat_at new) (sym same) ∙ sits in absurd (cc)
      by (inr other) = on k s at (sym (ch.others k other) ∙ sits) way

pub same_on : (common : Framing) (told : Option (List ℕ)) (log : Backlog) (old new : Slab Seated) → AreOnLog common told log old
    → ((key : Key) (seat : Seat) → seat_at new key ≡ Some seat → seat_at old key ≡ Some seat) → AreOnLog common told log new
same_on common told log old new on same key s at sits way = on key s at (same key (Watches s) sits) way

-- ---- what a screen becomes

next_way : (n : Next) (now : ℕ) (s : Screen) (at : ℕ) → (with_next n now s).way ≡ OnLog at → with_next n now s ≡ s
next_way Nothing_new now s at e = refl
next_way Lost now s at e = cc
next_way (Commit_after commit) now s at e = cc

refilled_way_at : (own : List ℕ) (way : Way) (node : NodeState) (now : ℕ) (s : Screen) (at : ℕ)
    → (refilled_at own way node now s).way ≡ OnLog at → refilled_at own way node now s ≡ s
refilled_way_at [] (CatchesUp token) node now s at e = next_way (next node token) now s at e
refilled_way_at [] (OnLog place) node now s at e = refl
refilled_way_at [] (Stops token) node now s at e = cc
refilled_way_at [] Over node now s at e = refl
refilled_way_at (b ∷ bs) (CatchesUp token) node now s at e = refl
refilled_way_at (b ∷ bs) (OnLog place) node now s at e = refl
refilled_way_at (b ∷ bs) (Stops token) node now s at e = refl
refilled_way_at (b ∷ bs) Over node now s at e = refl

pub refilled_way : (node : NodeState) (now : ℕ) (s : Screen) (at : ℕ) → (refilled node now s).way ≡ OnLog at → refilled node now s ≡ s
refilled_way node now s at e = refilled_way_at s.own s.way node now s at e

idled_way_at : (own : List ℕ) (way : Way) (now : ℕ) (s : Screen) (at : ℕ) → (idled_at own way now s).way ≡ OnLog at → idled_at own way now s ≡ s
idled_way_at [] (CatchesUp token) now s at e = cc
idled_way_at [] (OnLog place) now s at e = refl
idled_way_at [] (Stops token) now s at e = refl
idled_way_at [] Over now s at e = refl
idled_way_at (b ∷ bs) (CatchesUp token) now s at e = refl
idled_way_at (b ∷ bs) (OnLog place) now s at e = refl
idled_way_at (b ∷ bs) (Stops token) now s at e = refl
idled_way_at (b ∷ bs) Over now s at e = refl

pub idled_way : (now : ℕ) (s : Screen) (at : ℕ) → (idled now s).way ≡ OnLog at → idled now s ≡ s
idled_way now s at e = idled_way_at s.own s.way now s at e

pub was_on : (count : ℕ) (own : List ℕ) (way : Way) (at : ℕ) → way_from count own way ≡ OnLog at → (place : ℕ) × (way ≡ OnLog place)
was_on count [] (OnLog place) at e = (place, refl)
was_on count (b ∷ bs) (OnLog place) at e = (place, refl)
was_on count [] (CatchesUp token) at e = let no : CatchesUp token ≡ OnLog at = e in absurd (cc)
was_on count (b ∷ bs) (CatchesUp token) at e = let no : CatchesUp token ≡ OnLog at = e in absurd (cc)
was_on count [] (Stops token) at e = let no : Stops token ≡ OnLog at = e in absurd (cc)
was_on count (b ∷ bs) (Stops token) at e = let no : Stops token ≡ OnLog at = e in absurd (cc)
was_on count [] Over at e = let no : Over ≡ OnLog at = e in absurd (cc)
was_on count (b ∷ bs) Over at e = let no : Over ≡ OnLog at = e in absurd (cc)

way_after_off : (session : Option (List ℕ)) (at : ℕ) → way_after session ≡ OnLog at → ⊥
way_after_off None at e = cc
way_after_off (Some token) at e = cc

pub opened_fine : (common : Framing) (told : Option (List ℕ)) (log : Backlog) (answer : AnswerParts) (now : ℕ) → IsFine common told log (Watches (opened answer now))
opened_fine common told log answer now s at is way =
    let same : opened answer now ≡ s = cc in
    absurd (way_after_off answer.session at (ap (λ x. x.way) same ∙ way))

has_at : (log : Backlog) (way : Way) (at : ℕ) → IsOnLog log way → way ≡ OnLog at → Has log at
has_at log way at on e = subst (IsOnLog log) e on

module _ (common : Framing) (told : Option (List ℕ)) (log : Backlog) (s : Screen)
    (fine : (at : ℕ) → s.way ≡ OnLog at → IsSentFrom common told log s.framing at) where
  pub idled_fine : (now : ℕ) (t : Screen) → t ≡ idled now s → IsFine common told log (Watches t)
  idled_fine now t e u at is way =
      let same : u ≡ idled now s = (let first : t ≡ u = cc in sym first ∙ e) in
      let kept : idled now s ≡ s = idled_way now s at (ap (λ x. x.way) (sym same) ∙ way) in
      subst (λ x. IsSentFrom common told log x.framing at) (sym (same ∙ kept)) (fine at (ap (λ x. x.way) (sym (same ∙ kept)) ∙ way))

  pub kept_fine : (t : Screen) → t.way ≡ s.way → t.framing ≡ s.framing → IsFine common told log (Watches t)
  kept_fine t same_way same_framing u at is way =
      let same : t ≡ u = cc in
      subst (λ f. IsSentFrom common told log f at) (sym same_framing ∙ ap (λ x. x.framing) same)
      (fine at (sym same_way ∙ ap (λ x. x.way) same ∙ way))

  -- one that got what comes next, or stays, is on the log only where it was there, or joined it
  got_on_log : (node : NodeState) (room : Bool) (now : ℕ) (got : Refill) (r : Screen) (at : ℕ)
      → Gets node room now got s r → r.way ≡ OnLog at → r ≡ s
  got_on_log node room now (Goes number) r at is way = is ∙ refilled_way node now s at (ap (λ x. x.way) (sym is) ∙ way)
  got_on_log node room now (Waits count) r at is way = is.0

  pub joined_fine : (node : NodeState) (room : Bool) (now : ℕ) (got : Refill) (r t : Screen) → Gets node room now got s r
      → ((at : ℕ) → t.way ≡ OnLog at → (t ≡ r) ⊎ IsSentFrom common told log t.framing at) → IsFine common told log (Watches t)
  joined_fine node room now got r t gets joins u at is way = by (joins at (ap (λ x. x.way) same ∙ way))
    where
      same : t ≡ u
      same = cc

      by : (t ≡ r) ⊎ IsSentFrom common told log t.framing at → IsSentFrom common told log u.framing at
      by (inr followed) = subst (λ x. IsSentFrom common told log x.framing at) same followed
      by (inl e) =
          let is : u ≡ r = sym same ∙ e in
          let kept : r ≡ s = got_on_log node room now got r at gets (ap (λ x. x.way) (sym is) ∙ way) in
          subst (λ x. IsSentFrom common told log x.framing at) (sym (is ∙ kept)) (fine at (ap (λ x. x.way) (sym (is ∙ kept)) ∙ way))

  pub taken_fine : (count now : ℕ) (t : Screen) → t ≡ taken count now s → IsOnLog log t.way → IsFine common told log (Watches t)
  taken_fine count now t e on u at is way =
      let same : t ≡ u = cc in
      let was = was_on count s.own s.way at (ap (λ x. x.way) (sym e ∙ same) ∙ way) in
      let before = fine was.0 was.1 in
      let framing : u.framing ≡ s.framing = ap (λ x. x.framing) (sym same ∙ e) in
      record {
        has = has_at log t.way at on (ap (λ x. x.way) same ∙ way);
        framing = framing ∙ before.framing;
        going = before.going;
      }

-- ---- what all are sent

module _ (seats : Slab Seated) where
  grown_on : (common : Framing) (told new_told : Option (List ℕ)) (log new_log : Backlog) (block : List ℕ) → AreOnLog common told log seats
      → (IsSome told → IsSome new_told) → Gains log new_log block → AreOnLog common new_told new_log seats
  grown_on common told new_told log new_log block on some gains key s at sits way =
      let before = on key s at sits way in
      let from : log.base ≤ at = before.has.from in
      let to : at ≤ log.base + length log.bytes = before.has.to in
      let longer : length (log.bytes ++ block) ≡ length log.bytes + length block = length-append log.bytes block in
      record {
        has = subst (λ l. Has l at) (sym gains) (record { from = from; to = omega (arith, to, longer) });
        framing = before.framing;
        going = some before.going;
      }

  pub gains_on : (b new : Broadcast) (block : List ℕ) → AreOnLog b.framing b.told b.log seats → new.framing ≡ b.framing → new.told ≡ b.told
      → Gains b.log new.log block → AreOnLog new.framing new.told new.log seats
  gains_on b new block on framing told gains =
      subst (λ f. AreOnLog f new.told new.log seats) (sym framing)
      (grown_on b.framing b.told new.told b.log new.log block on (λ some. subst IsSome (sym told) some) gains)

  nobody : (b : Broadcast) → b.told ≡ None → AreOnLog b.framing b.told b.log seats → (common : Framing) (told : Option (List ℕ)) (log : Backlog) → AreOnLog common told log seats
  nobody b none on common told log key s at sits way =
      let some : IsSome {T = List ℕ} None = subst IsSome none (on key s at sits way).going in absurd (true≢false (sym some))

  pub says_on : (node : NodeState) (b new : Broadcast) (pulled : Pulled) → AreOnLog b.framing b.told b.log seats → SaysNext node b new pulled
      → AreOnLog new.framing new.told new.log seats
  says_on node b new More on says =
      subst (λ f. AreOnLog f new.told new.log seats) (sym says.framing)
      (grown_on b.framing b.told new.told b.log new.log _ on (λ _. subst IsSome (sym says.told) refl) says.gains)
  says_on node b new UpToDate on says = by says.was
    where
      by : (b.told ≡ None) ⊎ (b.told ≡ published_token node) → AreOnLog new.framing new.told new.log seats
      by (inl none) = nobody b none on new.framing new.told new.log
      by (inr same) =
          subst (λ f. AreOnLog f new.told new.log seats) (sym says.framing)
          (subst (λ o. AreOnLog b.framing o new.log seats) (same ∙ sym says.told)
          (subst (λ l. AreOnLog b.framing b.told l seats) (sym says.log) on))
  says_on node b new Gone on says = subst (λ x. AreOnLog x.framing x.told x.log seats) (sym says.same) on

-- who is left once all have left is not on the log
pub left_on : (log : Backlog) (was : Option (List ℕ)) (now : ℕ) (old new : Slab Seated) (common : Framing) (told : Option (List ℕ)) (later : Backlog)
    → ((key : Key) → EndsSeat log was now (seat_at old key) (seat_at new key) ⊎ (seat_at new key ≡ None)) → AreOnLog common told later new
left_on log was now old new common told later left key s at sits way =
    absurd (left_off log was now (seat_at old key) (seat_at new key) s at (left key) sits way)

not_behind_at : (place at : ℕ) (way : Way) → IsNotBehind place way → way ≡ OnLog at → place ≤ at
not_behind_at place at way holds e = subst (IsNotBehind place) e holds

-- who is there once some were cut is not behind the least place
pub still_there : (place least end : ℕ) (old new : Slab Seated) → KeepsThose (IsSeatNotBehind place) old new → IsLeastPlace new end least
    → (key : Key) (seat : Seat) → seat_at new key ≡ Some seat → (seat_at old key ≡ Some seat) × IsSeatNotBehind least seat
still_there place least end old new keeps is key seat sits = ((keeps.kept key seat sits).0, is.all key seat sits)

-- the log has that place, and not more than the window behind it
module _ (common : Framing) (told : Option (List ℕ)) (log : Backlog) (window least : ℕ) (old new : Slab Seated) (on : AreOnLog common told log old)
    (keeps : KeepsThose (IsSeatNotBehind (oldest_in window log)) old new) (is : IsLeastPlace new (end_of log) least) where
  pub has_least : Has log least
  has_least = record { from = by is.needed; to = is.within }
    where
      by : (least ≡ end_of log) ⊎ ((key : Key) × (s : Screen) × (seat_at new key ≡ Some (Watches s)) × (s.way ≡ OnLog least)) → log.base ≤ least
      by (inl same) = let e : least ≡ log.base + length log.bytes = same in omega (arith, e)
      by (inr (key, s, sits, way)) = (on key s least (keeps.kept key (Watches s) sits).0 way).has.from

  pub few_left : length (behind log least) ≤ window
  few_left = by is.needed
    where
      longer : length (behind log least) ≡ length log.bytes - (least - log.base)
      longer = length-drop (least - log.base) log.bytes

      by : (least ≡ end_of log) ⊎ ((key : Key) × (s : Screen) × (seat_at new key ≡ Some (Watches s)) × (s.way ≡ OnLog least)) → length (behind log least) ≤ window
      by (inl same) = let e : least ≡ log.base + length log.bytes = same in omega (arith, e, longer)
      by (inr (key, s, sits, way)) =
          let above : max log.base (log.base + length log.bytes - window) ≤ least =
          not_behind_at (oldest_in window log) least s.way (keeps.kept key (Watches s) sits).1 way in
          omega (arith, above, longer)

-- the log forgets what lies before a place, and who lacks something of that is cut
pub trims_on : (common : Framing) (told : Option (List ℕ)) (log : Backlog) (place : ℕ) (old new : Slab Seated) → AreOnLog common told log old
    → Has log place → ((key : Key) (seat : Seat) → seat_at new key ≡ Some seat → (seat_at old key ≡ Some seat) × IsSeatNotBehind place seat) → AreOnLog common told (record { base = place; bytes = behind log place }) new
trims_on common told log place old new on has keeps key s at sits way =
    let kept = keeps key (Watches s) sits in
    let before = on key s at kept.0 way in
    let above : place ≤ at = not_behind_at place at s.way kept.1 way in
    let from : log.base ≤ place = has.from in
    let to : at ≤ log.base + length log.bytes = before.has.to in
    let longer : length (behind log place) ≡ length log.bytes - (place - log.base) = length-drop (place - log.base) log.bytes in
    record {
      has = record { from = above; to = omega (arith, to, from, above, longer) };
      framing = before.framing;
      going = before.going;
    }

-- whoever stays has what it is to be sent of that log
pub still_on : (log : Backlog) (place : ℕ) (way : Way) → IsOnLog log way → IsNotBehind place way → Has log place
    → IsOnLog (record { base = place; bytes = behind log place }) way
still_on log place (CatchesUp token) on holds has = tt
still_on log place (Stops token) on holds has = tt
still_on log place Over on holds has = tt
still_on log place (OnLog at) on holds has =
    let above : place ≤ at = holds in
    let from : log.base ≤ place = has.from in
    let to : at ≤ log.base + length log.bytes = on.to in
    let longer : length (behind log place) ≡ length log.bytes - (place - log.base) = length-drop (place - log.base) log.bytes in
    record { from = above; to = omega (arith, to, from, above, longer) }

-- ---- a screen begins

pub opened_served : (nodes : List NodeState) (common : Framing) (log : Backlog) (told : Option (List ℕ)) (answer : AnswerParts) (now : ℕ)
    → length answer.text < 2 ^ 64 → IsServed nodes common log told answer [] (opened answer now)
opened_served nodes common log told answer now fits = by answer.session refl
  where
    by : (o : Option (List ℕ)) → answer.session ≡ o → IsServed nodes common log told answer [] (record { own = answer.text; framing = answer.framing; way = way_after answer.session; moved = now })
    by None e = subst (λ o. IsServed nodes common log told answer [] (record { own = answer.text; framing = answer.framing; way = way_after o; moved = now })) (sym e)
        (served_refused nodes answer common log told e)
    by (Some token) e = subst (λ o. IsServed nodes common log told answer [] (record { own = answer.text; framing = answer.framing; way = way_after o; moved = now })) (sym e)
        (served_opens nodes answer common log told token e fits)

-- ---- a screen at an index

pub on_at_index : (log : Backlog) (seats : Slab Seated) (index generation : ℕ) (s : Screen) → HasWhatIsDue log seats
    → get seats index ≡ Some (record { generation = generation; seat = Watches s }) → IsOnLog log s.way
on_at_index log seats index generation s all at =
    let key : Key = record { index = index; generation = generation } in
    on_of_way log s.way (λ place way. all key s place (seat_found seats key (record { generation = generation; seat = Watches s }) at refl) way)

pub cut_at_index : (old new : Slab Seated) (index generation : ℕ) (s : Screen)
    → get old index ≡ Some (record { generation = generation; seat = Watches s }) → TakesFromLog s → Updates old new index None → CutsSeat old new index
cut_at_index old new index generation s at goes_on u =
    let key : Key = record { index = index; generation = generation } in
    record {
      some = (
        key,
        (
          refl,
          record {
            screen = s;
            sat = seat_found old key (record { generation = generation; seat = Watches s }) at refl;
            follows_log = goes_on;
            cut = removed_at old new index u key refl;
          },
        ),
      );
      all = λ k same. removed_at old new index u k same;
    }

-- ---- what is heard

pub if_all : {E : Type 0} (r : Result Key E) (A B D : Key → Type 0) (C : Type 0) → IfOk r A → IfOk r B → OnOk r C
    → ((k : Key) → A k → B k → C → D k) → IfOk r D
if_all (Ok k) A B D C a b c f = f k a b c
if_all (Err e) A B D C a b c f = tt

asks_fine : (b : Broadcast) (asking : Asking) (s : Screen) (at : ℕ) → Asks asking ≡ Watches s → IsSentFrom b.framing b.told b.log s.framing at
asks_fine b asking s at is = absurd (cc)

pub heard_fine : (b : Broadcast) (contest : List ℕ) (node : NodeState) (now : ℕ) (before : Asking) (head : List ℕ) (status : Option ℕ) (seat : Seat)
    → HearsOf b contest node now before head status seat → IsFine b.framing b.told b.log seat
heard_fine b contest node now before head status (Asks asking) h = λ s at is way. asks_fine b asking s at is
heard_fine b contest node now before head status (Watches t) h =
    subst (λ x. IsFine b.framing b.told b.log (Watches x)) (sym h.answered.opens) (opened_fine b.framing b.told b.log h.answered.answer now)

pub heard_served : (b : Broadcast) (contest : List ℕ) (node : NodeState) (now : ℕ) (before : Asking) (head : List ℕ) (status : Option ℕ) (seat : Seat) (s : Screen)
    → HearsOf b contest node now before head status seat → seat ≡ Watches s
    → (answer : AnswerParts) × AnswersTo head contest node b.framing 0 answer × ((nodes : List NodeState) → IsServedBy nodes b answer [] s)
heard_served b contest node now before head status (Asks asking) s h is = let no : Asks asking ≡ Watches s = is in absurd (cc)
heard_served b contest node now before head status (Watches t) s h is =
    let a = h.answered in
    let same : opened a.answer now ≡ s = (let one : t ≡ s = cc in sym a.opens ∙ one) in
    (a.answer, a.answers, λ nodes. subst (λ x. IsServedBy nodes b a.answer [] x) same (opened_served nodes b.framing b.log b.told a.answer now a.fits))

pub heard_at : (b : Broadcast) (contest : List ℕ) (node : NodeState) (now : ℕ) (piece : List ℕ) (heard : Heard) (asking : Asking) (old new : Option Seat) (seat : Seat)
    → old ≡ Some (Asks asking) → new ≡ Some seat → TakesOfHead asking.head.items piece heard.taken
    → HearsOf b contest node now asking (asking.head.items ++ take heard.taken piece) heard.status seat
    → HearsAt b contest node now piece heard old new
heard_at b contest node now piece heard asking old new seat was is takes hears =
    subst (λ o. HearsAt b contest node now piece heard o new) (sym was)
    (record { takes = takes; seat = seat; seat_is = is; hears = hears })

-- a request that is held
pub held_at : (until : ℕ) (piece : List ℕ) (count : ℕ) (asking held : Asking) (old new : Option Seat)
    → old ≡ Some (Asks asking) → new ≡ Some (Asks held) → TakesOfHead asking.head.items piece count
    → held.head.items ≡ asking.head.items ++ take count piece → held.until ≡ until → HoldsAt until piece count old new
held_at until piece count asking held old new was is takes head until_is =
    subst (λ o. HoldsAt until piece count o new) (sym was) (takes, (held, is, head, until_is))

-- ---- what is said

pub joined_over : (t u r : Screen) (f g : Framing) (o p : Option (List ℕ)) (l m : Backlog) (at : ℕ) → g ≡ f → p ≡ o → m ≡ l → u ≡ r
    → (t ≡ u) ⊎ IsSentFrom g p m t.framing at → (t ≡ r) ⊎ IsSentFrom f o l t.framing at
joined_over t u r f g o p l m at ef eo el er (inl same) = inl (same ∙ er)
joined_over t u r f g o p l m at ef eo el er (inr followed) =
    inr (subst (λ x. IsSentFrom x o l t.framing at) ef (subst (λ x. IsSentFrom g x l t.framing at) eo (subst (λ x. IsSentFrom g p x t.framing at) el followed)))

-- whoever was seated and served is so once all have ended, or is cut
pub ends_seated : (nodes : List NodeState) (b new : Broadcast) (now : ℕ) (old seats : Option Seat)
    → new.told ≡ None → new.framing ≡ b.framing
    → EndsSeat b.log b.told now old seats ⊎ (seats ≡ None)
    → ((answer : AnswerParts) (handed : List ℕ) → ((s : Screen) × (old ≡ Some (Watches s)) × IsServedBy nodes b answer handed s)
    → (s : Screen) × (seats ≡ Some (Watches s)) × IsServedBy nodes new answer handed s) ⊎ (seats ≡ None)
ends_seated nodes b new now old seats told framing (inr none) = inr none
ends_seated nodes b new now old seats told framing (inl ends) = inl (λ answer handed seated.
    let here : EndsSeat b.log b.told now (Some (Watches seated.0)) seats = subst (λ o. EndsSeat b.log b.told now o seats) seated.1 ends in
    let served = ended_served b.told seated.0 now new.log None seated.2 in
    let over : IsServedBy nodes new answer handed (ended b.log b.told now seated.0) =
    subst (λ o. IsServed nodes new.framing new.log o answer handed (ended b.log b.told now seated.0)) (sym told)
    (subst (λ f. IsServed nodes f new.log None answer handed (ended b.log b.told now seated.0)) (sym framing) served) in
    (here.0, here.1, subst (λ x. IsServedBy nodes new answer handed x) (sym here.2) over))

-- whoever was seated and served is so once the log was trimmed, or is cut
pub trims_seated : (nodes : List NodeState) (b new : Broadcast) (place : ℕ) (key : Key) (old seats : Slab Seated)
    → AreOnLog b.framing b.told b.log old → Has b.log place
    → ((key : Key) (seat : Seat) → seat_at seats key ≡ Some seat → (seat_at old key ≡ Some seat) × IsSeatNotBehind place seat)
    → new.log ≡ record { base = place; bytes = behind b.log place }
    → ((answer : AnswerParts) (handed : List ℕ) (s : Screen) → IsServedBy nodes b answer handed s → IsOnLog new.log s.way → IsServedBy nodes new answer handed s)
    → ((answer : AnswerParts) (handed : List ℕ) → ((s : Screen) × (seat_at old key ≡ Some (Watches s)) × IsServedBy nodes b answer handed s)
    → (s : Screen) × (seat_at seats key ≡ Some (Watches s)) × IsServedBy nodes new answer handed s) ⊎ (seat_at seats key ≡ None)
trims_seated nodes b new place key old seats on has keeps log served = by (seat_at seats key) refl
  where
    by : (o : Option Seat) → seat_at seats key ≡ o
        → ((answer : AnswerParts) (handed : List ℕ) → ((s : Screen) × (seat_at old key ≡ Some (Watches s)) × IsServedBy nodes b answer handed s)
        → (s : Screen) × (seat_at seats key ≡ Some (Watches s)) × IsServedBy nodes new answer handed s) ⊎ (seat_at seats key ≡ None)
    by None e = inr e
    by (Some seat) e = inl (λ answer handed seated.
        let kept = keeps key seat e in
        let same : seat ≡ Watches seated.0 = same_seat seat (Watches seated.0) (sym kept.0 ∙ seated.1) in
        let holds : IsNotBehind place seated.0.way = subst (IsSeatNotBehind place) same kept.1 in
        let there : IsOnLog new.log seated.0.way = subst (λ l. IsOnLog l seated.0.way) (sym log)
        (still_on b.log place seated.0.way (on_log b.framing b.told b.log old key seated.0 on seated.1) holds has) in
        (seated.0, e ∙ ap Some same, served answer handed seated.0 seated.2 there))

-- ---- once the log was trimmed

module _ (b new : Broadcast) (window place least end : ℕ) (old seats : Slab Seated) (on : AreOnLog b.framing b.told b.log old)
    (place_is : place ≡ oldest_in window b.log) (end_is : end ≡ end_of b.log)
    (keeps : KeepsThose (IsSeatNotBehind place) old seats) (is : IsLeastPlace seats end least)
    (log : new.log ≡ record { base = least; bytes = behind b.log least }) where
  kept_within : KeepsThose (IsSeatNotBehind (oldest_in window b.log)) old seats
  kept_within = subst (λ p. KeepsThose (IsSeatNotBehind p) old seats) place_is keeps

  pub is_least : IsLeastPlace seats (end_of b.log) least
  is_least = subst (λ e. IsLeastPlace seats e least) end_is is

  pub has_it : Has b.log least
  has_it = has_least b.framing b.told b.log window least old seats on kept_within is_least

  pub trimmed_few : length new.log.bytes ≤ window
  trimmed_few = subst (λ l. length l.bytes ≤ window) (sym log) (few_left b.framing b.told b.log window least old seats on kept_within is_least)

  pub trimmed_on : new.told ≡ b.told → new.framing ≡ b.framing → AreOnLog new.framing new.told new.log seats
  trimmed_on told framing =
      subst (λ f. AreOnLog f new.told new.log seats) (sym framing)
      (subst (λ o. AreOnLog b.framing o new.log seats) (sym told)
      (subst (λ l. AreOnLog b.framing b.told l seats) (sym log)
      (trims_on b.framing b.told b.log least old seats on has_it (still_there place least end old seats keeps is))))

  pub trimmed_seated : (nodes : List NodeState) (key : Key)
      → ((answer : AnswerParts) (handed : List ℕ) (s : Screen) → IsServedBy nodes b answer handed s → IsOnLog new.log s.way → IsServedBy nodes new answer handed s)
      → ((answer : AnswerParts) (handed : List ℕ) → ((s : Screen) × (seat_at old key ≡ Some (Watches s)) × IsServedBy nodes b answer handed s)
      → (s : Screen) × (seat_at seats key ≡ Some (Watches s)) × IsServedBy nodes new answer handed s) ⊎ (seat_at seats key ≡ None)
  trimmed_seated nodes key served =
      trims_seated nodes b new least key old seats on has_it (still_there place least end old seats keeps is) log served

pub served_over : (nodes : List NodeState) (answer : AnswerParts) (handed : List ℕ) (s t : Screen)
    (f g : Framing) (l m : Backlog) (o p : Option (List ℕ)) → g ≡ f → m ≡ l → p ≡ o
    → (IsServed nodes g m p answer handed s → IsServed nodes g m p answer handed t)
    → IsServed nodes f l o answer handed s → IsServed nodes f l o answer handed t
served_over nodes answer handed s t f g l m o p ef el eo step =
    subst (λ x. IsServed nodes x l o answer handed s → IsServed nodes x l o answer handed t) ef
    (subst (λ x. IsServed nodes g x o answer handed s → IsServed nodes g x o answer handed t) el
    (subst (λ x. IsServed nodes g m x answer handed s → IsServed nodes g m x answer handed t) eo step))
