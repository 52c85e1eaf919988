-- The log of a primary that begins with nothing, and takes batches.
use Rattle.std.proofs.Common.{◌≡◌, refl, sym, ap, ◌∙◌, subst, ℕ, ◌+◌, ◌-◌, ◌≤◌, true, false, List, [], ◌∷◌, ◌++◌, length, take, inl, inr, arith, rules, Option, Some, None, append_assoc, append-nil, length-append, replicate}
use Rattle.std.specs.Prelude.{◌==◌}
use Rattle.std.specs.List.{AllByRecursion}
use Rattle.std.proofs.lemmas.Bool.{cases_Bool}
use Rattle.std.proofs.lemmas.Bool.Decides.{nat_tests}
use Rattle.std.proofs.lemmas.List.{take-append-drop}
use Rattle.feed_settings.specs.Limits.{Limits, IsInRange}
use Rattle.feed_settings.specs.declared.framing.Framing.TheVariants.{Close}
use Rattle.feed_changes.specs.declared.change.Change.{Change}
use Rattle.feed_changes.specs.Changes.{IsChange}
use Rattle.feed_node.specs.declared.commit.Commit.{Commit}
use Rattle.feed_node.specs.declared.primary.CommitFault.{CommitFault}
use Rattle.feed_node.specs.Kept.{are_heavy}
use Rattle.feed_node.specs.Log.{PrimaryState, new_primary, commits, commit_fault, token_after, last_count}
use Rattle.feed_node.specs.States.{NodeState}
use Rattle.feed_http.specs.Live.{Intake, Accepts, accepts_none, accepts_one, HasSent, none_sent, commit_sent, turn_taken}
use Rattle.feed_world.specs.Log.{IsLog, numbered}
use Rattle.feed_world.specs.Position.{Position, IsPosition, node_at}
use Rattle.feed_world.specs.States.{WorldState, world_state, new_follower, IsWorld}
use Rattle.feed_world.specs.Step.{committed}
use Rattle.feed_world.specs.World.{World, new_world}
use Rattle.feed_world.proofs.Commits.{commits-length}
use Rattle.feed_world.proofs.Committed.{committed_world}
use Rattle.feed_world.proofs.Growth.{growth_keeps}
use Rattle.feed_world.proofs.Stepped.{new_is_world}
use Rattle.feed_laws.specs.Connections.{unless_refused, accepted_by, log_of_batches, PrimariesMeetTheirLog}
use Rattle.feed_laws.specs.Laws.{StandsInLog}

-- ---- all of a list

all_before : {A : Type 0} (P : A → Type 0) (xs ys : List A) → AllByRecursion P (xs ++ ys) → AllByRecursion P xs
all_before P [] ys all = tt
all_before P (x ∷ xs) ys all = (all.0, all_before P xs ys all.1)

last_of_all : {A : Type 0} (P : A → Type 0) (xs : List A) (y : A) → AllByRecursion P (xs ++ y ∷ []) → P y
last_of_all P [] y all = all.0
last_of_all P (x ∷ xs) y all = last_of_all P xs y all.1

-- ---- what is accepted

next_counted : (primary : PrimaryState) (batch : List Change) → commit_fault primary batch ≡ None
    → primary.count ≤ last_count → primary.count + 1 ≤ last_count
next_counted primary batch fine few = elim (cases_Bool (primary.count == last_count)) [
  | inl is ↦ absurd (last_refused is)
  | inr other ↦ grind (arith, nat_tests)
]
  where
    last_refused : (primary.count == last_count) ≡ true → ⊥
    last_refused is = elim (cases_Bool (length batch == 0)) [
      | inl none ↦ (let e = fine in grind (rules, none, e))
      | inr some ↦ (let e = fine in grind (rules, some, is, e))
    ]

accepts_counted : (first : PrimaryState) (batches : List (List Change)) (now : PrimaryState)
    → Accepts first batches now → first.count ≤ last_count → now.count ≤ last_count
accepts_counted first batches now accepts_none few = few
accepts_counted first batches now (accepts_one earlier primary batch run fine) few =
    next_counted primary batch fine (accepts_counted first earlier primary run few)

accepts_both : (first middle now : PrimaryState) (batches more : List (List Change))
    → Accepts first batches middle → Accepts middle more now → Accepts first (batches ++ more) now
accepts_both first middle now batches more one accepts_none = subst (λ l. Accepts first l middle) (sym (append-nil batches)) one
accepts_both first middle now batches more one (accepts_one earlier primary batch run fine) =
    subst (λ l. Accepts first l (commits primary batch)) (append_assoc batches earlier (batch ∷ []))
    (accepts_one (batches ++ earlier) primary batch (accepts_both first middle primary batches earlier one run) fine)

accepts_this : (primary : PrimaryState) (batch : List Change) → commit_fault primary batch ≡ None
    → Accepts primary (batch ∷ []) (commits primary batch)
accepts_this primary batch fine = accepts_one [] primary batch accepts_none fine

-- a primary accepts what it accepts
accepts_all : (primary : PrimaryState) (batches : List (List Change))
    → (last : PrimaryState) × Accepts primary (accepted_by primary batches) last
accepts_all primary [] = (primary, accepts_none)
accepts_all primary (batch ∷ batches) = by (accepts_all (commits primary batch) batches) (commit_fault primary batch) refl
  where
    by : ((last : PrimaryState) × Accepts (commits primary batch) (accepted_by (commits primary batch) batches) last)
        → (fault : Option CommitFault) → commit_fault primary batch ≡ fault
        → (last : PrimaryState) × Accepts primary (unless_refused fault batch (accepted_by (commits primary batch) batches)) last
    by (last, rest) (Some fault) e = (primary, accepts_none)
    by (last, rest) None e =
        (last, accepts_both primary (commits primary batch) last (batch ∷ []) (accepted_by (commits primary batch) batches) (accepts_this primary batch e) rest)

accepted_on : (first : PrimaryState) (taken : List (List Change)) (now : PrimaryState) → Accepts first taken now
    → (rest : List (List Change)) → accepted_by first (taken ++ rest) ≡ taken ++ accepted_by now rest
accepted_on first taken now accepts_none rest = refl
accepted_on first taken now (accepts_one earlier primary batch run fine) rest =
    ap (accepted_by first) (append_assoc earlier (batch ∷ []) rest)
    ∙ accepted_on first earlier primary run (batch ∷ rest)
    ∙ ap (λ f. earlier ++ unless_refused f batch (accepted_by (commits primary batch) rest)) fine
    ∙ sym (append_assoc earlier (batch ∷ []) (accepted_by (commits primary batch) rest))

all_accepted : (P : List Change → Type 0) (primary : PrimaryState) (batches : List (List Change))
    → AllByRecursion P batches → AllByRecursion P (accepted_by primary batches)
all_accepted P primary [] all = tt
all_accepted P primary (batch ∷ batches) all = by (all_accepted P (commits primary batch) batches all.1) (commit_fault primary batch)
  where
    by : AllByRecursion P (accepted_by (commits primary batch) batches)
        → (fault : Option CommitFault) → AllByRecursion P (unless_refused fault batch (accepted_by (commits primary batch) batches))
    by rest (Some fault) = tt
    by rest None = (all.0, rest)

-- ---- a world whose primary accepted them

record HasWorld (limits : Limits) (taken : List (List Change)) (now : PrimaryState) : Type 0 where
  pub w : World
  pub s : WorldState
  pub is : IsWorld w s
  pub log : w.log ≡ taken
  pub limits_are : w.limits ≡ limits
  pub primary : s.primary ≡ now

world_of : (limits : Limits) → IsInRange limits.history.commits limits.staged → (taken : List (List Change)) (now : PrimaryState)
    → Accepts (new_primary limits) taken now → AllByRecursion (AllByRecursion IsChange) taken → HasWorld limits taken now
world_of limits range taken now accepts_none within =
    record {
      w = new_world limits Close 1;
      s = world_state Close (new_primary limits) [] (replicate (1 - 1) (new_follower limits));
      is = new_is_world limits Close 1 range;
      log = refl;
      limits_are = refl;
      primary = refl;
    }
world_of limits range taken now (accepts_one earlier primary batch run fine) within =
    let h = world_of limits range earlier primary run (all_before (AllByRecursion IsChange) earlier (batch ∷ []) within) in
    let count : h.s.primary.count ≡ length h.s.log =
    ap (λ p. p.count) h.is.nodes.shows ∙ h.is.nodes.latest ∙ sym (ap length h.is.commits ∙ commits-length (numbered h.w.log) 0 (length h.w.log)) in
    let few = next_counted primary batch fine (accepts_counted (new_primary limits) earlier primary run (omega arith)) in
    let same : h.s.primary.count ≡ primary.count = ap (λ p. p.count) h.primary in
    record {
      w = committed h.w batch;
      s = record {
        framing = h.s.framing;
        primary = commits h.s.primary batch;
        log = h.s.log ++ record { changes = batch; token = token_after (length h.s.log + 1) } ∷ [];
        followers = h.s.followers;
      };
      is = committed_world h.w h.s h.is batch (last_of_all (AllByRecursion IsChange) earlier batch within)
          (ap (λ p. commit_fault p batch) h.primary ∙ fine) (omega arith) (commits h.s.primary batch) refl
          (h.s.log ++ record { changes = batch; token = token_after (length h.s.log + 1) } ∷ []) refl;
      log = ap (λ l. l ++ batch ∷ []) h.log;
      limits_are = h.limits_are;
      primary = ap (λ p. commits p batch) h.primary;
    }

-- ---- a longer log

node_grows : (log more : List (List Change)) (p : Position) → p.low ≤ p.at → p.at ≤ length log
    → node_at (numbered (log ++ more)) p ≡ node_at (numbered log) p
node_grows log [] p order within = ap (λ l. node_at (numbered l) p) (append-nil log)
node_grows log (batch ∷ more) p order within =
    let longer = length-append log (batch ∷ []) in
    ap (λ l. node_at (numbered l) p) (sym (append_assoc log (batch ∷ []) more))
    ∙ node_grows (log ++ batch ∷ []) more p order (omega arith)
    ∙ growth_keeps.nodes (numbered log) batch p order within

stands_on : (limits : Limits) (log more : List (List Change)) (p : Position) (node : NodeState) → IsPosition limits (numbered log) p
    → node ≡ node_at (numbered log) p → StandsInLog (numbered (log ++ more)) node
stands_on limits log more p node place is =
    let grown = node_grows log more p place.order place.in_log in
    let longer = length-append log more in
    let within = place.in_log in
    let there : IsPosition limits (numbered (log ++ more)) p = record {
      order = place.order;
      kept = place.kept;
      light = subst (λ (n : NodeState). are_heavy limits.history.bytes n.kept ≡ false) (sym grown) place.light;
      in_log = omega arith;
    } in
    (limits, (Some p, there, is ∙ sym grown))

-- ---- a session

-- what was taken until then, and is left
record HasTaken (start now : Intake) : Type 0 where
  pub taken : List (List Change)
  pub accepts : Accepts start.primary taken now.primary
  pub whole : taken ++ now.batches ≡ start.batches

has_taken : (turn : ℕ) (start : Intake) (opened : List ℕ) (sent : List Commit) (now : Intake) (token : List ℕ)
    → HasSent turn start opened sent now token → HasTaken start now
has_taken turn start opened sent now token none_sent = record { taken = []; accepts = accepts_none; whole = refl }
has_taken turn start opened sent now token (commit_sent earlier _ before commit run e) = has_taken turn start opened earlier now before run
has_taken turn start opened sent now token (turn_taken _ before _ _ run e takes) =
    let so_far = has_taken turn start opened sent before token run in
    record {
      taken = so_far.taken ++ take turn before.batches;
      accepts = accepts_both start.primary before.primary now.primary so_far.taken (take turn before.batches) so_far.accepts takes.accepted;
      whole = append_assoc so_far.taken (take turn before.batches) now.batches
          ∙ ap (λ l. so_far.taken ++ (take turn before.batches ++ l)) takes.left
          ∙ ap (λ l. so_far.taken ++ l) (take-append-drop turn before.batches) ∙ so_far.whole;
    }

pub primaries_meet_their_log : PrimariesMeetTheirLog
primaries_meet_their_log limits turn batches opened range within = (is_log, meets)
  where
    first : PrimaryState
    first = new_primary limits

    is_log : IsLog limits (log_of_batches limits batches)
    is_log =
        let (last, accepts) = accepts_all (new_primary limits) batches in
        let h = world_of limits range (accepted_by (new_primary limits) batches) last accepts (all_accepted (AllByRecursion IsChange) (new_primary limits) batches within) in
        subst (λ l. IsLog l (log_of_batches limits batches)) h.limits_are (subst (λ l. IsLog h.w.limits (numbered l)) h.log h.is.nodes.log)

    meets : (sent : List Commit) (now : Intake) (token : List ℕ) → HasSent turn (record { primary = new_primary limits; batches = batches }) opened sent now token
        → StandsInLog (log_of_batches limits batches) now.primary.node
    meets sent now token run =
        let t = has_taken turn (record { primary = new_primary limits; batches = batches }) opened sent now token run in
        let prefix : accepted_by (new_primary limits) batches ≡ t.taken ++ accepted_by now.primary now.batches =
        ap (accepted_by (new_primary limits)) (sym t.whole) ∙ accepted_on (new_primary limits) t.taken now.primary t.accepts now.batches in
        let h = world_of limits range t.taken now.primary t.accepts
        (all_before (AllByRecursion IsChange) t.taken now.batches (subst (AllByRecursion (AllByRecursion IsChange)) (sym t.whole) within)) in
        let place : IsPosition h.w.limits (numbered t.taken) h.w.primary = subst (λ l. IsPosition h.w.limits (numbered l) h.w.primary) h.log h.is.nodes.place in
        let node : now.primary.node ≡ node_at (numbered t.taken) h.w.primary =
        ap (λ p. p.node) (sym h.primary) ∙ ap (λ p. p.node) h.is.nodes.shows ∙ ap (λ l. node_at (numbered l) h.w.primary) h.log in
        subst (λ l. StandsInLog (numbered l) now.primary.node) (sym prefix)
        (stands_on h.w.limits t.taken (accepted_by now.primary now.batches) h.w.primary now.primary.node place node)
