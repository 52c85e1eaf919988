-- The states of a log are all that nodes at its places show, and nothing else.
use Rattle.std.proofs.Common.{◌≡◌, ◌≢◌, refl, sym, subst, ℕ, zero, suc, ◌+◌, ◌-◌, ◌≤◌, ◌⊎◌, inl, inr, arith, List, [], ◌∷◌, ◌++◌, length, length-append, Option, Some, None}
use Rattle.std.specs.Prelude.{Bool, true, false, if◌then◌else◌, Contains}
use Rattle.std.proofs.lemmas.List.Elements.{Contains-append_left, Contains-append_right, Contains-append_cases, Contains-push, Contains-push_cases}
use Rattle.feed_settings.specs.Limits.{Limits, History}
use Rattle.feed_node.specs.Kept.{are_heavy}
use Rattle.feed_node.specs.States.{NodeState, nothing_published}
use Rattle.feed_follow.specs.declared.fault.FollowFault.{FollowFault}
use Rattle.feed_world.specs.Log.{Log}
use Rattle.feed_world.specs.Position.{Position, commits_after, node_at}
use Rattle.feed_laws.specs.Laws.{IsInLog, AreInLog}
use Rattle.feed_node.specs.Mirroring.{MirrorState}
use Rattle.feed_device.specs.Links.{Shown, nothing_shown, once_at, all_from}
use Rattle.feed_live.specs.States.{unless_heavy, states_at, states_to, states_of}
use Rattle.feed_live.specs.Upstream.{IsOfLog, wants_memory, surely_read, StaysInLog, IsHonestAs}
use Rattle.feed_screens.proofs.ServingLemmas.{number_tells}

-- ---- lists

pub among_first : {X : Type 0} (x : X) (xs : List X) → Contains (x ∷ xs) x
among_first x xs = Contains-append_left (x ∷ []) xs x (Contains-push [] x)

pub among_rest : {X : Type 0} (x : X) (xs : List X) (y : X) → Contains xs y → Contains (x ∷ xs) y
among_rest x xs y there = Contains-append_right (x ∷ []) xs y there

among_none : {X : Type 0} (y : X) → Contains [] y → ⊥
among_none y (k, below, is) = omega arith

among_cases : {X : Type 0} (x : X) (xs : List X) (y : X) → Contains (x ∷ xs) y → (x ≡ y) ⊎ Contains xs y
among_cases x xs y there = by (Contains-append_cases (x ∷ []) xs y there)
  where
    one : Contains [] y ⊎ (x ≡ y) → (x ≡ y) ⊎ Contains xs y
    one (inl none) = absurd (among_none y none)
    one (inr is) = inl is

    by : Contains (x ∷ []) y ⊎ Contains xs y → (x ≡ y) ⊎ Contains xs y
    by (inl here) = one (Contains-push_cases [] x y here)
    by (inr there) = inr there

-- ---- the places

abbrev place_at : ℕ → ℕ → Position
place_at at low = record { at = at; low = low }

light_one : (limit : Option ℕ) (node : NodeState) → are_heavy limit node.kept ≡ false → Contains (unless_heavy limit node) node
light_one limit node light = subst (λ b. Contains (if b then [] else node ∷ []) node) (sym light) (among_first node [])

at_states : (limit : Option ℕ) (log : Log) (at kept most : ℕ) → kept ≤ most → are_heavy limit (node_at log (place_at at (at - kept))).kept ≡ false
    → Contains (states_at limit log at most) (node_at log (place_at at (at - kept)))
at_states limit log at kept zero few light =
    let none : at - kept ≡ at = omega (arith, few) in
    subst (λ low. Contains (states_at limit log at zero) (node_at log (place_at at low))) (sym none)
    (light_one limit (node_at log (place_at at at)) (subst (λ low. are_heavy limit (node_at log (place_at at low)).kept ≡ false) none light))
at_states limit log at kept (suc most) few light = by (λ fewer. at_states limit log at kept most fewer light) (number_tells kept (suc most))
  where
    by : (kept ≤ most → Contains (states_at limit log at most) (node_at log (place_at at (at - kept)))) → (kept ≡ suc most) ⊎ (kept ≢ suc most) → Contains (states_at limit log at (suc most)) (node_at log (place_at at (at - kept)))
    by rest (inl all) =
        subst (λ k. Contains (states_at limit log at (suc most)) (node_at log (place_at at (at - k)))) (sym all)
        (Contains-append_left (unless_heavy limit (node_at log (place_at at (at - suc most)))) (states_at limit log at most) _
        (light_one limit (node_at log (place_at at (at - suc most))) (subst (λ k. are_heavy limit (node_at log (place_at at (at - k))).kept ≡ false) all light)))
    by rest (inr fewer) = Contains-append_right (unless_heavy limit (node_at log (place_at at (at - suc most)))) (states_at limit log at most) _ (rest (omega (arith, few, fewer)))

to_states : (history : History) (log : Log) (at kept last : ℕ) → at ≤ last → kept ≤ history.commits → are_heavy history.bytes (node_at log (place_at at (at - kept))).kept ≡ false
    → Contains (states_to history log last) (node_at log (place_at at (at - kept)))
to_states history log at kept zero within few light =
    let first : at ≡ zero = omega (arith, within) in
    subst (λ n. Contains (states_to history log zero) (node_at log (place_at n (n - kept)))) (sym first)
    (at_states history.bytes log zero kept history.commits few (subst (λ n. are_heavy history.bytes (node_at log (place_at n (n - kept))).kept ≡ false) first light))
to_states history log at kept (suc last) within few light = by (λ before. to_states history log at kept last before few light) (number_tells at (suc last))
  where
    by : (at ≤ last → Contains (states_to history log last) (node_at log (place_at at (at - kept)))) → (at ≡ suc last) ⊎ (at ≢ suc last) → Contains (states_to history log (suc last)) (node_at log (place_at at (at - kept)))
    by rest (inl is) =
        subst (λ n. Contains (states_to history log (suc last)) (node_at log (place_at n (n - kept)))) (sym is)
        (Contains-append_left (states_at history.bytes log (suc last) history.commits) (states_to history log last) _
        (at_states history.bytes log (suc last) kept history.commits few (subst (λ n. are_heavy history.bytes (node_at log (place_at n (n - kept))).kept ≡ false) is light)))
    by rest (inr before) = Contains-append_right (states_at history.bytes log (suc last) history.commits) (states_to history log last) _ (rest (omega (arith, within, before)))

pub among_states : (limits : Limits) (log : Log) (node : NodeState) → IsInLog limits log node → Contains (states_of limits log) node
unfolding states_of
among_states limits log node (None, within, is) = subst (λ n. Contains (states_of limits log) n) (sym is) (among_first _ _)
among_states limits log node (Some p, within, is) =
    let order = within.order in
    let kept = within.kept in
    let low : p.at - (p.at - p.low) ≡ p.low = omega (arith, order) in
    let few : p.at - p.low ≤ limits.history.commits = omega (arith, kept) in
    let light = subst (λ l. are_heavy limits.history.bytes (node_at log (place_at p.at l)).kept ≡ false) (sym low) within.light in
    let there : Contains (states_of limits log) (node_at log (place_at p.at (p.at - (p.at - p.low)))) = among_rest _ _ _ (to_states limits.history log p.at (p.at - p.low) (length log.commits) within.in_log few light) in
    subst (λ n. Contains (states_of limits log) n) (sym is)
    (subst (λ l. Contains (states_of limits log) (node_at log (place_at p.at l))) low there)

-- a place of the log up to this number, with no more commits kept than these, and within a limit in
-- bytes
record IsWithin (limit : Option ℕ) (history : ℕ) (log : Log) (last : ℕ) (node : NodeState) : Type 0 where
  pub place : Position
  pub order : place.low ≤ place.at
  pub kept : place.at ≤ place.low + history
  pub light : are_heavy limit (commits_after log place.low (place.at - place.low)) ≡ false
  pub in_log : place.at ≤ last
  pub shows : node ≡ node_at log place

one_light : (limit : Option ℕ) (one node : NodeState) → Contains (unless_heavy limit one) node → (one ≡ node) × (are_heavy limit one.kept ≡ false)
one_light limit one node there = by (are_heavy limit one.kept) refl there
  where
    first : (one ≡ node) ⊎ Contains [] node → one ≡ node
    first (inl is) = is
    first (inr none) = absurd (among_none node none)

    by : (b : Bool) → are_heavy limit one.kept ≡ b → Contains (if b then [] else one ∷ []) node → (one ≡ node) × (are_heavy limit one.kept ≡ false)
    by true e h = absurd (among_none node h)
    by false e h = (first (among_cases one [] node h), e)

in_states_at : (limit : Option ℕ) (log : Log) (at most : ℕ) (node : NodeState) → Contains (states_at limit log at most) node → IsWithin limit most log at node
in_states_at limit log at zero node there =
    let one = one_light limit (node_at log (place_at at at)) node there in
    record { place = place_at at at; order = omega arith; kept = omega arith; light = one.1; in_log = omega arith; shows = sym one.0 }
in_states_at limit log at (suc most) node there =
    by (in_states_at limit log at most node) (Contains-append_cases (unless_heavy limit (node_at log (place_at at (at - suc most)))) (states_at limit log at most) node there)
  where
    more : IsWithin limit most log at node → IsWithin limit (suc most) log at node
    more w = record { place = w.place; order = w.order; kept = (let kept = w.kept in omega (arith, kept)); light = w.light; in_log = w.in_log; shows = w.shows }

    by : (Contains (states_at limit log at most) node → IsWithin limit most log at node) → Contains (unless_heavy limit (node_at log (place_at at (at - suc most)))) node ⊎ Contains (states_at limit log at most) node → IsWithin limit (suc most) log at node
    by rest (inl here) =
        let one = one_light limit (node_at log (place_at at (at - suc most))) node here in
        record { place = place_at at (at - suc most); order = omega arith; kept = omega arith; light = one.1; in_log = omega arith; shows = sym one.0 }
    by rest (inr later) = more (rest later)

in_states_to : (history : History) (log : Log) (last : ℕ) (node : NodeState) → Contains (states_to history log last) node → IsWithin history.bytes history.commits log last node
in_states_to history log zero node there = in_states_at history.bytes log zero history.commits node there
in_states_to history log (suc last) node there =
    by (in_states_to history log last node) (Contains-append_cases (states_at history.bytes log (suc last) history.commits) (states_to history log last) node there)
  where
    more : IsWithin history.bytes history.commits log last node → IsWithin history.bytes history.commits log (suc last) node
    more w = record { place = w.place; order = w.order; kept = w.kept; light = w.light; in_log = (let in_log = w.in_log in omega (arith, in_log)); shows = w.shows }

    by : (Contains (states_to history log last) node → IsWithin history.bytes history.commits log last node) → Contains (states_at history.bytes log (suc last) history.commits) node ⊎ Contains (states_to history log last) node
        → IsWithin history.bytes history.commits log (suc last) node
    by rest (inl here) = in_states_at history.bytes log (suc last) history.commits node here
    by rest (inr before) = more (rest before)

pub states_within : (limits : Limits) (log : Log) (node : NodeState) → Contains (states_of limits log) node → IsInLog limits log node
unfolding states_of
states_within limits log node there = by (among_cases _ (states_to limits.history log (length log.commits)) _ there)
  where
    at : IsWithin limits.history.bytes limits.history.commits log (length log.commits) node → IsInLog limits log node
    at w = (Some w.place, record { order = w.order; kept = w.kept; light = w.light; in_log = w.in_log }, w.shows)

    by : (nothing_published ≡ node) ⊎ Contains (states_to limits.history log (length log.commits)) node → IsInLog limits log node
    by (inl is) = (None, tt, sym is)
    by (inr later) = at (in_states_to limits.history log (length log.commits) node later)

pub states_in_log : (limits : Limits) (log : Log) → AreInLog log (states_of limits log)
states_in_log limits log node there = (limits, states_within limits log node there)

-- what a node at a place of the log has published is a state of the log
pub of_log : (limits : Limits) (log : Log) (node : NodeState) → IsInLog limits log node → IsOfLog log node.published
of_log limits log node (None, is_place, is) = subst (λ n. IsOfLog log n.published) (sym is) tt
of_log limits log node (Some p, is_place, is) = subst (λ n. IsOfLog log n.published) (sym is) (p.at, is_place.in_log, refl)

-- what has come is read, whatever fails behind it
pub has_read : (least : ℕ) (before piece : List ℕ) (fault : FollowFault) → least ≤ length before → least ≤ length (surely_read before piece fault)
has_read least before piece fault le = by (wants_memory fault)
  where
    by : (wants : Bool) → least ≤ length (if wants then before else before ++ piece)
    by true = le
    by false = let e = length-append before piece in omega (arith, e, le)

-- so is the piece, where memory doesn't run out
pub has_read_all : (least : ℕ) (before piece : List ℕ) (fault : FollowFault) → wants_memory fault ≡ false → least ≤ length (before ++ piece) → least ≤ length (surely_read before piece fault)
has_read_all least before piece fault there le = subst (λ wants. least ≤ length (if wants then before else before ++ piece)) (sym there) le

-- a response that keeps a mirror in the log is honest, however much of it is shown
pub honest_however : {limits : Limits} {log : Log} {begun : MirrorState} {received : List ℕ} (shown : Shown) → StaysInLog limits log begun 0 received → IsHonestAs limits log begun shown received
honest_however nothing_shown stays = tt
honest_however {limits} {log} (once_at count) stays =
    record {
      shows = λ before behind standing follower mirror is long at. of_log limits log mirror.node (stays.shows before behind standing follower mirror is (omega arith) at);
      fails = λ before piece behind mirror fault is long of_bytes failed. of_log limits log mirror.node (stays.fails before piece behind mirror fault is (has_read 0 before piece fault (omega arith)) failed);
    }
honest_however (all_from least) stays =
    record {
      shows = λ before behind standing follower mirror is long at. stays.shows before behind standing follower mirror is (omega arith) at;
      fails = λ before piece behind mirror fault is long failed. stays.fails before piece behind mirror fault is (has_read 0 before piece fault (omega arith)) failed;
    }
