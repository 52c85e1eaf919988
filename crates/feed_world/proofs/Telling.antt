-- Lines that tell a log leave a mirror at a place of it.
use Rattle.std.proofs.Common.{◌≡◌, refl, sym, ap, ◌∙◌, subst, ℕ, suc, ◌-◌, ◌≤◌, Bool, true, false, ◌&&◌, arith, List, [], ◌∷◌, ◌++◌, length, Option, Some, None, nat_lt, ltb-true, ltb-false}
use Rattle.std.specs.Prelude.{if◌then◌else◌}
use Rattle.std.proofs.lemmas.Bool.{le-leb}
use Rattle.feed_settings.specs.Limits.{Limits, History}
use Rattle.feed_changes.specs.declared.change.Change.{Change}
use Rattle.feed_tables.specs.Tables.{no_tables, after_all}
use Rattle.feed_note.specs.declared.line.Line.{Line}
use Rattle.feed_note.specs.declared.line.Line.TheVariants.{KeepAlive, Note}
use Rattle.feed_node.specs.States.{NodeState, holds_token, with_commit, reset_to}
use Rattle.feed_node.specs.Staging.{StagingState, staging, without_changes, publishing, step, steps}
use Rattle.feed_node.specs.Steps.{StepsRead, standing_after}
use Rattle.feed_world.specs.Log.{Log, IsNamed, changes_of_commit, tokens_of}
use Rattle.feed_world.specs.Position.{Position, IsPosition, IsPlaceOfLog, commits_after, node_at, node_where, renewed}
use Rattle.feed_world.specs.Reading.{opening_at}
use Rattle.feed_world.specs.Telling.{Tells, TellsShow}
use Rattle.feed_world.proofs.Commits.{light_here, next_not_held, next_position, renewed_is_position, latest_at}
use Rattle.feed_world.proofs.Served.{holds}
use Rattle.std.proofs.Math.Bool.{and-true as and_true}

-- a mirror that shows this, for which these changes wait
abbrev waits : History → NodeState → Bool → List Change → StagingState
waits history shown fresh changes = record { node = record { shown = shown; history = history }; afresh = fresh; changes = changes }

both : {a b : Bool} → a ≡ true → b ≡ true → (a && b) ≡ true
both e f = λ i. e i && f i

module _ (limits : Limits) (log : Log) (named : IsNamed log) where
  -- a commit that the mirror holds is skipped
  again : (own : Position) (k : ℕ) (waiting changes : List Change) (token : List ℕ) → IsPosition limits log own → own.low ≤ k → suc k ≤ own.at → token ≡ log.token (suc k)
      → step (waits limits.history (node_at log own) false waiting) (Note changes (Some token)) ≡ waits limits.history (node_at log own) false []
  again own k waiting changes token h from to is_token =
      let s = waits limits.history (node_at log own) false waiting in
      let in_log = h.in_log in
      let held : holds_token (node_at log own) token ≡ true =
      ap (holds_token (node_at log own)) is_token ∙ holds log named own h.order in_log (suc k) (omega (arith, to, in_log)) ∙ both (le-leb own.low (suc k) (omega (arith, from))) (le-leb (suc k) own.at to) in
      ap (λ b. if b then without_changes (staging s changes) else publishing (staging s changes) token) held

  -- the next one is published
  onward : (own : Position) (waiting changes : List Change) (token : List ℕ) → IsPosition limits log own → suc own.at ≤ length log.commits → token ≡ log.token (suc own.at)
      → waiting ++ changes ≡ changes_of_commit log (suc own.at)
      → step (waits limits.history (node_at log own) false waiting) (Note changes (Some token)) ≡ waits limits.history (node_at log (renewed limits.history log (suc own.at) own.low)) false []
  onward own waiting changes token h within is_token is_commit =
      let s = waits limits.history (node_at log own) false waiting in
      let held : holds_token (node_at log own) token ≡ false = ap (holds_token (node_at log own)) is_token ∙ next_not_held log named own h.order within in
      let shown : with_commit limits.history (node_at log own) (record { changes = waiting ++ changes; token = token }) ≡ node_at log (renewed limits.history log (suc own.at) own.low) =
      (λ i. with_commit limits.history (node_at log own) (record { changes = is_commit i; token = is_token i })) ∙ next_position limits.history log own h.order within in
      ap (λ b. if b then without_changes (staging s changes) else publishing (staging s changes) token) held
      ∙ (λ i. waits limits.history (shown i) false [])

  since : (notes : List Line) (own : Position) (k : ℕ) (waiting : List Change) → IsPosition limits log own → own.low ≤ k → k ≤ own.at → Tells log false k waiting notes
      → (q : Position) × IsPosition limits log q × ((steps (waits limits.history (node_at log own) false waiting) notes).node.shown ≡ node_at log q)
  since [] own k waiting h from to t = (own, h, refl)
  since (KeepAlive ∷ notes) own k waiting h from to t = since notes own k waiting h from to t
  since (Note changes None ∷ notes) own k waiting h from to t = since notes own k (waiting ++ changes) h from to t
  since (Note changes (Some token) ∷ notes) own k waiting h from to t = by (λ q. since notes q (suc k) []) (nat_lt k own.at) refl
    where
      by : ((q : Position) → IsPosition limits log q → q.low ≤ suc k → suc k ≤ q.at → Tells log false (suc k) [] notes
          → (r : Position) × IsPosition limits log r × ((steps (waits limits.history (node_at log q) false []) notes).node.shown ≡ node_at log r))
          → (b : Bool) → nat_lt k own.at ≡ b
          → (r : Position) × IsPosition limits log r × ((steps (waits limits.history (node_at log own) false waiting) (Note changes (Some token) ∷ notes)).node.shown ≡ node_at log r)
      by go true is =
          let less = ltb-true k own.at is in
          let r = go own h (omega (arith, from)) less t.1 in
          (r.0, r.1, ap (λ z. (steps z notes).node.shown) (again own k waiting changes token h from less t.0.1) ∙ r.2)
      by go false is =
          let more = ltb-false k own.at is in
          let same : k ≡ own.at = omega (arith, more, to) in
          let in_log = t.0.0 in
          let within : suc own.at ≤ length log.commits = omega (arith, same, in_log) in
          let there = renewed_is_position limits log own h within in
          let order = there.order in
          let r = go (renewed limits.history log (suc own.at) own.low) there (omega (arith, same, order)) (omega (arith, same)) t.1 in
          (r.0, r.1, ap (λ z. (steps z notes).node.shown) (onward own waiting changes token h within (t.0.1 ∙ ap (λ n. log.token (suc n)) same) (t.0.2 ∙ ap (λ n. changes_of_commit log (suc n)) same)) ∙ r.2)

  anew : (notes : List Line) (place : Option Position) (k : ℕ) (waiting : List Change) → IsPlaceOfLog limits log place → Tells log true k waiting notes
      → (q : Option Position) × IsPlaceOfLog limits log q × ((steps (waits limits.history (node_where log place) true waiting) notes).node.shown ≡ node_where log q)
  anew [] place k waiting h t = (place, h, refl)
  anew (KeepAlive ∷ notes) place k waiting h t = anew notes place k waiting h t
  anew (Note changes None ∷ notes) place k waiting h t = anew notes place k (waiting ++ changes) h t
  anew (Note changes (Some token) ∷ notes) place k waiting h t =
      let z : 0 ≡ k - k = omega arith in
      let tables = t.0.2 in
      let name = t.0.1 in
      let held : token ∷ [] ≡ tokens_of log k (suc (k - k)) = ap (λ w. w ∷ []) name ∙ ap (λ n. tokens_of log k (suc n)) z in
      let kept = ap (commits_after log k) z in
      let shown : reset_to (after_all no_tables (waiting ++ changes)) token ≡ node_at log (record { at = k; low = k }) =
      (λ i. record { published = Some (record { tables = tables i; token = name i }); held = held i; kept = kept i }) in
      let r = since notes (record { at = k; low = k }) k [] (record { order = omega arith; kept = omega arith; light = light_here limits log k; in_log = t.0.0 }) (omega arith) (omega arith) t.1 in
      (Some r.0, r.1, ap (λ n. (steps (waits limits.history n false []) notes).node.shown) shown ∙ r.2)

  either : (fresh : Bool) (place : Option Position) (k : ℕ) (notes : List Line) → IsPlaceOfLog limits log place
      → (fresh ≡ false → (own : Position) × (place ≡ Some own) × (own.low ≤ k) × (k ≤ own.at)) → Tells log fresh k [] notes
      → (q : Option Position) × IsPlaceOfLog limits log q × ((steps (waits limits.history (node_where log place) fresh []) notes).node.shown ≡ node_where log q)
  either true place k notes h start t = anew notes place k [] h t
  either false place k notes h start t =
      let own = start refl in
      let r = since notes own.0 k [] (subst (IsPlaceOfLog limits log) own.1 h) own.2 own.3 t in
      (Some r.0, r.1, ap (λ p. (steps (waits limits.history (node_where log p) false []) notes).node.shown) own.1 ∙ r.2)

pub tells_show : StepsRead → TellsShow
tells_show read limits log place fresh k notes named is_place start tells =
    let opening = opening_at log place fresh in
    let latest = latest_at limits log place is_place in
    let begins : standing_after limits.history opening [] ≡ waits limits.history (node_where log place) fresh [] =
    (λ i. record { node = record { shown = latest i; history = limits.history }; afresh = and_true fresh i; changes = [] }) in
    let r = either limits log named fresh place k notes is_place start tells in
    (r.0, r.1, sym (ap (λ s. s.node.shown) (read limits.history opening notes)) ∙ ap (λ s. (steps s notes).node.shown) begins ∙ r.2)
