-- What a node at a place of a log sends.
use Rattle.std.proofs.Common.{◌≡◌, refl, sym, ap, ◌∙◌, ℕ, zero, suc, ◌+◌, ◌-◌, ◌<◌, ◌≤◌, max, Bool, true, false, List, [], length, Option, Some, None, Result, Ok, Err, arith, nat_le, leb-true, leb-false}
use Rattle.std.specs.Prelude.{◌≢◌, slice_get, ◌&&◌, if◌then◌else◌}
use Rattle.std.specs.Option.{option_and_then}
use Rattle.std.proofs.lemmas.Option.{slice_get_past}
use Rattle.feed_settings.specs.Limits.{Limits}
use Rattle.feed_settings.specs.declared.framing.Framing.{Framing}
use Rattle.feed_node.specs.declared.commit.Commit.{Commit as Batch}
use Rattle.feed_node.specs.declared.session.OpenFault.{OpenFault}
use Rattle.feed_node.specs.declared.session.OpenFault.TheVariants.{NotYet, NotHeld, Memory}
use Rattle.feed_node.specs.Serving.{commit_after, token_before}
use Rattle.feed_node.specs.States.{place_of}
use Rattle.feed_answer.specs.Answered.{AnswerParts, answer_to, answer_opened}
use Rattle.feed_wire.specs.Asked.{Asked, refused, feed, framing_for}
use Rattle.feed_answer.specs.Opening.{Started, opens, starts_behind}
use Rattle.feed_answer.specs.Served.{opening_text}
use Rattle.feed_world.specs.Laws.{opened_text, OpensInLog, NodesOpenInLog, SessionsStartBefore, NodesSendTheNext, PartsGoOn}
use Rattle.feed_world.specs.Log.{Log, IsNamed, tokens_of, state_text}
use Rattle.feed_world.specs.Position.{Position, IsPosition, IsPlaceOfLog, commits_after, node_at, node_where}
use Rattle.feed_world.specs.Step.{holds_number}
use Rattle.feed_world.proofs.Answered.{Nothing_new, Commit_after, next, or_lost}
use Rattle.feed_world.proofs.Commits.{commit_of, commits-length}
use Rattle.feed_world.proofs.Growth.{commit_next, line_feed_next}
use Rattle.feed_world.proofs.Served.{next_commit, starts_there}
use Rattle.feed_world.proofs.Tokens.{token_found, token_missing, tokens_apart}

pub parts_go_on : PartsGoOn
parts_go_on = record { commit = commit_next; line_feed = line_feed_next }

-- ---- where a session starts

pub sessions_start : SessionsStartBefore
sessions_start limits log p k back is_log is from to =
    let within = is.in_log in
    let low = leb-there p.low k from in
    let high = leb-there k p.at to in
    let held : holds_number p k ≡ true = ap (λ b. b && nat_le k p.at) low ∙ high in
    let number : p.low + ((k - p.low) - back) ≡ max p.low (k - back) = omega (arith, from) in
    starts_there log is_log p is.order within k held back ∙ ap (λ n. Some (log.token n)) number
  where
    leb-there : (a b : ℕ) → a ≤ b → nat_le a b ≡ true
    leb-there a b h = by (nat_le a b) refl
      where
        by : (t : Bool) → nat_le a b ≡ t → nat_le a b ≡ true
        by true e = e
        by false e = let over = leb-false a b e in absurd (omega (arith, h, over))

-- ---- the commit after a token

module _ (log : Log) (is : IsNamed log) (p : Position) (order : p.low ≤ p.at) (small : p.at ≤ length log.commits) (k : ℕ) (named : k ≤ length log.commits) (commit : Batch)
    (comes : commit_after (node_at log p) (log.token k) ≡ Some commit) where
  -- the token is held
  not_out : (p.low ≤ k → ¬ (k ≤ p.at)) → ⊥
  not_out h =
      let none = token_missing log is p.low (suc (p.at - p.low)) k (λ a b. h a (omega (arith, b, order))) (omega arith) named in
      let nothing : None ≡ Some commit = sym (ap (option_and_then (slice_get (commits_after log p.low (p.at - p.low)))) none) ∙ comes in
      absurd (cc)

  -- and it is not the newest
  not_newest : k ≢ p.at
  not_newest same =
      let place = token_found log is p.low (suc (p.at - p.low)) k (omega (arith, same, order)) (omega (arith, same, order)) (omega arith) in
      let long = commits-length log p.low (p.at - p.low) in
      let past : slice_get (commits_after log p.low (p.at - p.low)) (k - p.low) ≡ None = slice_get_past (commits_after log p.low (p.at - p.low)) (k - p.low) (omega (arith, same, long)) in
      let nothing : None ≡ Some commit = sym past ∙ sym (ap (option_and_then (slice_get (commits_after log p.low (p.at - p.low)))) place) ∙ comes in
      absurd (cc)

  stands : (p.low ≤ k) × (k < p.at)
  stands = by (nat_le p.low k) refl (nat_le k p.at) refl
    where
      by : (a : Bool) → nat_le p.low k ≡ a → (b : Bool) → nat_le k p.at ≡ b → (p.low ≤ k) × (k < p.at)
      by true e true f =
          let from = leb-true _ _ e in
          let to = leb-true _ _ f in
          (from, grind (arith, not_newest, to))
      by true e false f = let over = leb-false _ _ f in absurd (not_out (λ a b. omega (arith, over, b)))
      by false e b f = let under = leb-false _ _ e in absurd (not_out (λ a b. omega (arith, under, a)))

  is_next : (commit ≡ commit_of log (k + 1)) × (k < p.at)
  is_next =
      let apart = tokens_apart log is p.at k small named (λ same. not_newest (sym same)) in
      let this : next (node_at log p) (log.token k) ≡ Commit_after commit =
      ap (λ b. if b then Nothing_new else or_lost (commit_after (node_at log p) (log.token k))) apart ∙ ap or_lost comes in
      (same_commit commit (commit_of log (k + 1)) (sym this ∙ next_commit log is p order small k named stands.0 stands.1), stands.1)
    where
      same_commit : (a b : Batch) → Commit_after a ≡ Commit_after b → a ≡ b
      same_commit a b f = cc

pub nodes_send : NodesSendTheNext
nodes_send limits log None k commit is_log is small comes = absurd (nothing comes)
  where
    nothing : None ≡ Some commit → ⊥
    nothing e = absurd (cc)
nodes_send limits log (Some p) k commit is_log is small comes =
    let within = is.in_log in
    let n = is_next log is_log p is.order within k small commit comes in
    let less = n.1 in
    record {
      in_log = omega (arith, less, within);
      changes_are = ap (λ c. c.changes) n.0;
      token_is = ap (λ c. c.token) n.0;
    }

-- ---- the opening of an answer

pub token_there : (log : Log) (low many i : ℕ) (token : List ℕ) → slice_get (tokens_of log low many) i ≡ Some token → (token ≡ log.token (low + i)) × (i < many)
token_there log low zero i token e = let nothing : None ≡ Some token = e in absurd (cc)
token_there log low (suc many) zero token e =
    let this : Some (log.token low) ≡ Some token = e in
    let same : log.token low ≡ token = cc in
    let n : low ≡ low + 0 = omega arith in
    (sym same ∙ ap log.token n, omega arith)
token_there log low (suc many) (suc i) token e =
    let t = token_there log (low + 1) many i token e in
    let n : (low + 1) + i ≡ low + suc i = omega arith in
    let less : i < many = t.1 in
    (t.0 ∙ ap log.token n, omega (arith, less))

-- a session that starts in the log
record StartsInLog (log : Log) (started : Started) : Type 0 where
  k : ℕ
  fresh : Bool
  in_log : k ≤ length log.commits
  token_is : started.token ≡ log.token k
  text_is : started.text ≡ opened_text log fresh k

behind : (limits : Limits) (log : Log) (p : Position) (back : ℕ) (started : Started) → IsPosition limits log p
    → (held : Option (List ℕ)) (at : Option ℕ) → option_and_then (λ place. slice_get (tokens_of log p.low (suc (p.at - p.low))) (place - back)) at ≡ held
    → starts_behind held ≡ Ok started → StartsInLog log started
behind limits log p back started is None at e f = let no : Err NotHeld ≡ Ok started = f in absurd (cc)
behind limits log p back started is (Some token) None e f = let no : None ≡ Some token = e in absurd (cc)
behind limits log p back started is (Some token) (Some j) e f =
    let t = token_there log p.low (suc (p.at - p.low)) (j - back) token e in
    let this : Ok (record { token = token; text = [] }) ≡ Ok started = f in
    let same : record { token = token; text = [] } ≡ started = cc in
    let order : p.low ≤ p.at = is.order in
    let within : p.at ≤ length log.commits = is.in_log in
    let less : j - back < suc (p.at - p.low) = t.1 in
    record {
      k = p.low + (j - back);
      fresh = false;
      in_log = omega (arith, order, within, less);
      token_is = sym (ap (λ s. s.token) same) ∙ t.0;
      text_is = sym (ap (λ s. s.text) same);
    }

starts : (limits : Limits) (log : Log) (place : Option Position) (back : ℕ) (since : Option (List ℕ)) (started : Started)
    → IsPlaceOfLog limits log place → opens (node_where log place) back since ≡ Ok started → StartsInLog log started
starts limits log None back since started is e = let no : Err NotYet ≡ Ok started = e in absurd (cc)
starts limits log (Some p) back None started is e =
    let this : Ok (record { token = log.token p.at; text = state_text log p.at }) ≡ Ok started = e in
    let same : record { token = log.token p.at; text = state_text log p.at } ≡ started = cc in
    record { k = p.at; fresh = true; in_log = is.in_log; token_is = sym (ap (λ s. s.token) same); text_is = sym (ap (λ s. s.text) same) }
starts limits log (Some p) back (Some token) started is e =
    behind limits log p back started is (token_before (node_at log p) back token) (place_of (node_at log p) token) refl e

opened_so : (log : Log) (framing : Framing) (answer : AnswerParts) (opened : List ℕ) (result : Result Started OpenFault)
    → ((started : Started) → result ≡ Ok started → StartsInLog log started)
    → answer ≡ answer_opened framing result → answer.session ≡ Some opened → OpensInLog log answer opened
opened_so log framing answer opened (Ok started) in_log e f =
    let s = in_log started refl in
    let this : Some started.token ≡ Some opened = sym (ap (λ a. a.session) e) ∙ f in
    let same : started.token ≡ opened = cc in
    record {
      k = s.k;
      fresh = s.fresh;
      in_log = s.in_log;
      token_is = sym same ∙ s.token_is;
      text_is = ap (λ a. a.text) e ∙ ap (λ f. opening_text f started.text) (sym (ap (λ a. a.framing) e)) ∙ ap (opening_text answer.framing) s.text_is;
    }
opened_so log framing answer opened (Err NotYet) in_log e f = let no : None ≡ Some opened = sym (ap (λ a. a.session) e) ∙ f in absurd (cc)
opened_so log framing answer opened (Err NotHeld) in_log e f = let no : None ≡ Some opened = sym (ap (λ a. a.session) e) ∙ f in absurd (cc)
opened_so log framing answer opened (Err Memory) in_log e f = let no : None ≡ Some opened = sym (ap (λ a. a.session) e) ∙ f in absurd (cc)

pub nodes_open : NodesOpenInLog
nodes_open limits log node place head contest framing back answer opened is same answers session =
    by answers.asked answers.answer_is
  where
    by : (asked : Asked) → answer ≡ answer_to asked node framing back → OpensInLog log answer opened
    by (refused refusal) e = let no : None ≡ Some opened = sym (ap (λ a. a.session) e) ∙ session in absurd (cc)
    by (feed minor since) e =
        opened_so log (framing_for minor framing) answer opened (opens node back since)
        (λ started f. starts limits log place back since started is (ap (λ n. opens n back since) (sym same) ∙ f)) e session
