-- Where a turn has more batches than are kept, the session's token is lost.
use Rattle.std.proofs.Common.{◌≡◌, refl, sym, ap, ◌∙◌, ℕ, zero, suc, ◌+◌, ◌<◌, ◌≤◌, true, false, List, [], ◌∷◌, length, take, get_or, arith, rules, inl, inr, Option, Some, None, length-append, length-take}
use Rattle.std.specs.Prelude.{MatchOption, min, if◌then◌else◌, slice_get, ◌==◌}
use Rattle.std.specs.Option.{option_and_then}
use Rattle.std.specs.Str.{bytes_eq}
use Rattle.std.proofs.lemmas.Fmt.{decimal_injective}
use Rattle.std.proofs.lemmas.Bool.{cases_Bool}
use Rattle.std.proofs.lemmas.Bool.Decides.{nat_tests}
use Rattle.std.proofs.lemmas.Slice.Eq.{bytes_eq-Decides}
use Rattle.feed_changes.specs.declared.change.Change.{Change}
use Rattle.feed_node.specs.Publishing.{Published}
use Rattle.feed_node.specs.declared.commit.Commit.{Commit}
use Rattle.feed_node.specs.Log.{PrimaryState, IsPrimary, token_after, tokens_from, commit_fault, last_count}
use Rattle.feed_node.specs.States.{NodeState, nothing_published, published_token, token_of, place_of, HoldsItsTokens, IsConsistent}
use Rattle.feed_node.specs.Serving.{is_published, commit_after}
use Rattle.feed_http.specs.Sessions.{Nothing_new, Lost, Commit_after, next, or_lost}
use Rattle.feed_http.specs.Sending.{Sent, sent_none, sent_one}
use Rattle.feed_http.specs.Live.{Intake, Accepts, accepts_none, accepts_one, TakesTurn, IsLongTurn}
use Rattle.feed_http.proofs.RestLemmas.{new_is_published, at_place}
use Rattle.feed_node.proofs.Keeping.{tokens-length}
use Rattle.feed_node.proofs.Numbering.{tokens_from-length as length_tokens}

-- the session stands at the last token of the start, and more commits than are kept came since
pub record IsPast (start : Intake) (now : PrimaryState) (session : List ℕ) : Type 0 where
  pub stands : session ≡ token_after start.primary.count
  pub many : start.primary.count + start.primary.limits.history.commits < now.count
  pub counted : now.count ≤ last_count

-- ---- commits are counted

-- what is accepted has a number that is no more than the last
next_counted : (primary : PrimaryState) (batch : List Change) → commit_fault primary batch ≡ None
    → primary.count ≤ last_count → primary.count + 1 ≤ last_count
next_counted primary batch fine few = elim (cases_Bool (primary.count == last_count)) [
  | inl is ↦ absurd (last_refused is)
  | inr other ↦ grind (arith, nat_tests)
]
  where
    last_refused : (primary.count == last_count) ≡ true → ⊥
    last_refused is = elim (cases_Bool (length batch == 0)) [
      | inl none ↦ (let e = fine in grind (rules, none, e))
      | inr some ↦ (let e = fine in grind (rules, some, is, e))
    ]

accepts_count : (first : PrimaryState) (batches : List (List Change)) (now : PrimaryState)
    → Accepts first batches now → now.count ≡ first.count + length batches
accepts_count first batches now accepts_none = omega arith
accepts_count first batches now (accepts_one earlier primary batch run fine) =
    let so = accepts_count first earlier primary run in
    let grown = length-append earlier (batch ∷ []) in
    omega (arith, so, grown)

accepts_counted : (first : PrimaryState) (batches : List (List Change)) (now : PrimaryState)
    → Accepts first batches now → first.count ≤ last_count → now.count ≤ last_count
accepts_counted first batches now accepts_none few = few
accepts_counted first batches now (accepts_one earlier primary batch run fine) few =
    next_counted primary batch fine (accepts_counted first earlier primary run few)

-- ---- the tokens that are held

get_tokens : (low many k : ℕ) → k < many → get_or (tokens_from low many) k [] ≡ token_after (low + k)
get_tokens low zero k within = absurd (omega arith)
get_tokens low (suc many) zero within = ap token_after (omega arith)
get_tokens low (suc many) (suc k) within =
    get_tokens (low + 1) many k (omega arith) ∙ ap token_after (omega arith)

-- there is a token for each number up to the last
tokens_differ : (m n : ℕ) → m ≤ last_count → n ≤ last_count → token_after m ≡ token_after n → m ≡ n
tokens_differ m n few fewer e = decimal_injective m n (omega arith) (omega arith) e

-- as many tokens are held as commits are kept, and one
holds_few : (node : NodeState) (o : Option Published) (token : List ℕ)
    → MatchOption o (node ≡ nothing_published) (HoldsItsTokens node) → token_of o ≡ Some token
    → length node.held ≡ length node.kept + 1
holds_few node None token h e = absurd (cc)
holds_few node (Some p) token h e =
    let many : length node.held ≡ suc (length node.kept) = ap length h.held ∙ ap suc (tokens-length node.kept) in
    omega arith

-- a token from before those that are held is not held
not_held : (node : NodeState) (low many n : ℕ) (place : Option ℕ)
    → node.held ≡ tokens_from low many → n < low → low + many ≤ last_count + 1
    → place_of node (token_after n) ≡ place → place ≡ None
not_held node low many n None held less few e = refl
not_held node low many n (Some k) held less few e =
    let (within, here) = at_place node (token_after n) k e in
    let all : length node.held ≡ many = ap length held ∙ length_tokens low many in
    let stands : get_or node.held k [] ≡ token_after (low + k) =
    ap (λ l. get_or l k []) held ∙ get_tokens low many k (omega arith) in
    let same = tokens_differ n (low + k) (omega arith) (omega arith) (sym here ∙ stands) in
    absurd (omega arith)

-- a published token is another one than that of a smaller number
not_published : (published : Option (List ℕ)) (count n : ℕ) → published ≡ Some (token_after count)
    → n < count → count ≤ last_count → is_published published (token_after n) ≡ false
not_published published count n named less few =
    ap (λ o. is_published o (token_after n)) named ∙ elim (cases_Bool (bytes_eq (token_after count) (token_after n))) [
      | inl is ↦ (let same = tokens_differ count n few (omega arith) ((bytes_eq-Decides (token_after count) (token_after n)).0 is) in absurd (omega arith))
      | inr other ↦ other
    ]

-- a session whose token is from before those that are held has lost it
pub lost_since : (primary : PrimaryState) (n : ℕ) → IsPrimary primary → IsConsistent primary.node
    → n + primary.limits.history.commits < primary.count → primary.count ≤ last_count
    → next primary.node (token_after n) ≡ Lost
lost_since primary n is consistent more few =
    let node = primary.node in
    let held = holds_few node node.published (token_after primary.count) consistent is.named in
    let all : length node.held ≡ is.held.many = ap length is.held.are ∙ length_tokens is.held.low is.held.many in
    let kept = is.within.few in
    let reach = is.held.reach in
    let none = not_held node is.held.low is.held.many n (place_of node (token_after n)) is.held.are (omega arith) (omega arith) refl in
    let other = not_published (published_token node) primary.count n is.named (omega arith) few in
    ap (λ b. if b then Nothing_new else or_lost (commit_after node (token_after n))) other
    ∙ ap (λ p. or_lost (option_and_then (slice_get node.kept) p)) none

-- ---- a session

-- where the token is lost, nothing more is sent
stays_lost : (node : NodeState) (start to : List ℕ) (sent : List Commit) → Sent node start sent to
    → next node start ≡ Lost → to ≡ start
stays_lost node start to sent (sent_none _) lost = refl
stays_lost node start to sent (sent_one _ token earlier commit run is) lost =
    let same = stays_lost node start token earlier run lost in
    let clash : Commit_after commit ≡ Lost = sym is ∙ ap (next node) same ∙ lost in
    absurd (cc)

-- a session that has lost its token isn't up to date
pub never_kept : (start before : Intake) (token to : List ℕ) (sent : List Commit)
    → before.primary.limits ≡ start.primary.limits → IsPrimary before.primary
    → IsConsistent before.primary.node → IsPast start before.primary token
    → Sent before.primary.node token sent to → next before.primary.node to ≡ Nothing_new → ⊥
never_kept start before token to sent limits is consistent past run new =
    let same : before.primary.limits.history.commits ≡ start.primary.limits.history.commits = ap (λ l. l.history.commits) limits in
    let many = past.many in
    let lost : next before.primary.node token ≡ Lost =
    ap (next before.primary.node) past.stands
    ∙ lost_since before.primary start.primary.count is consistent (omega arith) past.counted in
    let clash : Nothing_new ≡ Lost =
    sym new ∙ ap (next before.primary.node) (stays_lost before.primary.node token to sent run lost) ∙ lost in
    absurd (cc)

-- a session that is up to date stands at the last token
stands_at_last : (published : Option (List ℕ)) (token last : List ℕ)
    → is_published published token ≡ true → published ≡ Some last → token ≡ last
stands_at_last published token last is named =
    sym ((bytes_eq-Decides last token).0 (sym (ap (λ o. is_published o token) named) ∙ is))

-- a turn that is long loses its token
pub turn_loses : (turn : ℕ) (start before now : Intake) (to : List ℕ) → before ≡ start
    → IsPrimary before.primary
    → next before.primary.node to ≡ Nothing_new → TakesTurn turn before now → IsLongTurn turn start
    → IsPast start now.primary to
turn_loses turn start before now to same is new takes (turn_long, all_long) =
    let count : before.primary.count ≡ start.primary.count = ap (λ i. i.primary.count) same in
    let kept : before.primary.limits.history.commits ≡ start.primary.limits.history.commits = ap (λ i. i.primary.limits.history.commits) same in
    let waiting : length before.batches ≡ length start.batches = ap (λ i. length i.batches) same in
    let grown = accepts_count before.primary (take turn before.batches) now.primary takes.accepted in
    let many : length (take turn before.batches) ≡ min turn (length before.batches) = length-take turn before.batches in
    record {
      stands = stands_at_last (published_token before.primary.node) to (token_after before.primary.count)
          (new_is_published before.primary.node to new) is.named ∙ ap token_after count;
      many = omega arith;
      counted = accepts_counted before.primary (take turn before.batches) now.primary takes.accepted is.counted;
    }
