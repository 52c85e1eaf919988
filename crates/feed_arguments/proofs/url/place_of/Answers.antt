use Rattle.std.proofs.Common.{rules, ◌≡◌, ◌≢◌, refl, sym, ap, ◌∙◌, ◌++◌, ◌∷◌, [], List, ℕ, true, false, None, Some, length, lit<, arith}
use Rattle.std.proofs.lemmas.Bool.Decides.{nat_tests}
use Rattle.std.proofs.lemmas.List.{nil_from_length}
use Rattle.std.proofs.lemmas.Slice.Eq.{bytes_eq-Decides}
use Rattle.std.specs.Prelude.{codes}
use Rattle.feed_arguments.proofs.AddressLemmas.{last_cut}
use Rattle.feed_arguments.proofs.UrlLemmas.{path_of, no_contest, not_empty_contest, not_feed_contest, has_base, has_contests}
use Rattle.feed_arguments.specs.FeedUrl.{event_feed}
use Rattle.feed_arguments.proofs.url.place_of.Goals as goal

pub returns-in_err-before-clause-none : goal.returns-in_err-before-clause-none
returns-in_err-before-clause-none c =
    λ _ base contest is. no_contest _ _ _ base contest is c.without_end.ensures c.without_feed-left.ensures
    (last_cut 47 c.without_feed-left.result.now None c.in_err-before.ensures.cases (lit< tt))

pub returns-then-is_empty-clause-none : goal.returns-then-is_empty-clause-none
returns-then-is_empty-clause-none c =
    let last = c.in_ok-before.contest.now in
    let cut = last_cut 47 c.without_feed-left.result.now (Some (c.in_ok-before.before, c.in_ok-before.contest))
    c.in_ok-before.ensures.cases (lit< tt) in
    let zero : length last ≡ 0 = search rules in
    λ _ base contest is. not_empty_contest _ _ _ base contest is c.without_end.ensures c.without_feed-left.ensures
    c.in_ok-before.before.now last cut.0 cut.1 (nil_from_length last zero)

pub returns-then-eq-clause-none : goal.returns-then-eq-clause-none
returns-then-eq-clause-none c =
    let last = c.in_ok-before.contest.now in
    let cut = last_cut 47 c.without_feed-left.result.now (Some (c.in_ok-before.before, c.in_ok-before.contest))
    c.in_ok-before.ensures.cases (lit< tt) in
    let same : last ≡ event_feed = (bytes_eq-Decides last event_feed).0 (sym c.eq.ensures ∙ c.if-eq.true) in
    λ _ base contest is. not_feed_contest _ _ _ base contest is c.without_end.ensures c.without_feed-left.ensures
    c.in_ok-before.before.now last cut.0 cut.1 same

pub returns-in_err-base-clause-none : goal.returns-in_err-base-clause-none
returns-in_err-base-clause-none c =
    let last = c.in_ok-before.contest.now in
    let cut = last_cut 47 c.without_feed-left.result.now (Some (c.in_ok-before.before, c.in_ok-before.contest))
    c.in_ok-before.ensures.cases (lit< tt) in
    λ _ base contest is. has_base _ _ _ base contest is c.without_end.ensures c.without_feed-left.ensures
    c.in_ok-before.before.now last cut.0 cut.1
    (last_cut 47 c.in_ok-before.before.now None c.in_err-base.ensures.cases (lit< tt))

pub returns-then-eq-2-clause-some : goal.returns-then-eq-2-clause-some
returns-then-eq-2-clause-some c =
    let last = c.in_ok-before.contest.now in
    let before = c.in_ok-before.before.now in
    let collection = c.in_ok-base.collection.now in
    let cut = last_cut 47 c.without_feed-left.result.now (Some (c.in_ok-before.before, c.in_ok-before.contest))
    c.in_ok-before.ensures.cases (lit< tt) in
    let again = last_cut 47 before (Some (c.in_ok-base.base, c.in_ok-base.collection)) c.in_ok-base.ensures.cases
    (lit< tt) in
    let same : collection ≡ codes "contests" =
    (bytes_eq-Decides collection (codes "contests")).0 (sym c.eq-2.ensures ∙ c.if-eq-2.true) in
    let whole = cut.0 ∙ ap (λ l. l ++ 47 ∷ last) (again.0 ∙ ap (λ l. c.in_ok-base.base.now ++ 47 ∷ l) same) in
    let some : last ≢ [] = λ e. let none : length last ≡ 0 = ap length e in absurd (grind (arith, nat_tests)) in
    let other : last ≢ event_feed = λ e.
    let is = sym c.eq.ensures ∙ c.if-eq.false in
    let yes = (bytes_eq-Decides last event_feed).1 e in absurd (cc) in
    path_of _ _ _ c.in_ok-base.base.now last c.without_end.ensures c.without_feed-left.ensures whole
    (record { some = some; one = cut.1; no_feed = other })

pub returns-else-eq-2-clause-none : goal.returns-else-eq-2-clause-none
returns-else-eq-2-clause-none c =
    let last = c.in_ok-before.contest.now in
    let before = c.in_ok-before.before.now in
    let collection = c.in_ok-base.collection.now in
    let cut = last_cut 47 c.without_feed-left.result.now (Some (c.in_ok-before.before, c.in_ok-before.contest))
    c.in_ok-before.ensures.cases (lit< tt) in
    let again = last_cut 47 before (Some (c.in_ok-base.base, c.in_ok-base.collection)) c.in_ok-base.ensures.cases
    (lit< tt) in
    λ _ base contest is.
    let same = has_contests _ _ _ base contest is c.without_end.ensures c.without_feed-left.ensures
    before last c.in_ok-base.base.now collection cut.0 cut.1 again.0 again.1 in
    let no = sym c.eq-2.ensures ∙ c.if-eq-2.false in
    let yes = (bytes_eq-Decides collection (codes "contests")).1 same in absurd (cc)
