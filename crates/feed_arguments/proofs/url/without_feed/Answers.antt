use Rattle.std.proofs.Common.{rules, ◌≡◌, ◌≢◌, refl, sym, ap, ◌∙◌, ◌++◌, ◌∷◌, inl, inr, true, false, None, Some, lit<}
use Rattle.std.proofs.lemmas.Slice.Eq.{bytes_eq-Decides}
use Rattle.feed_arguments.proofs.AddressLemmas.{last_cut}
use Rattle.feed_arguments.proofs.UrlLemmas.{no_feed_without, no_feed_behind}
use Rattle.feed_arguments.specs.FeedUrl.{event_feed}
use Rattle.feed_arguments.proofs.url.without_feed.Goals as goal

pub returns-in_default : goal.returns-in_default
returns-in_default c =
    inr (refl, no_feed_without c.args.path.now (last_cut 47 c.args.path.now None (search rules) (lit< tt)))

pub returns-then-eq : goal.returns-then-eq
returns-then-eq c =
    let cut = last_cut 47 c.args.path.now (Some (c.in-Some.before, c.in-Some.last)) c.in-Some.ensures.cases (lit< tt) in
    let same : c.in-Some.last.now ≡ event_feed =
    (bytes_eq-Decides c.in-Some.last.now event_feed).0 (sym c.eq.ensures ∙ c.if-eq.true) in
    inl (cut.0 ∙ ap (λ l. c.in-Some.before.now ++ 47 ∷ l) same)

pub returns-else-eq : goal.returns-else-eq
returns-else-eq c =
    let cut = last_cut 47 c.args.path.now (Some (c.in-Some.before, c.in-Some.last)) c.in-Some.ensures.cases (lit< tt) in
    let other : c.in-Some.last.now ≢ event_feed =
    λ e. let is = sym c.eq.ensures ∙ c.if-eq.false in
    let same = (bytes_eq-Decides c.in-Some.last.now event_feed).1 e in absurd (cc) in
    inr (refl, no_feed_behind c.args.path.now c.in-Some.before.now c.in-Some.last.now cut.0 cut.1 other)
