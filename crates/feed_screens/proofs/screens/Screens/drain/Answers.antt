use Rattle.std.proofs.Common.{◌≡◌, ◌≢◌, ◌∙◌, ap, sym, subst, inl, inr, Some}
use Rattle.feed_hub.specs.Seats.{seat_at}
use Rattle.feed_screens.specs.declared.screens.Screens.{Screens}
use Rattle.feed_screens.specs.Serving.{IsAtEndThen, ReachesEnd, key_at}
use Rattle.feed_screens.proofs.ServingLemmas.{serving_noted}
use Rattle.feed_screens.proofs.ShutLemmas.{reaches, same_key}
use Rattle.feed_device.specs.Calls.{CalledOnce}
use Rattle.feed_screens.proofs.MarkedLemmas.{none_has}
use Rattle.feed_screens.proofs.screens.Screens.drain.Goals as goal

pub returns-then-fill-clause-serving : goal.returns-then-fill-clause-serving
returns-then-fill-clause-serving g c =
    λ nodes contest among serving.
    let keyed : key_at c.writable.new.self.conns c.args.at ≡ Some (Some c.in-Some.key) = c.writable.ensures.same.keys c.args.at ∙ c.in-Some.ensures.key in
    c.write.ensures.serving nodes contest among (c.fill.ensures.stays c.if-fill.true ∙ keyed)
    (c.fill.ensures.serving nodes contest among keyed (serving_noted c.writable.ensures.same serving))

pub returns-else-fill-clause-serving : goal.returns-else-fill-clause-serving
returns-else-fill-clause-serving g c =
    λ nodes contest among serving.
    let keyed : key_at c.writable.new.self.conns c.args.at ≡ Some (Some c.in-Some.key) = c.writable.ensures.same.keys c.args.at ∙ c.in-Some.ensures.key in
    (c.fill.ensures.serving nodes contest among keyed (serving_noted c.writable.ensures.same serving))

pub returns-then-fill-clause-seats : goal.returns-then-fill-clause-seats
returns-then-fill-clause-seats g c =
    λ key not.
    let keyed : key_at c.writable.new.self.conns c.args.at ≡ Some (Some c.in-Some.key) = c.writable.ensures.same.keys c.args.at ∙ c.in-Some.ensures.key in
    let differs : key ≢ c.in-Some.key = λ same. not (subst (λ k. key_at c.args.self.now.conns c.args.at ≡ Some (Some k)) (sym same) c.in-Some.ensures.key) in
    c.write.ensures.seats (c.fill.ensures.stays c.if-fill.true ∙ keyed) key differs
    ∙ c.fill.ensures.seats keyed key differs ∙ ap (λ h. seat_at h.seats.slab key) c.writable.ensures.same.hub

pub returns-then-fill-clause-shuts : goal.returns-then-fill-clause-shuts
returns-then-fill-clause-shuts g c =
    λ key held shut.
    let keyed : key_at c.writable.new.self.conns c.args.at ≡ Some (Some c.in-Some.key) = c.writable.ensures.same.keys c.args.at ∙ c.in-Some.ensures.key in
    let same : c.in-Some.key ≡ key = same_key (sym c.in-Some.ensures.key ∙ held) in
    let end : IsAtEndThen c.fill.new.self.hub c.args.node.now.shown c.args.desk.now.time c.in-Some.key =
    subst (λ time. IsAtEndThen c.fill.new.self.hub c.args.node.now.shown time c.in-Some.key) c.fill.ensures.time
    (c.write.ensures.shuts (c.fill.ensures.stays c.if-fill.true ∙ keyed) shut) in
    subst (ReachesEnd c.args.self.now.hub c.args.node.now.shown c.args.desk.now.time) same
    (subst (λ h. ReachesEnd h c.args.node.now.shown c.args.desk.now.time c.in-Some.key) c.writable.ensures.same.hub
    (reaches c.writable.new.self.hub c.fill.new.self.hub c.args.node.now.shown c.args.desk.now.time c.in-Some.key
    (λ some. ap (λ (s : Screens). s.hub) (c.fill.ensures.pending some)) (λ none. c.fill.ensures.next none c.if-fill.true) c.fill.ensures.log end))

pub returns-then-fill-clause-gets : goal.returns-then-fill-clause-gets
returns-then-fill-clause-gets g c =
    λ key writable. inl (subst (λ o. CalledOnce o (g.S.Sockets.offered c.write.new.sockets c.args.at)) (c.fill.ensures.offers c.args.at) c.write.ensures.offers)

pub returns-else-fill-clause-gets : goal.returns-else-fill-clause-gets
returns-else-fill-clause-gets g c =
    λ key writable.
    let keyed : key_at c.writable.new.self.conns c.args.at ≡ Some (Some c.in-Some.key) = c.writable.ensures.same.keys c.args.at ∙ c.in-Some.ensures.key in
    inr (c.fill.ensures.none keyed c.if-fill.false key)

pub returns-then-fill-clause-more : goal.returns-then-fill-clause-more
returns-then-fill-clause-more g c =
    λ has.
    let keyed : key_at c.writable.new.self.conns c.args.at ≡ Some (Some c.in-Some.key) = c.writable.ensures.same.keys c.args.at ∙ c.in-Some.ensures.key in
    c.write.ensures.more (c.fill.ensures.stays c.if-fill.true ∙ keyed) has

pub returns-else-fill-clause-more : goal.returns-else-fill-clause-more
returns-else-fill-clause-more g c =
    λ has.
    let keyed : key_at c.writable.new.self.conns c.args.at ≡ Some (Some c.in-Some.key) = c.writable.ensures.same.keys c.args.at ∙ c.in-Some.ensures.key in
    absurd (none_has c.fill.new.self c.args.at (c.fill.ensures.none keyed c.if-fill.false) has)
