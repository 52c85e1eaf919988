use Rattle.std.proofs.Common.{◌≡◌, ◌≢◌, ◌∙◌, refl, ap, sym, subst, inl, inr, Some}
use Rattle.slab.specs.Slab.{get}
use Rattle.feed_hub.specs.Seats.{seat_at, IsAskingSeat}
use Rattle.feed_hub.specs.Hub.{ChangesOnly}
use Rattle.feed_screens.specs.Serving.{key_at, keyless}
use Rattle.feed_screens.proofs.RoomLemmas.{has_no_key}
use Rattle.feed_screens.proofs.ServingLemmas.{serving_refused, serving_further}
use Rattle.feed_screens.proofs.screens.Screens.refuse_at.Goals as goal

pub returns-clause-serving : goal.returns-clause-serving
returns-clause-serving g c =
    let (keyed, asked) = c.in-Some.ensures.some in
    λ nodes contest unheard serves.
    serving_refused c.args.self.now c.linger.new.self
    (g.S.Sockets.socket c.args.sockets.now) (g.S.Sockets.socket c.refuse.new.sockets) c.args.at c.in-Some.key unheard keyed asked
    (λ other away. c.linger.ensures.others other away ∙ ap (λ s. key_at s other) c.refuse.ensures.conns)
    (c.linger.ensures.key ∙ ap (λ s. keyless (key_at s c.args.at)) c.refuse.ensures.conns)
    (subst (λ h. ChangesOnly c.args.self.now.hub h c.in-Some.key) (sym (c.linger.ensures.hub ∙ c.refuse.ensures.hub)) c.leave.ensures.rest)
    (c.refuse.ensures.sent nodes contest) c.refuse.ensures.former c.refuse.ensures.others serves

pub returns-in_default-clause-serving : goal.returns-in_default-clause-serving
returns-in_default-clause-serving g c =
    λ nodes contest unheard serves.
    serving_further _ _ _ c.args.at unheard (c.in_default.ensures.none refl) serves

pub returns-clause-refuses : goal.returns-clause-refuses
returns-clause-refuses g c =
    let (keyed, asked) = c.in-Some.ensures.some in
    record {
      others = λ other away. c.linger.ensures.places other away ∙ ap (λ s. get s other) c.refuse.ensures.conns;
      seats = λ key not.
          ap (λ h. seat_at h.seats.slab key) (c.linger.ensures.hub ∙ c.refuse.ensures.hub)
          ∙ c.leave.ensures.rest.others key (λ same. not (subst (λ k. key_at c.args.self.now.conns c.args.at ≡ Some (Some k)) (sym same) keyed));
      here = inr (λ key is. has_no_key _ key (sym (c.linger.ensures.key ∙ ap (λ s. keyless (key_at s c.args.at)) c.refuse.ensures.conns) ∙ is));
    }

pub returns-clause-goes : goal.returns-clause-goes
returns-clause-goes g c =
    λ is. has_no_key _ is.key (sym (c.linger.ensures.key ∙ ap (λ s. keyless (key_at s c.args.at)) c.refuse.ensures.conns) ∙ is.keyed)

pub returns-clause-asking : goal.returns-clause-asking
returns-clause-asking g c key asked =
    let hub = c.linger.ensures.hub ∙ c.refuse.ensures.hub in
    let before : IsAskingSeat (seat_at c.leave.new.self.seats.slab key) = subst (λ h. IsAskingSeat (seat_at h.seats.slab key)) hub asked in
    let other : key ≢ c.in-Some.key = λ same. subst IsAskingSeat c.leave.ensures.seat (subst (λ k. IsAskingSeat (seat_at c.leave.new.self.seats.slab k)) same before) in
    subst IsAskingSeat (c.leave.ensures.rest.others key other) before

pub returns-in_default-clause-refuses : goal.returns-in_default-clause-refuses
returns-in_default-clause-refuses g c = record { others = λ other away. refl; seats = λ key not. refl; here = inl refl }
