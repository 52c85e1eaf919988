use Rattle.std.proofs.Common.{◌≡◌, ◌∙◌, ap, refl, sym, subst, Option, Some, None, true, false}
use Rattle.std.specs.Prelude.{IsSome}
use Rattle.feed_hub.specs.declared.seats.Key.{Key}
use Rattle.feed_screens.specs.declared.screens.Screens.{Screens}
use Rattle.feed_screens.specs.Seating.{HasFreeSeat}
use Rattle.slab.specs.Slab.{get}
use Rattle.feed_screens.specs.Serving.{key_of, key_at}
use Rattle.feed_screens.proofs.ServingLemmas.{serving_inserted, serving_same, goes_on}
use Rattle.feed_screens.proofs.screens.Screens.accept_one.Goals as goal

pub returns-clause-serving : goal.returns-clause-serving
returns-clause-serving g c =
    λ nodes contest serving.
    c.dismiss.ensures.serving nodes contest
    (serving_inserted c.make_seat.new.self.hub c.greet-conn.new.self.hub c.make_seat.new.self.conns c.greet-conn.new.self.conns c.insert_reserved-at.new.self
    (g.S.Sockets.socket c.args.sockets.now) (g.S.Sockets.socket c.accept.new.self) (g.S.Sockets.socket c.greet-conn.new.sockets)
    c.vacant_key-at.result c.insert_reserved-at.result c.greet-conn.result
    (λ other. ap (λ s. get s other) c.greet-conn.ensures.conns)
    (c.insert_reserved-at.ensures.key ∙ ap (λ s. s.vacant_key) (c.greet-conn.ensures.conns ∙ c.make_seat.ensures.conns) ∙ sym c.vacant_key-at.ensures.value)
    c.insert_reserved-at.ensures.updates c.in_ok-peer.ensures.connection c.greet-conn.ensures.former c.accept.ensures.others c.greet-conn.ensures.others
    (c.greet-conn.ensures.greeted nodes contest (goes_on _ _ _ c.in_ok-peer.ensures.connection))
    (c.make_seat.ensures.serving nodes contest (g.S.Sockets.socket c.args.sockets.now)
    (serving_same {old = c.args.self.now.hub} {new = c.args.self.now.hub} {conns = c.args.self.now.conns} {conns_new = c.reserve.new.self}
    refl (λ other. ap (λ s. key_of (get s other)) c.reserve.ensures.rest_kept) (λ _. refl) serving)))

with_key : (held : Option Key) → IsSome held → (key : Key) × (held ≡ Some key)
with_key None is = absurd (let no : false ≡ true = is in cc)
with_key (Some key) is = (key, refl)

pub returns-clause-seated : goal.returns-clause-seated
returns-clause-seated g c ok free =
    let at = c.vacant_key-at.result in
    let same = c.greet-conn.ensures.conns ∙ c.make_seat.ensures.conns in
    let here = c.insert_reserved-at.ensures.key ∙ ap (λ s. s.vacant_key) same ∙ sym c.vacant_key-at.ensures.value in
    let (key, keyed) = with_key c.greet-conn.result.key (c.greet-conn.ensures.seated (subst HasFreeSeat (sym (c.make_seat.ensures.stays free)) free)) in
    let is : key_at c.insert_reserved-at.new.self at ≡ Some (Some key) =
    subst (λ n. key_at c.insert_reserved-at.new.self n ≡ Some (Some key)) here (ap key_of c.insert_reserved-at.ensures.updates.changed ∙ ap Some keyed) in
    record {
      at = at;
      key = key;
      vacant = sym (ap (λ s. get s at) c.reserve.ensures.rest_kept) ∙ ap (λ s. get s at) (sym same) ∙ subst (λ n. get c.greet-conn.new.self.conns n ≡ None) here c.insert_reserved-at.ensures.was_vacant;
      keyed = ap (λ (s : Screens). key_at s.conns at) (c.dismiss.ensures.stays key is) ∙ is;
    }
