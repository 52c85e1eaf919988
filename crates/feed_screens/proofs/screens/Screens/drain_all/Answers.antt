use Rattle.std.proofs.Common.{rules, arith, ◌≡◌, ◌<◌, ◌∙◌, ap, sym, subst, true, length}
use Rattle.slab.specs.Slab.{get}
use Rattle.feed_hub.specs.Seats.{seat_at}
use Rattle.feed_screens.specs.Serving.{ServesScreens}
use Rattle.feed_screens.proofs.OfferLemmas.{ahead_next, offered_next, is_within}
use Rattle.feed_screens.specs.Waiting.{HasMoreToWrite, StaysNoted}
use Rattle.feed_screens.proofs.MarkedLemmas.{awaited_all, awaited_next, noted_all, noted_next}
use Rattle.feed_screens.proofs.NotedLemmas.{noted_then}
use Rattle.feed_screens.proofs.screens.Screens.drain_all.Goals as goal

pub loop-at-preserved : goal.loop-at-preserved
loop-at-preserved g c =
    let offered = g.S.Sockets.offered in
    let hub : c.if-is_some_and.self.hub ≡ c.drain.new.self.hub = search rules in
    let conns : c.if-is_some_and.self.conns ≡ c.drain.new.self.conns = search rules in
    let noted : StaysNoted c.drain.new.self c.if-is_some_and.self = search rules in
    let here : HasMoreToWrite (get c.drain.new.self.conns c.loop-at.at) → c.if-is_some_and.self.has_more ≡ true = search rules in
    let accept : c.if-is_some_and.self.accept_at ≡ c.drain.new.self.accept_at = search rules in
    record {
      serving = λ nodes contest among serving.
          subst (λ h. ServesScreens nodes contest h c.if-is_some_and.self.conns (g.S.Sockets.socket c.drain.new.sockets)) (sym hub)
          (subst (λ s. ServesScreens nodes contest c.drain.new.self.hub s (g.S.Sockets.socket c.drain.new.sockets)) (sym conns)
          (c.drain.ensures.serving nodes contest among (c.loop-at.invariant.serving nodes contest among serving)));
      asks = c.drain.ensures.asked ∙ c.loop-at.invariant.asks;
      tries = λ n. c.drain.ensures.tries n ∙ c.loop-at.invariant.tries n;
      notes = noted_then c.args.self.now c.drain.new.self c.if-is_some_and.self (noted_then c.args.self.now c.loop-at.self c.drain.new.self c.loop-at.invariant.notes c.drain.ensures.notes) noted;
      noted = noted_next c.loop-at.self c.drain.new.self c.if-is_some_and.self c.loop-at.at c.loop-at.invariant.noted c.drain.ensures.places c.drain.ensures.notes.has_more conns noted.has_more here;
      awaited = awaited_next c.args.self.now.conns c.loop-at.self c.drain.new.self c.if-is_some_and.self c.loop-at.at c.loop-at.invariant.awaited
          (c.loop-at.invariant.ahead.conns c.loop-at.at (omega arith)) c.drain.ensures.places c.drain.ensures.seats c.drain.ensures.log c.drain.ensures.notes.has_more
          conns hub noted.has_more (λ has. here (c.drain.ensures.more has));
      pauses = accept ∙ c.drain.ensures.pauses ∙ c.loop-at.invariant.pauses;
      offered = offered_next c.args.self.now c.loop-at.self (offered c.args.sockets.now) (offered c.loop-at.sockets) (offered c.drain.new.sockets) c.loop-at.at
          c.loop-at.invariant.ahead c.loop-at.invariant.offered c.drain.ensures.rest c.drain.ensures.offers;
      ahead = ahead_next c.args.self.now c.loop-at.self c.if-is_some_and.self (offered c.args.sockets.now) (offered c.loop-at.sockets) (offered c.drain.new.sockets) c.loop-at.at
          c.loop-at.invariant.ahead
          (λ other away. ap (λ s. get s other) conns ∙ c.drain.ensures.places other away) c.drain.ensures.rest
          (λ key no. ap (λ h. seat_at h.seats.slab key) hub ∙ c.drain.ensures.seats key no)
          (ap (λ h. h.broadcast) hub ∙ c.drain.ensures.log);
    }

pub returns-clause-offers : goal.returns-clause-offers
returns-clause-offers g c at key writable pending alone =
    let within : at < length c.args.self.now.conns.slots = is_within c.args.self.now.conns at key writable in
    c.loop-at.invariant.offered at key (omega (arith, within, c.capacity-at-end.ensures.slots, c.loop-at-test.false)) writable pending alone

pub returns-clause-more : goal.returns-clause-more
returns-clause-more g c at more =
    noted_all c.args.self.now c.loop-at.self c.loop-at.at at c.loop-at.invariant.noted c.loop-at.invariant.ahead.conns (omega (arith, c.capacity-at-end.ensures.slots, c.loop-at-test.false)) more

pub returns-clause-pending : goal.returns-clause-pending
returns-clause-pending g c at key =
    awaited_all c.args.self.now c.loop-at.self c.loop-at.at at key c.loop-at.invariant.awaited c.loop-at.invariant.ahead.conns (omega (arith, c.capacity-at-end.ensures.slots, c.loop-at-test.false))
