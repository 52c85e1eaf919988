use Rattle.std.proofs.Common.{refl, ap}
use Rattle.feed_screens.proofs.InputLemmas.{keeps_same}
use Rattle.feed_screens.proofs.ServingLemmas.{serving_handed, serving_noted}
use Rattle.feed_hub.specs.Seats.{seat_at}
use Rattle.feed_screens.proofs.screens.Screens.write_once.Goals as goal

pub returns-in-Ok-eq0-clause-serving : goal.returns-in-Ok-eq0-clause-serving
returns-in-Ok-eq0-clause-serving g c =
    λ nodes contest keyed serving.
    serving_handed c.args.self.now.hub c.hand.new.hub c.args.self.now.conns (g.S.Sockets.socket c.args.sockets.now) (g.S.Sockets.socket c.hand.new.sockets) c.args.keyed.at c.args.keyed.key c.args.now c.hand.result keyed c.hand.ensures.bytes c.hand.ensures.served c.hand.ensures.exact c.hand.ensures.others c.hand.ensures.rest c.hand.ensures.err serving

pub returns-clause-serving : goal.returns-clause-serving
returns-clause-serving g c =
    λ nodes contest keyed serving.
    serving_noted c.is_handed.ensures.same
    (serving_handed c.args.self.now.hub c.hand.new.hub c.args.self.now.conns (g.S.Sockets.socket c.args.sockets.now) (g.S.Sockets.socket c.hand.new.sockets) c.args.keyed.at c.args.keyed.key c.args.now c.hand.result keyed c.hand.ensures.bytes c.hand.ensures.served c.hand.ensures.exact c.hand.ensures.others c.hand.ensures.rest c.hand.ensures.err serving)

pub returns-in-Err : goal.returns-in-Err
returns-in-Err g c =
    record {
      serving = λ nodes contest keyed serving.
          serving_handed c.args.self.now.hub c.hand.new.hub c.args.self.now.conns (g.S.Sockets.socket c.args.sockets.now) (g.S.Sockets.socket c.hand.new.sockets) c.args.keyed.at c.args.keyed.key c.args.now c.hand.result keyed c.hand.ensures.bytes c.hand.ensures.served c.hand.ensures.exact c.hand.ensures.others c.hand.ensures.rest c.hand.ensures.err serving;
      keys = refl;
      offers = c.hand.ensures.offers;
      asks = c.hand.ensures.asks;
      places = λ other away. refl;
      seats = λ key away. ap (λ h. seat_at h.seats.slab key) c.in-Err.ensures.err;
      log = ap (λ h. h.broadcast) c.in-Err.ensures.err;
      rest = c.hand.ensures.unoffered;
      tries = c.hand.ensures.tries;
      took = λ took. absurd (cc);
      blocked = λ no. absurd (cc);
      ready = λ no. absurd (cc);
      pauses = refl;
      notes = record { has_more = λ is. is; is_waited = λ is. is; is_waited_for = λ is. is };
      input = keeps_same _;
    }
