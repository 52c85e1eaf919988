use Rattle.std.proofs.Common.{inr}
use Rattle.feed_device.proofs.CallLemmas.{called_on, called_or}
use Rattle.feed_screens.proofs.screens.Screens.accept.Goals as goal

pub loop-preserved : goal.loop-preserved
loop-preserved g c =
    let asked = g.S.Sockets.asked in
    record {
      serving = λ nodes contest serving. c.accept_next.ensures.serving nodes contest (c.loop.invariant.serving nodes contest serving);
      notes = (λ is. c.accept_next.ensures.notes.0 (c.loop.invariant.notes.0 is), λ is. c.accept_next.ensures.notes.1 (c.loop.invariant.notes.1 is));
      asked = inr (called_on (asked c.sweep.new.sockets) (asked c.loop.sockets) (asked c.accept_next.new.sockets) c.loop.invariant.asked (c.accept_next.ensures.asks c.if-not-accept_next.false));
    }

pub returns-then-not-accept_next-clause-asks : goal.returns-then-not-accept_next-clause-asks
returns-then-not-accept_next-clause-asks g c =
    λ waits due.
    let asked = g.S.Sockets.asked in
    called_or (asked c.args.sockets.now) (asked c.sweep.new.sockets) (asked c.loop.sockets) (asked c.accept_next.new.sockets) c.sweep.ensures.asks c.loop.invariant.asked
    (c.accept_next.ensures.stops c.if-not-accept_next.true)
