use Rattle.feed_screens.proofs.MarkedLemmas.{alone_still}
use Rattle.feed_screens.proofs.OfferLemmas.{offered_after_sweep}
use Rattle.feed_screens.proofs.screens.Screens.drain_due.Goals as goal

pub returns-clause-offers : goal.returns-clause-offers
returns-clause-offers g c _ at key =
    let offered = g.S.Sockets.offered in
    offered_after_sweep c.args.self.now c.sweep.new.self (offered c.args.sockets.now) (offered c.sweep.new.sockets) (offered c.drain_all.new.sockets) at key
    c.sweep.ensures.stays c.sweep.ensures.places c.sweep.ensures.seats c.sweep.ensures.log c.sweep.ensures.offers c.drain_all.ensures.offers

pub returns-clause-pending : goal.returns-clause-pending
returns-clause-pending g c _ at key alone =
    c.drain_all.ensures.pending at key (alone_still c.args.self.now.conns c.sweep.new.self.conns key at c.sweep.ensures.places alone)
