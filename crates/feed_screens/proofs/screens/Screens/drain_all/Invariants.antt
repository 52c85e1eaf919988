use Rattle.std.proofs.Common.{◌≡◌, ℕ, List}
use Rattle.std.specs.Prelude.{Contains}
use Rattle.feed_device.specs.Calls.{NotCalled}
use Rattle.feed_node.specs.States.{NodeState}
use Rattle.feed_screens.specs.Serving.{StillServing}
use Rattle.feed_screens.specs.Waiting.{StaysNoted}
use Rattle.feed_screens.proofs.OfferLemmas.{HaveBeenOffered, AreAhead}
use Rattle.feed_screens.proofs.MarkedLemmas.{AreAwaited, AreNoted}
use Rattle.feed_screens.proofs.screens.Screens.drain_all.Given as goal

abbrev pub invariant-loop-at : goal.invariant-loop-at
invariant-loop-at g l =
    record {
      serving : (nodes : List NodeState) (contest : List ℕ) → Contains nodes l.node.shown
          → StillServing nodes contest l.initial.self l.self (g.S.Sockets.socket l.initial.sockets) (g.S.Sockets.socket l.sockets);
      asks : g.S.Sockets.asked l.sockets ≡ g.S.Sockets.asked l.initial.sockets;
      tries : NotCalled (g.S.Sockets.tried l.initial.sockets) (g.S.Sockets.tried l.sockets);
      offered : HaveBeenOffered l.initial.self (g.S.Sockets.offered l.initial.sockets) (g.S.Sockets.offered l.sockets) l.at;
      ahead : AreAhead l.initial.self l.self (g.S.Sockets.offered l.initial.sockets) (g.S.Sockets.offered l.sockets) l.at;
      notes : StaysNoted l.initial.self l.self;
      noted : AreNoted l.self l.at;
      awaited : AreAwaited l.initial.self.conns l.self l.at;
      pauses : l.self.accept_at ≡ l.initial.self.accept_at;
    }
