use Rattle.std.proofs.Common.{◌≡◌, ◌⊎◌, ◌<◌, ℕ, List, None}
use Rattle.slab.specs.Slab.{get}
use Rattle.feed_device.specs.Calls.{NotCalled}
use Rattle.feed_node.specs.States.{NodeState}
use Rattle.feed_hub.specs.declared.seats.Key.{Key}
use Rattle.feed_hub.specs.Seats.{seat_at}
use Rattle.feed_screens.specs.Serving.{StillServing, HasNoSeat}
use Rattle.feed_screens.specs.Waiting.{StaysNoted}
use Rattle.feed_screens.proofs.screens.Screens.sweep.Given as goal

abbrev pub invariant-loop-at : goal.invariant-loop-at
invariant-loop-at g l =
    record {
      serving : (nodes : List NodeState) (contest : List ℕ)
          → StillServing nodes contest l.initial.self l.self (g.S.Sockets.socket l.initial.sockets) (g.S.Sockets.socket l.sockets);
      time : l.desk.time ≡ l.initial.desk.time;
      asks : g.S.Sockets.asked l.sockets ≡ g.S.Sockets.asked l.initial.sockets;
      tries : NotCalled (g.S.Sockets.tried l.initial.sockets) (g.S.Sockets.tried l.sockets);
      stays : (at : ℕ) → (get l.self.conns at ≡ get l.initial.self.conns at) ⊎ HasNoSeat l.initial.self.hub (get l.initial.self.conns at);
      gone : (at : ℕ) → at < l.at → ¬ (HasNoSeat l.initial.self.hub (get l.self.conns at));
      offers : NotCalled (g.S.Sockets.offered l.initial.sockets) (g.S.Sockets.offered l.sockets);
      log : l.self.hub.broadcast ≡ l.initial.self.hub.broadcast;
      places : (at : ℕ) → (get l.self.conns at ≡ get l.initial.self.conns at) ⊎ (get l.self.conns at ≡ None);
      seats : (key : Key) → seat_at l.self.hub.seats.slab key ≡ seat_at l.initial.self.hub.seats.slab key;
      notes : StaysNoted l.initial.self l.self;
      pauses : l.self.accept_at ≡ l.initial.self.accept_at;
    }
