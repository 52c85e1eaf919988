use Rattle.std.proofs.Common.{◌≡◌, ◌⊎◌, ℕ, List, true}
use Rattle.feed_device.specs.Calls.{CalledAtLeastOnce}
use Rattle.feed_node.specs.States.{NodeState}
use Rattle.feed_screens.specs.Serving.{StillServing}
use Rattle.feed_screens.proofs.screens.Screens.accept.Given as goal

abbrev pub invariant-loop : goal.invariant-loop
invariant-loop g l =
    record {
      serving : (nodes : List NodeState) (contest : List ℕ)
          → StillServing nodes contest l.initial.self l.self (g.S.Sockets.socket l.initial.sockets) (g.S.Sockets.socket l.sockets);
      notes : (l.initial.self.has_more ≡ true → l.self.has_more ≡ true) × (l.initial.self.is_waited ≡ true → l.self.is_waited ≡ true);
      asked : ((l.counter ≡ 0) × (g.S.Sockets.asked l.sockets ≡ g.S.Sockets.asked l.initial.sockets))
          ⊎ CalledAtLeastOnce (g.S.Sockets.asked l.initial.sockets) (g.S.Sockets.asked l.sockets);
    }
