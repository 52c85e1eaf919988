use Rattle.std.proofs.Common.{◌≡◌, ℕ, List}
use Rattle.feed_node.specs.States.{NodeState}
use Rattle.feed_device.specs.Sockets.{AllSockets}
use Rattle.feed_screens.specs.Serving.{StillServing}
use Rattle.feed_screens.specs.Waiting.{StaysNoted}
use Rattle.feed_screens.proofs.screens.Screens.idle.Given as goal

abbrev pub invariant-loop-at : goal.invariant-loop-at
invariant-loop-at l =
    record {
      serving : (nodes : List NodeState) (contest : List ℕ) (sockets : AllSockets)
          → StillServing nodes contest l.initial.self l.self sockets sockets;
      notes : StaysNoted l.initial.self l.self;
      pauses : l.self.accept_at ≡ l.initial.self.accept_at;
    }
