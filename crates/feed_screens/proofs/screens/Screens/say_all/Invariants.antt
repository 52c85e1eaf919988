use Rattle.std.proofs.Common.{◌≡◌, ℕ, List, None}
use Rattle.std.specs.Prelude.{Contains}
use Rattle.feed_node.specs.States.{NodeState}
use Rattle.feed_device.specs.Sockets.{AllSockets}
use Rattle.feed_screens.specs.Serving.{StillServing, AllEnd, MakesDue}
use Rattle.feed_screens.specs.Waiting.{SameToDo}
use Rattle.feed_screens.proofs.screens.Screens.say_all.Given as goal

abbrev pub invariant-loop : goal.invariant-loop
invariant-loop l =
    record {
      serving : (nodes : List NodeState) (contest : List ℕ) (sockets : AllSockets) → Contains nodes l.node.shown
          → StillServing nodes contest l.initial.self l.self sockets sockets;
      ended : AllEnd l.initial.self.hub → AllEnd l.self.hub;
      waits : l.initial.self.saying.waits ≡ None → l.self.saying.waits ≡ None;
      most : l.self.hub.most ≡ l.initial.self.hub.most;
      to_do : SameToDo l.initial.self l.self;
      due : MakesDue l.initial.self l.self;
      trimmed : l.self.saying.is_trimmed ≡ l.initial.self.saying.is_trimmed;
    }
