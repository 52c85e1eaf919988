use Rattle.std.proofs.Common.{◌≡◌, List, true}
use Rattle.std.specs.Prelude.{Contains}
use Rattle.feed_device.specs.Calls.{NotCalled}
use Rattle.feed_node.specs.States.{NodeState}
use Rattle.feed_screens.specs.Held.{AllKeepInput, SameMirrors}
use Rattle.feed_screens.specs.Serving.{StillServing}
use Rattle.feed_screens.specs.Waiting.{StaysNoted}
use Rattle.feed_screens.proofs.screens.Screens.serve_first.Given as goal

abbrev pub invariant-loop : goal.invariant-loop
invariant-loop g l =
    record {
      mirrors : SameMirrors l.initial.answers l.answers;
      serving : (nodes : List NodeState) → Contains nodes l.initial.answers.shown.mirror.node → (l.shown.is_held ≡ true → Contains nodes l.initial.answers.blank.mirror.node)
          → StillServing nodes l.shown.contest.now l.initial.self l.self (g.S.Sockets.socket l.initial.sockets) (g.S.Sockets.socket l.sockets);
      asks : g.S.Sockets.asked l.sockets ≡ g.S.Sockets.asked l.initial.sockets;
      tries : NotCalled (g.S.Sockets.tried l.initial.sockets) (g.S.Sockets.tried l.sockets);
      input : AllKeepInput l.initial.self.conns l.self.conns;
      time : l.desk.time ≡ l.initial.desk.time;
      notes : StaysNoted l.initial.self l.self;
      pauses : l.self.accept_at ≡ l.initial.self.accept_at;
    }
