use Rattle.std.proofs.Common.{◌≡◌, ◌<◌, ℕ, List}
use Rattle.feed_device.specs.Calls.{NotCalled}
use Rattle.feed_node.specs.States.{NodeState}
use Rattle.feed_screens.specs.Serving.{StillServing}
use Rattle.feed_screens.specs.Waiting.{StaysNoted, IsOverdueAt}
use Rattle.feed_screens.proofs.RoomLemmas.{RefusesOverdue}
use Rattle.feed_screens.proofs.screens.Screens.refuse_overdue.Given as goal

abbrev pub invariant-loop-at : goal.invariant-loop-at
invariant-loop-at g l =
    record {
      serving : (nodes : List NodeState) (contest : List ℕ)
          → StillServing nodes contest l.initial.self l.self (g.S.Sockets.socket l.initial.sockets) (g.S.Sockets.socket l.sockets);
      time : l.desk.time ≡ l.initial.desk.time;
      asks : g.S.Sockets.asked l.sockets ≡ g.S.Sockets.asked l.initial.sockets;
      tries : NotCalled (g.S.Sockets.tried l.initial.sockets) (g.S.Sockets.tried l.sockets);
      gone : (at : ℕ) → at < l.at → ¬ (IsOverdueAt l.self at l.initial.desk.time);
      refuses : RefusesOverdue l.initial.self l.self l.initial.desk.time;
      notes : StaysNoted l.initial.self l.self;
      pauses : l.self.accept_at ≡ l.initial.self.accept_at;
    }
