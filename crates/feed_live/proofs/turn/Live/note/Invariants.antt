use Rattle.std.specs.Prelude.{◌≡◌}
use Rattle.feed_device.specs.Sockets.{AllSockets}
use Rattle.feed_live.specs.Relaying.{OnlyServes}
use Rattle.feed_live.specs.Ending.{SameBeside}
use Rattle.feed_live.proofs.turn.Live.note.Given as goal

abbrev pub invariant-loop-event : goal.invariant-loop-event
invariant-loop-event l =
    record {
      serves : (sockets : AllSockets) → OnlyServes l.initial.self l.self sockets sockets;
      saved : SameBeside l.initial.self l.self;
      desk : l.self.desk ≡ l.initial.self.desk;
      source : l.self.source ≡ l.initial.self.source;
      waits : l.self.screens.saying ≡ l.initial.self.screens.saying;
    }
