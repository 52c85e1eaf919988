use Rattle.std.proofs.Common.{◌≡◌}
use Rattle.feed_live.specs.Relaying.{OnlyServes}
use Rattle.feed_live.specs.Ending.{SameBeside}
use Rattle.feed_live.proofs.turn.Live.serve.Given as goal

abbrev pub invariant-loop-event : goal.invariant-loop-event
invariant-loop-event g l =
    record {
      serves : OnlyServes l.initial.self l.self (g.S.Sockets.socket l.initial.sockets) (g.S.Sockets.socket l.sockets);
      asks : g.S.Sockets.asked l.sockets ≡ g.S.Sockets.asked l.initial.sockets;
      saved : SameBeside l.initial.self l.self;
    }
