use Rattle.std.proofs.Common.{◌≡◌}
use Rattle.feed_device.specs.Calls.{AnsweredSince}
use Rattle.feed_live.specs.Calling.{ReadAtOnce, KeepsNothing, LeavesOnlyFor}
use Rattle.feed_live.specs.Relaying.{StillFollows, within_turn}
use Rattle.feed_live.specs.Times.{HeedsTime}
use Rattle.feed_live.proofs.source.Source.read_more.Given as goal

abbrev pub invariant-loop : goal.invariant-loop
invariant-loop g l =
    record {
      follows : StillFollows (within_turn (g.L.Link.exchanges l.initial.link) l.initial.self l.initial.self.rest.items l.initial.screens) (within_turn (g.L.Link.exchanges l.link) l.self l.self.rest.items l.screens);
      heeds : HeedsTime l.initial.self l.self l.initial.desk.time l.desk.time;
      looks : (g.L.Link.calls l.link).looked ≡ (g.L.Link.calls l.initial.link).looked;
      begun : (g.L.Link.calls l.link).begun ≡ (g.L.Link.calls l.initial.link).begun;
      written : (g.L.Link.calls l.link).written ≡ (g.L.Link.calls l.initial.link).written;
      keeps : KeepsNothing l.initial.self l.initial.screens.saying.waits → KeepsNothing l.self l.screens.saying.waits;
      since : AnsweredSince (g.L.Link.calls l.initial.link).read (g.L.Link.calls l.link).read;
      leaves : LeavesOnlyFor (ReadAtOnce (g.L.Link.calls l.initial.link).read (g.L.Link.calls l.link).read) l.initial.self l.self;
    }
