use Rattle.std.proofs.Common.{◌≡◌}
use Rattle.feed_device.specs.Calls.{AnsweredSince}
use Rattle.feed_screens.specs.declared.screens.Screens.{Screens}
use Rattle.feed_live.specs.Calling.{HasBroken, LeavesOnlyFor, ReadsNothing}
use Rattle.feed_live.specs.Relaying.{StillFollows, within_turn}
use Rattle.feed_live.specs.Times.{HeedsTime}
use Rattle.feed_live.proofs.TimesLemmas.{unwritten}
use Rattle.feed_live.proofs.source.Source.ask_rest.Given as goal

abbrev pub invariant-writes : goal.invariant-writes
invariant-writes g l =
    record {
      follows : (screens : Screens) → StillFollows (within_turn (g.L.Link.exchanges l.initial.link) l.initial.self l.initial.self.rest.items screens) (within_turn (g.L.Link.exchanges l.link) l.self l.self.rest.items screens);
      heeds : HeedsTime l.initial.self l.self l.initial.desk.time l.desk.time;
      looks : (g.L.Link.calls l.link).looked ≡ (g.L.Link.calls l.initial.link).looked;
      since : AnsweredSince (g.L.Link.calls l.initial.link).written (g.L.Link.calls l.link).written;
      nothing_read : ReadsNothing l.initial.self l.self (g.L.Link.calls l.initial.link) (g.L.Link.calls l.link);
      leaves : LeavesOnlyFor (HasBroken (g.L.Link.calls l.initial.link).written (g.L.Link.calls l.link).written) l.initial.self l.self;
    }

abbrev pub decreases-writes : goal.decreases-writes
decreases-writes g l = unwritten l.self.request.items l.self.reach
