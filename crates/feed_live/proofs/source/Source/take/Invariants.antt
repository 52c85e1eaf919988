use Rattle.std.proofs.Common.{◌≡◌, [], length}
use Rattle.feed_live.specs.Relaying.{StillFollows, within_turn}
use Rattle.feed_live.specs.Times.{HeedsTime}
use Rattle.feed_live.specs.declared.source.Reach.TheVariants.{Reads}
use Rattle.feed_live.proofs.source.Source.take.Given as goal

abbrev pub invariant-lines : goal.invariant-lines
invariant-lines g l =
    record {
      follows : l.initial.self.reach ≡ Reads → l.initial.self.rest.items ≡ []
          → (l.self.reach ≡ Reads) × (l.self.rest.items ≡ []) × StillFollows (within_turn (g.L.Link.exchanges l.initial.link) l.initial.self l.initial.rest l.initial.screens) (within_turn (g.L.Link.exchanges l.link) l.self l.rest l.screens);
      heeds : HeedsTime l.initial.self l.self l.initial.desk.time l.desk.time;
      calls : g.L.Link.calls l.link ≡ g.L.Link.calls l.initial.link;
      reach : l.self.reach ≡ l.initial.self.reach;
      kept : l.self.rest.items ≡ l.initial.self.rest.items;
    }

abbrev pub decreases-lines : goal.decreases-lines
decreases-lines g l = length l.rest
