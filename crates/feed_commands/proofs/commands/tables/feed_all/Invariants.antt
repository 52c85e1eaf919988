-- What was read so far was fed, in as many reads as turns, and none of them failed.
use Rattle.std.proofs.Common.{◌≡◌, []}
use Rattle.feed_http.specs.Device.{RoseBy}
use Rattle.feed_commands.specs.Tables.{FedSoFar}
use Rattle.feed_commands.proofs.commands.tables.feed_all.Given as goal

abbrev pub invariant-pieces : goal.invariant-pieces
invariant-pieces g l =
    let reader = g.R.FeedRead in
    record {
      stands : FedSoFar l.initial.mirror.limits l._turn (reader.remaining l.initial.input) (reader.remaining l.input) [] l.mirror;
      reads : RoseBy (reader.reads l.initial.input) (reader.reads l.input) l._turn;
      quiet : reader.failures l.input ≡ reader.failures l.initial.input;
    }
