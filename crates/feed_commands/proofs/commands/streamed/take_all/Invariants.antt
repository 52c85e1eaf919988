-- What was read so far was taken, in as many reads as turns, and none of them failed.
use Rattle.std.proofs.Common.{◌≡◌}
use Rattle.feed_commands.specs.Streamed.{WasTaken}
use Rattle.feed_commands.proofs.commands.streamed.take_all.Given as goal

abbrev pub invariant-pieces : goal.invariant-pieces
invariant-pieces g l =
    let reader = g.R.FeedRead in
    record {
      taken : WasTaken l.initial.reading.tally.verbose l._turn (reader.remaining l.initial.input) (reader.remaining l.input) l.reading;
      quiet : reader.failures l.input ≡ reader.failures l.initial.input;
    }
