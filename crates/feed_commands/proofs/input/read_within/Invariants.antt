-- What was read so far is there, and none of the reads found the end.
use Rattle.std.proofs.Common.{◌≡◌, ◌+◌, ◌-◌, [], vec_len}
use Rattle.feed_http.specs.Device.{Moved}
use Rattle.feed_commands.proofs.input.read_within.Given as goal

abbrev pub invariant-pieces : goal.invariant-pieces
invariant-pieces g l =
    let reader = g.R.FeedRead in
    record {
      given : Moved (reader.remaining l.initial.input) (reader.remaining l.input) [] l.bytes.items;
      quiet : reader.failures l.input ≡ reader.failures l.initial.input;
    }

abbrev pub decreases-pieces : goal.decreases-pieces
decreases-pieces g l = l.most + 1 - vec_len l.bytes
