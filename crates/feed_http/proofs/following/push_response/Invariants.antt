-- The response goes on behind the bytes that came in the turns so far.
use Rattle.std.proofs.Common.{◌≡◌}
use Rattle.feed_http.specs.Device.{RoseBy}
use Rattle.feed_http.proofs.FollowingLemmas.{GoesOnAt}
use Rattle.feed_http.proofs.following.push_response.Given as goal

abbrev pub invariant-pieces : goal.invariant-pieces
invariant-pieces g l =
    let reader = g.R.FeedRead in
    record {
      goes : GoesOnAt (reader.remaining l.initial.reader) (reader.remaining l.reader)
          l.initial.mirror l.at_end l.follower l.mirror;
      reads : RoseBy (reader.reads l.initial.reader) (reader.reads l.reader) l.counter;
      quiet : reader.failures l.reader ≡ reader.failures l.initial.reader;
    }
