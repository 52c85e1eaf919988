-- What was written are the frames of the commits that the session was sent.
use Rattle.std.proofs.Common.{◌≡◌, List, length}
use Rattle.std.specs.Io.KnownBytes.{Appends}
use Rattle.feed_node.specs.declared.commit.Commit.{Commit}
use Rattle.feed_http.specs.Device.{counted}
use Rattle.feed_http.specs.Serving.{commit_frames}
use Rattle.feed_http.specs.Sending.{Sent}
use Rattle.feed_http.proofs.ServingLemmas.{ahead}
use Rattle.feed_http.proofs.serving.send_commits.Given as goal

abbrev pub invariant-commits : goal.invariant-commits
invariant-commits g l =
    let writer = g.W.FeedWrite in
    record {
      run : (sent : List Commit) × Sent l.node.shown l.initial.session sent l.session × (l.count ≡ counted 0 (length sent))
          × Appends (writer.contents l.initial.writer) (writer.contents l.writer) (commit_frames l.framing sent);
      quiet : writer.failures l.writer ≡ writer.failures l.initial.writer;
    }

abbrev pub decreases-commits : goal.decreases-commits
decreases-commits g l = ahead l.node.shown l.session
