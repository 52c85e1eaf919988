-- The session was sent what was written, and keeps its token unless a turn was long.
use Rattle.std.proofs.Common.{◌≡◌, ◌≤◌, List, length}
use Rattle.std.specs.Prelude.{◌⊎◌}
use Rattle.std.specs.Io.KnownBytes.{Appends}
use Rattle.feed_node.specs.declared.commit.Commit.{Commit}
use Rattle.feed_http.specs.Device.{counted}
use Rattle.feed_http.specs.Serving.{commit_frames}
use Rattle.feed_http.specs.Live.{intake_of, HasSent, IsLongTurn, MayLoseTokens}
use Rattle.feed_http.specs.Taking.{IsHeld}
use Rattle.feed_http.proofs.LiveLemmas.{IsBehindTurns}
use Rattle.feed_http.proofs.LostLemmas.{IsPast}
use Rattle.feed_http.proofs.live.send_live.Given as goal

abbrev pub invariant-turns : goal.invariant-turns
invariant-turns g l =
    let writer = g.W.FeedWrite in
    let start = intake_of l.initial.primary l.initial.input.items in
    let now = intake_of l.primary l.input.items in
    record {
      run : (sent : List Commit) × HasSent l.terms.turn start l.initial.session sent now l.session × (l.count ≡ counted 0 (length sent))
          × Appends (writer.contents l.initial.writer) (writer.contents l.writer) (commit_frames l.terms.framing sent);
      quiet : writer.failures l.writer ≡ writer.failures l.initial.writer;
      held : IsHeld start.primary.node l.initial.session → MayLoseTokens l.terms.turn start ⊎ IsHeld now.primary.node l.session;
      lost : IsLongTurn l.terms.turn start → (now ≡ start) ⊎ IsPast start now.primary l.session;
      limits : now.primary.limits ≡ start.primary.limits;
      behind : IsBehindTurns l.terms.turn start now;
    }

abbrev pub decreases-turns : goal.decreases-turns
decreases-turns g l = length l.input.items
