-- The servers so far were asked, and there is room for two attempts at each of the others.
use Rattle.std.proofs.Common.{◌≡◌, ◌≤◌, ◌*◌, length, take, None, vec_capacity}
use Rattle.feed_relay.specs.Dialing.{dialer_of}
use Rattle.feed_relay.specs.First.{AsksEach, dialing}
use Rattle.feed_relay.proofs.first.follow_first.Given as goal

abbrev pub invariant-servers : goal.invariant-servers
invariant-servers g l =
    record {
      goes : AsksEach (dialer_of g.D.Dial g.D.Reader.FeedRead g.D.Writer.FeedWrite)
          l.most_reads (dialing l.initial.mirror l.initial.dial) (take l.number l.servers)
          l.attempts.items (dialing l.mirror l.dial);
      few : length l.attempts.items ≤ l.number * 2;
      room : length l.servers * 2 ≤ vec_capacity l.attempts;
      cut : l.initial.mirror.connection ≡ None → l.mirror.connection ≡ None;
    }
