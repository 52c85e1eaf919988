-- The rounds so far were made, and reported of.
use Rattle.std.proofs.Common.{false}
use Rattle.feed_relay.specs.Dialing.{dialer_of, links_of}
use Rattle.feed_relay.specs.First.{dialing}
use Rattle.feed_commands.specs.Relay.{relay_service, relaying, MakesRounds}
use Rattle.feed_commands.specs.Reporting.{HasReported}
use Rattle.feed_commands.proofs.commands.relay.print_relayed.Given as goal

abbrev pub invariant-rounds : goal.invariant-rounds
invariant-rounds g l =
    let device = g.E.FeedWrite in
    record {
      made : MakesRounds
          (dialer_of g.D.Dial g.D.Reader.FeedRead g.D.Writer.FeedWrite)
          (links_of g.A.Accept g.A.Reader.FeedRead g.A.Writer.FeedWrite)
          l.asked.servers.now l.asked.options.now.pull.most_reads (relay_service l.asked.options.now) l._made
          (relaying (dialing l.initial.mirror l.initial.network.dial) l.initial.network.listener)
          (relaying (dialing l.mirror l.network.dial) l.network.listener);
      reported : HasReported (device.failures l.initial.err) (device.failures l.err) false l.reporter.has_failed;
    }
