-- The connections so far were served, and reported of.
use Rattle.std.proofs.Common.{false}
use Rattle.feed_http.specs.Live.{intake_of}
use Rattle.feed_relay.specs.Dialing.{links_of}
use Rattle.feed_commands.specs.Serve.{turn_of, serve_service, serving, ServesAll}
use Rattle.feed_commands.specs.Reporting.{HasReported}
use Rattle.feed_commands.proofs.commands.serve.serve_all.Given as goal

abbrev pub invariant-connections : goal.invariant-connections
invariant-connections g l =
    let device = g.E.FeedWrite in
    record {
      served : ServesAll
          (links_of g.A.Accept g.A.Reader.FeedRead g.A.Writer.FeedWrite)
          (turn_of l.options.turn) (serve_service l.options) l._made
          (serving (intake_of l.initial.source.primary l.initial.source.waiting.items) l.initial.listener)
          (serving (intake_of l.source.primary l.source.waiting.items) l.listener);
      reported : HasReported (device.failures l.initial.err) (device.failures l.err) false l.reporter.has_failed;
    }
