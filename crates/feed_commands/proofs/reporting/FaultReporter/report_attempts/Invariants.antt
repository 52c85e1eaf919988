-- What was reported so far.
use Rattle.feed_commands.specs.Reporting.{HasReported}
use Rattle.feed_commands.proofs.reporting.FaultReporter.report_attempts.Given as goal

abbrev pub invariant-attempts : goal.invariant-attempts
invariant-attempts g l =
    let device = g.E.FeedWrite in
    HasReported (device.failures l.initial.err) (device.failures l.err) l.initial.self.has_failed l.self.has_failed
