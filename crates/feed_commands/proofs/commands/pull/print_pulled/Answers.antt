use Rattle.std.proofs.Common.{subst}
use Rattle.feed_commands.specs.Reporting.{HasReported}
use Rattle.feed_commands.proofs.PullLemmas.{unreported}
use Rattle.feed_commands.proofs.ReportingLemmas.{not_reported}
use Rattle.feed_commands.proofs.commands.pull.print_pulled.Goals as goal

pub returns-clause-err : goal.returns-clause-err
returns-clause-err g c =
    let device = g.E.FeedWrite in
    let reported = subst (λ b. HasReported (device.failures c.args.err.now) (device.failures c.report_earlier.new.err) b c.report_earlier.new.self.has_failed)
    c.new-reporter.ensures c.report_earlier.ensures in
    unreported _ _ _ _ _ _ _ _ c.in_ok-attempts.attempts.items c.in_ok-attempts.ensures.followed
    c.report_earlier.new.self.has_failed (not_reported _ _ _ reported) c.in_default.ensures.ok c.outcome-2.result
    c.outcome-2.ensures.err
