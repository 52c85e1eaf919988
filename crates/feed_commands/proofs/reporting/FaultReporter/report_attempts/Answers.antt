use Rattle.std.proofs.Common.{inl, refl}
use Rattle.feed_commands.proofs.ReportingLemmas.{reported_then}
use Rattle.feed_commands.proofs.reporting.FaultReporter.report_attempts.Goals as goal

pub attempts-init : goal.attempts-init
attempts-init g c = inl (refl, refl)

pub attempts-preserved : goal.attempts-preserved
attempts-preserved g c = reported_then _ _ _ _ _ _ c.attempts.invariant c.report_attempt.ensures
