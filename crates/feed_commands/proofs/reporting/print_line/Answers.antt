use Rattle.std.proofs.Common.{refl}
use Rattle.feed_commands.proofs.ReportingLemmas.{on_ok, line_reported}
use Rattle.feed_commands.proofs.reporting.print_line.Goals as goal

pub returns-clause-lines : goal.returns-clause-lines
returns-clause-lines g c =
    on_ok c.write_all-5.result
    (λ h.
    line_reported _ _ _ _ _ _ _ _ _ _ _ c.in_ok-write_all.ensures.ok c.in_ok-write_all-2.ensures.ok c.in_ok-write_all-3.ensures.ok
    c.in_ok-write_all-4.ensures.ok h refl)
    c.write_all-5.ensures.ok
