use Rattle.feed_commands.proofs.ReportingLemmas.{on_ok, lines_more}
use Rattle.feed_commands.proofs.reporting.print_more.Goals as goal

pub returns-clause-lines : goal.returns-clause-lines
returns-clause-lines g c = on_ok c.print_line.result (λ h. lines_more _ _ _ c.in_ok-print_fault.ensures.lines h) c.print_line.ensures.lines
