-- What came and went since that was reported last.
use Rattle.std.specs.Prelude.{◌≡◌}
use Rattle.slab.specs.Slab.{slab_len}
use Rattle.feed_device.specs.declared.report.Report.{Report}
use Rattle.feed_device.specs.declared.report.Report.TheVariants as report
use Rattle.feed_screens.specs.declared.counts.Counts.{Counts}
use Rattle.feed_screens.specs.declared.screens.Screens.{Screens}

abbrev pub none_counted : Counts
none_counted = record { came = 0; ended = 0; cut = 0 }

-- how many there are, and how many came, ended and were cut
abbrev pub IsReportOf : Screens → Report → Type 0
IsReportOf screens told =
    told ≡ report.Screens (slab_len screens.conns) screens.counts.came screens.counts.ended
    screens.counts.cut
