-- What becomes of what is reported: it is kept until somebody takes it, or only counted.
use Rattle.std.specs.Prelude.{◌≡◌, ◌⊎◌, ◌≤◌, ◌+◌, ◌-◌, ◌^◌, min, ◌∷◌, [], ◌++◌, vec_len, vec_capacity}
use Rattle.feed_device.specs.declared.report.Report.{Report}
use Rattle.feed_device.specs.declared.reports.Reports.{Reports}

-- one more is kept
pub record IsKept (old new : Reports) (report : Report) : Type 0 where
  pub kept : new.reports.items ≡ old.reports.items ++ report ∷ []
  pub missed : new.missed ≡ old.missed

-- there are 256, or there was no memory for one more: it is only counted
pub record IsMissed (old new : Reports) : Type 0 where
  pub kept : new.reports.items ≡ old.reports.items
  pub missed : new.missed ≡ min (old.missed + 1) (2 ^ 64 - 1)
  pub full : (256 ≤ vec_len old.reports) ⊎ (vec_capacity old.reports ≤ vec_len old.reports)
