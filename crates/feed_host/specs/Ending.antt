-- The status that a command of the network ends with.
use Rattle.std.specs.Prelude.{ℕ}
use Rattle.feed_commands.specs.Fault.{status_of}
use Rattle.feed_host.specs.declared.ending.Why.{Why}
use Rattle.feed_host.specs.declared.ending.Why.TheVariants as why

-- that of its fault, and 1 if its options can't be taken
abbrev pub status_for : Why → ℕ
status_for (why.Fault fault more) = status_of fault
status_for (why.At fault host port) = status_of fault
status_for (why.About fault what) = status_of fault
status_for (why.ReportedAs fault text) = status_of fault
status_for (why.Told fault text) = status_of fault
status_for (why.Refused text) = 1
status_for (why.RefusedFor text) = 1
