-- What contracts see of a record that is read line by line.
use Rattle.feed_commands.specs.declared.record_lines.RecordLines.{RecordLines}

-- which record it is
abbrev pub record_of : {R Reader : Type 0} → RecordLines R Reader → R
record_of lines = lines.source
