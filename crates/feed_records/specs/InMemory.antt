-- What contracts see of a text in memory whose lines are read.
use Rattle.std.specs.Prelude.{ℕ, List}
use Rattle.feed_records.specs.declared.text_lines.TextLines.{TextLines}

-- the whole of it
abbrev pub whole_text : TextLines → List ℕ
whole_text lines = lines.text.now

-- what is left
abbrev pub text_left : TextLines → List ℕ
text_left lines = lines.rest.now
