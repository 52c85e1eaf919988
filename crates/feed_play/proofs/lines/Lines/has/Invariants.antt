-- So many lines are gone from the rest.
use Rattle.std.proofs.Common.{◌≡◌, ◌+◌, length}
use Rattle.feed_note.specs.Lines.{lines}
use Rattle.feed_play.proofs.lines.Lines.has.Given as goal

abbrev pub invariant-lines : goal.invariant-lines
invariant-lines l = length (lines l.initial.rest) ≡ l._line + length (lines l.rest)
