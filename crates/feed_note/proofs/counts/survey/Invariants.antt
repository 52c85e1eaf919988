-- The lines that were read are counted.
use Rattle.std.proofs.Common.{◌≡◌, List, length}
use Rattle.feed_note.specs.Counts.{counts_of}
use Rattle.feed_note.specs.declared.line.Line.{Line}
use Rattle.feed_note.proofs.ReadSoFar.{ReadSoFar}
use Rattle.feed_note.proofs.counts.survey.Given as goal

abbrev pub invariant-lines : goal.invariant-lines
invariant-lines l = record {
  notes : List Line;
  so_far : ReadSoFar l.fn.bytes l.rest notes;
  counts : l.counts ≡ counts_of notes 0;
}

abbrev pub decreases-lines : goal.decreases-lines
decreases-lines l = length l.rest
