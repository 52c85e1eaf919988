-- The lines that were taken are cut off.
use Rattle.std.proofs.Common.{◌≡◌, ℕ, List, ◌++◌, length}
use Rattle.feed_note.specs.Pieces.{IsCutOff, texts_of}
use Rattle.feed_note.proofs.pieces.take_lines.Given as goal

abbrev pub invariant-lines : goal.invariant-lines
invariant-lines l = record {
  taken : List (List ℕ);
  cut : IsCutOff l.fn.splitter taken l.splitter;
  gained : texts_of l.all.items ≡ texts_of l.fn.all.items ++ taken;
}

abbrev pub decreases-lines : goal.decreases-lines
decreases-lines l = length l.splitter
