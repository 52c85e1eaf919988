-- The lines of the pieces so far are cut off.
use Rattle.std.proofs.Common.{◌≡◌, [], take}
use Rattle.feed_note.specs.Lines.{lines, rest}
use Rattle.feed_note.specs.Pieces.{IsCutOff, IsShort, joined, texts_of}
use Rattle.feed_note.proofs.pieces.lines_of_pieces.Given as goal

abbrev pub invariant-loop-piece : goal.invariant-loop-piece
invariant-loop-piece l = record {
  cut : IsCutOff (joined (take l.piece-index l.pieces)) (texts_of l.all.items) l.splitter;
  none : lines l.splitter ≡ [];
  short : IsShort (rest l.splitter);
}
