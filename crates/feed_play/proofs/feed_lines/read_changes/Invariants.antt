-- Feed lines were read, and no line is lost.
use Rattle.std.proofs.Common.{◌≡◌, ◌≤◌}
use Rattle.feed_play.specs.Lines.{all_lines}
use Rattle.feed_play.specs.FeedLines.{TakesFeed}
use Rattle.feed_play.proofs.feed_lines.read_changes.Given as goal

abbrev pub invariant-lines : goal.invariant-lines
invariant-lines l = record {
  taken : TakesFeed l.initial.lines l.lines l._line l.changes.items;
  all : all_lines l.lines ≡ all_lines l.initial.lines;
  later : l.initial.lines.read ≤ l.lines.read;
}
