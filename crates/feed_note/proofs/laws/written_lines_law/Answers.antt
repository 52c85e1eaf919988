use Rattle.feed_note.proofs.WrittenLines.{written_line_means}
use Rattle.feed_note.proofs.laws.written_lines_law.Goals as goal

pub returns : goal.returns
returns c = written_line_means c.text_laws.ensures.written c.text_laws.ensures.nesting
