use Rattle.feed_note.proofs.LineEnds.{found_first}
use Rattle.feed_note.proofs.cut.line_feed_in.Goals as goal

pub returns : goal.returns
returns c = found_first c.args.text.now c.memchr.result c.memchr.ensures
