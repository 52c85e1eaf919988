use Rattle.feed_note.proofs.Decided.{meaning_or_reason}
use Rattle.feed_note.proofs.LinesCut.{lines_cut, lines_are_the_only_cut}
use Rattle.feed_note.proofs.LongLines.{long_next_stays}
use Rattle.feed_note.proofs.Meant.{notes_have_changes}
use Rattle.feed_note.proofs.OneMeaning.{only_one}
use Rattle.feed_note.proofs.laws.line_laws.Goals as goal

pub returns : goal.returns
returns c = record {
  cut = lines_cut;
  only_cut = lines_are_the_only_cut;
  one_meaning = only_one c.text_laws.ensures.object;
  decided = meaning_or_reason c.text_laws.ensures.decided;
  changes = notes_have_changes;
  long_stays = long_next_stays;
}
