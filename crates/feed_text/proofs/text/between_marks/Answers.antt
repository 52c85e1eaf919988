use Rattle.std.proofs.Common.{subst, sym}
use Rattle.feed_text.specs.Strings.{Says}
use Rattle.feed_text.proofs.Plain.{between_says, between_utf8}
use Rattle.feed_text.proofs.text.between_marks.Goals as goal

pub from_utf8_unchecked-requires : goal.from_utf8_unchecked-requires
from_utf8_unchecked-requires c = between_utf8 c.args.slice.now c.requires.string c.requires.plain c.requires.utf8

pub returns : goal.returns
returns c = subst (Says c.args.slice.now) (sym c.from_utf8_unchecked.ensures) (between_says c.args.slice.now c.requires.string c.requires.plain)
