use Rattle.feed_note.proofs.Openings.{few_openings}
use Rattle.feed_note.proofs.Spelt.{small_object, too_large_by_nesting}
use Rattle.feed_note.proofs.content.is_too_large.Goals as goal

pub returns-then-text : goal.returns-then-text
returns-then-text c = λ v h k e. small_object c.args.text.now v e c.if-text.true

pub returns-then-openings-lt-TOO_DEEP : goal.returns-then-openings-lt-TOO_DEEP
returns-then-openings-lt-TOO_DEEP c = λ v h k e. few_openings c.args.text.now v e c.if-text-gt-OBJECT_BYTES.false (rw c.openings.ensures at c.if-openings-lt-TOO_DEEP.true)

pub returns : goal.returns
returns c = λ v h k e. too_large_by_nesting c.text_laws.ensures.nesting 101 c.args.text.now v h k e c.if-text-gt-OBJECT_BYTES.false c.nests_to.result c.nests_to.ensures
