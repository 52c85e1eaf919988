-- The numbers so far stand before those of the words that are left.
use Rattle.std.proofs.Common.{◌≡◌, length}
use Rattle.feed_play.specs.Script.{words, numbers_in}
use Rattle.feed_play.proofs.NumberLemmas.{behind}
use Rattle.feed_play.proofs.script.read_numbers.Given as goal

abbrev pub invariant-words : goal.invariant-words
invariant-words l = numbers_in (words l.fn.text) ≡ behind l.numbers.items (numbers_in (words l.left))

abbrev pub decreases-words : goal.decreases-words
decreases-words l = length l.left
