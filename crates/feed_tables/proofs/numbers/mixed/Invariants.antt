-- The bytes so far were mixed in, and the rest is to be.
use Rattle.std.proofs.Common.{◌≡◌, length}
use Rattle.feed_tables.specs.Numbers.{mixed}
use Rattle.feed_tables.proofs.numbers.mixed.Given as goal

abbrev pub invariant-words : goal.invariant-words
invariant-words l = mixed 0 l.fn.text ≡ mixed l.number l.rest

abbrev pub decreases-words : goal.decreases-words
decreases-words l = length l.rest
