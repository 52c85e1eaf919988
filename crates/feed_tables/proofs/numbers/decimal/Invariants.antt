-- The bytes so far were read as digits, and the rest is to be.
use Rattle.std.proofs.Common.{◌≡◌, drop}
use Rattle.feed_tables.specs.Numbers.{decimal}
use Rattle.feed_tables.proofs.numbers.decimal.Given as goal

abbrev pub invariant-loop-byte : goal.invariant-loop-byte
invariant-loop-byte l = decimal 0 l.fn.bytes ≡ decimal l.number (drop l.byte-index l.fn.bytes)
