-- The bytes so far are digits, which give this number.
use Rattle.feed_follow.proofs.CodingLemmas.{AreDigits}
use Rattle.feed_follow.proofs.coding.length_in.Given as goal

abbrev pub invariant-digits : goal.invariant-digits
invariant-digits l = AreDigits l.text l.byte-index l.length
