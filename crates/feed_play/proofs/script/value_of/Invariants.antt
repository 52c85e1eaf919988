-- The number is what the digits so far say.
use Rattle.std.proofs.Common.{◌≡◌, take}
use Rattle.std.specs.Str.Parse.{digits_value}
use Rattle.feed_play.proofs.script.value_of.Given as goal

abbrev pub invariant-digits : goal.invariant-digits
invariant-digits l = l.number ≡ digits_value 10 (take l.digit-index l.digits)
