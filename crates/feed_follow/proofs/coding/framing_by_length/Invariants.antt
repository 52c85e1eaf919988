-- What the fields so far gave, and then the rest.
use Rattle.std.proofs.Common.{◌≡◌, drop, map}
use Rattle.httparse.specs.Borrowed.{header_parts}
use Rattle.feed_follow.specs.declared.coding.BodyFraming.TheVariants.{ToEnd}
use Rattle.feed_follow.proofs.CodingLemmas.{lengths_of}
use Rattle.feed_follow.proofs.coding.framing_by_length.Given as goal

abbrev pub invariant-fields : goal.invariant-fields
invariant-fields l = lengths_of ToEnd (map header_parts l.fields) ≡ lengths_of l.framing
    (map header_parts (drop l.field-index l.fields))
