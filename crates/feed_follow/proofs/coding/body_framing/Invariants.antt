-- What the fields so far said, and then the rest.
use Rattle.std.proofs.Common.{◌≡◌, drop, map, false}
use Rattle.httparse.specs.Borrowed.{header_parts}
use Rattle.feed_follow.proofs.CodingLemmas.{by_codings}
use Rattle.feed_follow.proofs.coding.body_framing.Given as goal

abbrev pub invariant-fields : goal.invariant-fields
invariant-fields l = by_codings false (map header_parts l.fields) ≡ by_codings l.is_chunked
    (map header_parts (drop l.field-index l.fields))
