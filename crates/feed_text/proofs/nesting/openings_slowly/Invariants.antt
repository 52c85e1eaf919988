use Rattle.std.proofs.Common.{◌≡◌, ◌≤◌, count_by, take}
use Rattle.feed_text.specs.Nesting.{is_opening}
use Rattle.feed_text.proofs.nesting.openings_slowly.Given as goal

abbrev pub invariant-loop-byte : goal.invariant-loop-byte
invariant-loop-byte l = record {
  exact : l.found ≡ count_by is_opening (take l.byte-index l.text);
  few : l.found ≤ l.byte-index;
}
