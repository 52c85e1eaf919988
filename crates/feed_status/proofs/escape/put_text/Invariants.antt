-- What stands for the bytes so far was appended.
use Rattle.std.proofs.Common.{◌≡◌, ◌++◌, take}
use Rattle.feed_status.specs.Escape.{escaped}
use Rattle.feed_status.proofs.escape.put_text.Given as goal

abbrev pub invariant-bytes : goal.invariant-bytes
invariant-bytes l = l.out.items ≡ l.initial.out.items ++ escaped (take l.byte-index l.text)
