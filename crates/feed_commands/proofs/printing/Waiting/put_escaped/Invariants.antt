-- What stands for the bytes so far was written.
use Rattle.std.proofs.Common.{take}
use Rattle.std.specs.Prelude.{flat_map}
use Rattle.feed_text.specs.Strings.{written_byte}
use Rattle.feed_commands.specs.Printing.{WritesText}
use Rattle.feed_commands.proofs.printing.Waiting.put_escaped.Given as goal

abbrev pub invariant-bytes : goal.invariant-bytes
invariant-bytes g l =
    let writer = g.W.FeedWrite in
    WritesText (writer.contents l.initial.device) (writer.contents l.device)
    (writer.failures l.initial.device) (writer.failures l.device) l.initial.self l.self
    (flat_map written_byte (take l.byte-index l.text))
