use Rattle.std.proofs.Common.{ap, ◌∙◌, ◌++◌, take}
use Rattle.std.specs.Prelude.{flat_map}
use Rattle.feed_text.specs.Strings.{written_byte}
use Rattle.feed_commands.proofs.PrintingLemmas.{tells_then, tells_as, flat_map_more}
use Rattle.feed_commands.proofs.printing.Waiting.put_escaped.Goals as goal

pub bytes-preserved : goal.bytes-preserved
bytes-preserved g c =
    let before = flat_map written_byte (take c.bytes.byte-index c.args.text.now) in
    let more = ap (λ l. before ++ l) (c.as_slice.ensures.value ∙ c.written_byte.ensures) in
    tells_as _ _ _ _ _ _ _ _ (more ∙ flat_map_more written_byte _ _ _ c.bytes-test.true)
    (tells_then _ _ _ _ _ _ _ _ _ _ _ c.bytes.invariant c.put.ensures)
