use Rattle.std.proofs.Common.{arith, sym, ◌∙◌}
use Rattle.feed_wire.proofs.ChunkReading.{digit_room, hex_value_small}
use Rattle.feed_wire.proofs.chunk.in_digits.Goals as goal

pub overflow_mul-result : goal.overflow_mul-result
overflow_mul-result c =
    let room = digit_room c.args.length c.args.size c.requires (omega arith) in
    omega arith

pub overflow_add-result-in-Some : goal.overflow_add-result-in-Some
overflow_add-result-in-Some c =
    let room = digit_room c.args.length c.args.size c.requires (omega arith) in
    let small = hex_value_small c.args.byte c.in-Some.digit (sym c.hex_value.ensures
    ∙ c.in-Some.is) in
    omega arith
