use Rattle.std.proofs.Common.{arith}
use Rattle.feed_play.proofs.NumberLemmas.{digit, value_more, value_small}
use Rattle.feed_play.proofs.script.value_of.Goals as goal

pub overflow_mul-number : goal.overflow_mul-number
overflow_mul-number c =
    let small = value_small c.args.digits.now c.digits.digit-index c.requires c.digits-test.true in
    omega (arith, small, c.digits.invariant)

pub overflow_add-number : goal.overflow_add-number
overflow_add-number c =
    let small = value_small c.args.digits.now c.digits.digit-index c.requires c.digits-test.true in
    let said = digit c.args.digits.now c.digits.digit-index c.requires c.digits-test.true in
    omega (arith, small, said, c.digits.invariant, c.from.ensures)

pub digits-preserved : goal.digits-preserved
digits-preserved c =
    let more = value_more c.args.digits.now c.digits.digit-index c.digits-test.true in
    let said = digit c.args.digits.now c.digits.digit-index c.requires c.digits-test.true in
    omega (arith, more, said, c.digits.invariant, c.from.ensures)
