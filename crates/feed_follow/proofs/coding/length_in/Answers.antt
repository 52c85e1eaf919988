use Rattle.std.proofs.Common.{◌≡◌, get_or, true, refl, sym, ◌∙◌, ap, subst, arith, lit<, rules, take}
use Rattle.std.specs.Prelude.{Some}
use Rattle.std.specs.List.{list_all}
use Rattle.std.proofs.lemmas.List.{take_all}
use Rattle.std.specs.Char.{is_ascii_digit}
use Rattle.std.specs.Str.Parse.{digits_value}
use Rattle.feed_follow.proofs.CodingLemmas.{decimal_room, more_digits, digit_is, is_whole_length}
use Rattle.feed_follow.proofs.coding.length_in.Goals as goal

pub overflow_mul-length : goal.overflow_mul-length
overflow_mul-length c =
    let room = decimal_room c.digits.byte-index c.digits.length c.digits.invariant.small
    (omega arith) in
    omega arith

pub overflow_add-length : goal.overflow_add-length
overflow_add-length c =
    let room = decimal_room c.digits.byte-index c.digits.length c.digits.invariant.small
    (omega arith) in
    let byte = get_or c.args.text.now c.digits.byte-index 0 in
    let (low, high) = c.if-not-is_ascii_digit.ensures.cases in
    omega (arith, c.from.ensures)

pub digits-init : goal.digits-init
digits-init c = record { digits = refl; value = refl; small = lit< tt }

pub digits-preserved : goal.digits-preserved
digits-preserved c =
    let byte = get_or c.args.text.now c.digits.byte-index 0 in
    let is : is_ascii_digit byte ≡ true = sym c.if-not-is_ascii_digit.ensures.value in
    let (low, high) = c.if-not-is_ascii_digit.ensures.cases in
    more_digits c.args.text.now c.digits.byte-index c.digits.length c.from.result c.digits-test.true
    c.digits.invariant is
    (c.from.ensures ∙ sym (digit_is byte is low high)) (omega (arith, c.from.ensures))

pub returns : goal.returns
returns c =
    let text = c.args.text.now in
    let all : take c.digits.byte-index text ≡ text = take_all c.digits.byte-index text
    c.digits-test.false in
    let digits : list_all is_ascii_digit text ≡ true = subst (λ t. list_all is_ascii_digit t ≡ true)
    all c.digits.invariant.digits in
    let value : c.digits.length ≡ digits_value 10 text = c.digits.invariant.value
    ∙ ap (digits_value 10) all in
    rw (is_whole_length text (search rules) c.if-text-gt-LONGEST_LENGTH.false digits)
    (ap Some value)
