use Rattle.std.proofs.Common.{◌≡◌, length, drop, refl, arith}
use Rattle.feed_text.proofs.Itemized.{array_spellings, array_opens}
use Rattle.feed_text.proofs.items.elements.Goals as goal

pub returns-in-Some-clause-spelt : goal.returns-in-Some-clause-spelt
returns-in-Some-clause-spelt c = λ utf8 tree ok kind e.
    let rest : c.in-Some.rest.now ≡ drop 1 c.args.array.now = grind (arith, array_opens) in
    array_spellings (length c.args.array.now) c.args.array.now c.in-Some.rest.now tree refl rest utf8 ok kind e
