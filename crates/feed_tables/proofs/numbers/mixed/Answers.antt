use Rattle.std.proofs.Common.{sym, ap, ap₂, ◌∙◌, arith}
use Rattle.feed_tables.specs.Numbers.{stirred, mixed}
use Rattle.feed_tables.proofs.Mixing.{mixed_step}
use Rattle.feed_tables.proofs.numbers.mixed.Goals as goal

pub words-preserved : goal.words-preserved
words-preserved c =
    let cases = c.in-Some.ensures.cases in
    let long = cases.2 in
    c.words.invariant
    ∙ mixed_step c.words.number c.words.rest.now (omega (arith, long))
    ∙ ap₂ mixed (ap (stirred c.words.number) (sym cases.0) ∙ sym c.stirred-number.ensures) (sym cases.1)
