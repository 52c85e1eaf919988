use Rattle.std.proofs.Common.{rules}
use Rattle.std.specs.Str.Parse.{ParsesUnsigned, ExplainsUnsignedError, HasUnsignedDigitsIfOk}
use Rattle.clap.specs.Words.{found_of}
use Rattle.feed_arguments.proofs.WordsLemmas.{number_found, number_lacks, other_number}
use Rattle.feed_arguments.proofs.words.asked.number_up_to.Goals as goal

pub returns-then-number-most-clause-some : goal.returns-then-number-most-clause-some
returns-then-number-most-clause-some c =
    let found = number_found _ (λ bs r. ParsesUnsigned 64 10 bs r × ExplainsUnsignedError 10 bs r
    × HasUnsignedDigitsIfOk bs r) (found_of c.args.matches.now) c.args.name.now (λ u x g. g.0) c.get_one.result
    c.in_ok-number.number c.get_one.ensures.none c.get_one.ensures.value (search rules) in
    record { digits = found.0; said = found.1; greatest = search rules }

pub returns-else-number-most-clause-none : goal.returns-else-number-most-clause-none
returns-else-number-most-clause-none c =
    let found = number_found _ (λ bs r. ParsesUnsigned 64 10 bs r × ExplainsUnsignedError 10 bs r
    × HasUnsignedDigitsIfOk bs r) (found_of c.args.matches.now) c.args.name.now (λ u x g. g.0) c.get_one.result
    c.in_ok-number.number c.get_one.ensures.none c.get_one.ensures.value (search rules) in
    λ e n is. other_number c.in_ok-number.number n c.args.most _ found.1 is.said (search rules) is.greatest

pub returns-in_err-number-clause-none : goal.returns-in_err-number-clause-none
returns-in_err-number-clause-none c =
    λ e n is. number_lacks _ (λ bs r. ParsesUnsigned 64 10 bs r × ExplainsUnsignedError 10 bs r
    × HasUnsignedDigitsIfOk bs r) (found_of c.args.matches.now) c.args.name.now (λ u x g. g.0) c.get_one.result n
    c.get_one.ensures.value (search rules) is.digits is.said (search rules)
