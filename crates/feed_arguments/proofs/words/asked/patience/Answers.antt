use Rattle.std.proofs.Common.{rules}
use Rattle.feed_arguments.proofs.words.asked.patience.Goals as goal

pub returns-in_err-most_reads-clause-none : goal.returns-in_err-most_reads-clause-none
returns-in_err-most_reads-clause-none c = λ e reads most says given.
    c.number.ensures.none (search rules) reads says

pub returns-in_err-silence-clause-none : goal.returns-in_err-silence-clause-none
returns-in_err-silence-clause-none c = λ e reads most says given.
    c.number_if_given.ensures.none (search rules) most given
