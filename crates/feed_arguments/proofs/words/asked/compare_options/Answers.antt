use Rattle.std.proofs.Common.{rules}
use Rattle.feed_arguments.proofs.words.asked.compare_options.Goals as goal

pub returns-in_err-seconds-clause-none : goal.returns-in_err-seconds-clause-none
returns-in_err-seconds-clause-none c = λ e options asks.
    c.number_if_given.ensures.none (search rules) options.seconds asks.seconds_are

pub returns-in_err-limits-clause-none : goal.returns-in_err-limits-clause-none
returns-in_err-limits-clause-none c = λ e options asks.
    c.limits.ensures.none (search rules) options.limits asks.limits_are
