use Rattle.std.proofs.Common.{rules}
use Rattle.feed_arguments.proofs.words.asked.pull_options.Goals as goal

pub returns-in_err-upstream-clause-none : goal.returns-in_err-upstream-clause-none
returns-in_err-upstream-clause-none c = λ e options asks.
    c.upstream_at.ensures.none (search rules) options.upstream asks.upstream_is

pub returns-in_err-most_reads-clause-none : goal.returns-in_err-most_reads-clause-none
returns-in_err-most_reads-clause-none c = λ e options asks.
    c.patience.ensures.none (search rules) options.most_reads options.silence asks.most_reads_are asks.silence_is

pub returns-in_err-limits-clause-none : goal.returns-in_err-limits-clause-none
returns-in_err-limits-clause-none c = λ e options asks.
    c.limits.ensures.none (search rules) options.limits asks.limits_are
