use Rattle.std.proofs.Common.{rules}
use Rattle.feed_arguments.proofs.words.probe.probe_options.Goals as goal

pub returns-in_err-seconds-clause-none : goal.returns-in_err-seconds-clause-none
returns-in_err-seconds-clause-none c = λ e options asks.
    c.number.ensures.none (search rules) options.seconds asks.seconds_are
