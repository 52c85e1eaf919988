use Rattle.std.proofs.Common.{rules}
use Rattle.feed_arguments.proofs.words.asked.relay_options.Goals as goal

pub returns-in_err-listen-clause-none : goal.returns-in_err-listen-clause-none
returns-in_err-listen-clause-none c = λ e options asks.
    c.port.ensures.none (search rules) options.listen asks.listen_is

pub returns-in_err-count-clause-none : goal.returns-in_err-count-clause-none
returns-in_err-count-clause-none c = λ e options asks.
    c.number.ensures.none (search rules) options.count asks.count_is
