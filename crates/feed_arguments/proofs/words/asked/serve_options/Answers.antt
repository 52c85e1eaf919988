use Rattle.std.proofs.Common.{rules}
use Rattle.feed_arguments.proofs.words.asked.serve_options.Goals as goal

pub returns-in_err-port-clause-none : goal.returns-in_err-port-clause-none
returns-in_err-port-clause-none c = λ e options asks.
    c.port.ensures.none (search rules) options.port asks.port_is

pub returns-in_err-count-clause-none : goal.returns-in_err-count-clause-none
returns-in_err-count-clause-none c = λ e options asks.
    c.number.ensures.none (search rules) options.count asks.count_is

pub returns-in_err-turn-clause-none : goal.returns-in_err-turn-clause-none
returns-in_err-turn-clause-none c = λ e options asks.
    c.number_if_given.ensures.none (search rules) options.turn asks.turn_is

pub returns-in_err-back-clause-none : goal.returns-in_err-back-clause-none
returns-in_err-back-clause-none c = λ e options asks.
    c.number_up_to.ensures.none (search rules) options.back asks.back_is

pub returns-in_err-limits-clause-none : goal.returns-in_err-limits-clause-none
returns-in_err-limits-clause-none c = λ e options asks.
    c.limits.ensures.none (search rules) options.limits asks.limits_are
