use Rattle.std.proofs.Common.{rules}
use Rattle.feed_arguments.proofs.words.asked_record.replay_options.Goals as goal

pub returns-in_err-listen-clause-none : goal.returns-in_err-listen-clause-none
returns-in_err-listen-clause-none c = λ e options asks.
    c.served_at.ensures.none (search rules) options.listen options.address.now asks.served_is
