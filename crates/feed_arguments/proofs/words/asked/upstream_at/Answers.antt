use Rattle.std.proofs.Common.{rules}
use Rattle.feed_arguments.proofs.words.asked.upstream_at.Goals as goal

pub returns-in_err-port-clause-none : goal.returns-in_err-port-clause-none
returns-in_err-port-clause-none c = λ e upstream asks.
    c.port.ensures.none (search rules) upstream.port asks.port_is
