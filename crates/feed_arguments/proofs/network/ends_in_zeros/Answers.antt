use Rattle.std.proofs.Common.{ap, sym}
use Rattle.std.specs.Prelude.{◌==◌}
use Rattle.feed_arguments.proofs.NetworkLemmas.{all_bits}
use Rattle.feed_arguments.proofs.network.ends_in_zeros.Goals as goal

pub returns-in-None : goal.returns-in-None
returns-in-None c =
    ap (λ n. n == 0)
    (sym (all_bits c.args.number c.args.bits c.ranges.number.fits c.in-None.ensures))
