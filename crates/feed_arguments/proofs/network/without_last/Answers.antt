use Rattle.std.proofs.Common.{◌∙◌}
use Rattle.feed_arguments.proofs.NetworkLemmas.{last_bits}
use Rattle.feed_arguments.proofs.network.without_last.Goals as goal

pub returns : goal.returns
returns c =
    c.unbounded_shr.ensures ∙ last_bits c.args.number c.args.bits c.ranges.number.fits
