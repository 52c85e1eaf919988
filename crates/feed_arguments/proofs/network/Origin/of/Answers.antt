use Rattle.feed_arguments.proofs.NetworkLemmas.{mapped_origin}
use Rattle.feed_arguments.proofs.network.Origin.of.Goals as goal

pub returns-in-V4 : goal.returns-in-V4
returns-in-V4 c =
    mapped_origin c.args.address c.to_canonical.result c.in-V4.address c.to_bits.result
    c.to_canonical.ensures c.in-V4.is c.to_bits.ensures
