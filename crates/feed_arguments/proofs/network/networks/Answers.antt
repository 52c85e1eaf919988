use Rattle.std.proofs.Common.{refl}
use Rattle.feed_arguments.specs.Addresses.{parts}
use Rattle.feed_arguments.proofs.NetworkLemmas.{few_networks}
use Rattle.feed_arguments.proofs.network.networks.Goals as goal

pub returns-in_ok-listed-in-None-clause-few : goal.returns-in_ok-listed-in-None-clause-few
returns-in_ok-listed-in-None-clause-few c =
    few_networks c.args.text.now (parts c.args.text.now) c.in_ok-listed-in-None.field-0.items refl
    c.in_ok-listed-in-None.ensures c.in-None.ensures.1
