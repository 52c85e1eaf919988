use Rattle.feed_arguments.proofs.NetworkLemmas.{good_network, more_networks}
use Rattle.feed_arguments.proofs.network.owned.Goals as goal

pub push_network-requires : goal.push_network-requires
push_network-requires c =
    good_network c.args.all.now c.parts.part-index _ c.parts-test.true c.requires

pub parts-preserved : goal.parts-preserved
parts-preserved c =
    more_networks c.args.all.now c.parts.part-index _ _ _ c.parts-test.true c.parts.invariant
    c.in_ok-push_network.ensures
