use Rattle.feed_arguments.proofs.AddressLemmas.{good_part, more_parts}
use Rattle.feed_arguments.proofs.address.owned.Goals as goal

pub push_address-requires : goal.push_address-requires
push_address-requires c = good_part c.args.all.now c.parts.part-index _ c.parts-test.true c.requires

pub parts-preserved : goal.parts-preserved
parts-preserved c =
    more_parts c.args.all.now c.parts.part-index _ _ _ c.parts-test.true c.parts.invariant c.in_ok-push_address.ensures
