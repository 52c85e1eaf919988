use Rattle.feed_world.proofs.Prefixes.{prefixes_are_read}
use Rattle.feed_world.proofs.Growth.{growth_keeps, sending_keeps_order, deliveries_compose}
use Rattle.feed_world.proofs.Tokens.{tokens_tell}
use Rattle.feed_world.proofs.laws.world_laws.Goals as goal

pub returns-clause-prefixes : goal.returns-clause-prefixes
returns-clause-prefixes c =
    let reading = c.reading_laws.ensures in
    let node = c.node_laws.ensures in
    prefixes_are_read reading.goes_on reading.batches reading.snapshots c.table_laws.ensures.within node.read node.counted node.good

pub returns-clause-tokens : goal.returns-clause-tokens
returns-clause-tokens c = tokens_tell

pub returns-clause-growth : goal.returns-clause-growth
returns-clause-growth c = growth_keeps

pub returns-clause-order : goal.returns-clause-order
returns-clause-order c = sending_keeps_order

pub returns-clause-deliveries : goal.returns-clause-deliveries
returns-clause-deliveries c = deliveries_compose
