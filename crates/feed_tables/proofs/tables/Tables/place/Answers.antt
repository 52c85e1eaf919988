use Rattle.std.proofs.Common.{ap, ◌∙◌}
use Rattle.std.specs.FinMap.{insert}
use Rattle.feed_tables.specs.Tables.{Objects}
use Rattle.feed_tables.proofs.Placing.{placed_after}
use Rattle.feed_tables.proofs.tables.Tables.place.Goals as goal

pub returns : goal.returns
returns c =
    let parts = c.into_parts-kind.result in
    let node = parts.1.value in
    c.change.ensures
    ∙ placed_after c.args.self.now.contents c.args.placed parts.0 node.id node.item c.key.result c.set.new.self
    c.into_parts-kind.ensures c.key.ensures c.requires
    (λ objects. c.set.ensures objects ∙ ap (λ (os : Objects). insert os node.id node.item) (c.new-ids.ensures objects))
