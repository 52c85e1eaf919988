use Rattle.std.proofs.Common.{◌≡◌, ◌∷◌}
use Rattle.feed_tables.proofs.Unions.{item_kept}
use Rattle.feed_tables.proofs.tree.Fork.take_item.Goals as goal

pub returns-in-Some-clause-kept : goal.returns-in-Some-clause-kept
returns-in-Some-clause-kept g c = λ scale.
    let node = c.in-Some.node in
    let made : c.set_aside.new.spare ≡ (node.value.id, c.args.self.now.item) ∷ c.args.spare.now = cc in
    item_kept scale c.args.same c.args.self.now.id c.args.self.now.item node c.set_aside.new.spare c.args.spare.now c.in-Some.is c.requires made
