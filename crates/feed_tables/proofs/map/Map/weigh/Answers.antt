use Rattle.std.proofs.Common.{ap, arith}
use Rattle.feed_tables.specs.Walks.{weighed}
use Rattle.feed_tables.proofs.MapsOver.{entries_are}
use Rattle.feed_tables.proofs.map.Map.weigh.Goals as goal

pub returns : goal.returns
returns g c =
    omega (arith, c.weigh.ensures, ap (weighed (g.S.Scale.weight c.args.scale.now)) (entries_are c.self.inside.tree c.args.self.now c.self.invariant.0 c.self.view_is))
