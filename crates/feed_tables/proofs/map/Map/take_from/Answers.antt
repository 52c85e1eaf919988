use Rattle.feed_tables.proofs.MapsOver.{taken_out}
use Rattle.feed_tables.proofs.map.Map.take_from.Goals as goal

pub returns : goal.returns
returns g c = taken_out c.self.inside.tree c.args.self c.args.other.now c.take_from.new.other c.self.invariant.0 c.self.view_is c.take_from.ensures
