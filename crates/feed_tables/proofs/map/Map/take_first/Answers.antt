use Rattle.std.proofs.Common.{Some, None}
use Rattle.feed_tables.proofs.MapsOver.{first_taken}
use Rattle.feed_tables.proofs.map.Map.take_first.Goals as goal

pub returns-in_err-first : goal.returns-in_err-first
returns-in_err-first g c =
    rw c.from_residual.ensures (first_taken c.self.inside.tree c.take_first.new.self c.args.self.now None c.self.invariant.0 c.self.view_is c.in_err-first.ensures)

pub returns : goal.returns
returns g c = first_taken c.self.inside.tree c.take_first.new.self c.args.self.now (Some c.in_ok-first.first) c.self.invariant.0 c.self.view_is c.in_ok-first.ensures
