use Rattle.std.proofs.Common.{arith}
use Rattle.std.specs.FinMap.{entries}
use Rattle.feed_tables.proofs.PatchSizes.{in_all}
use Rattle.feed_tables.proofs.Shifts.{none_weigh}
use Rattle.feed_tables.proofs.map.weigh_names.Goals as goal

pub returns-then-count-eq0 : goal.returns-then-count-eq0
returns-then-count-eq0 g c = none_weigh _ c.args.names.now c.args.held.now (omega (arith, c.count.ensures, c.if-count-eq0.true))

pub returns : goal.returns
returns g c = in_all _ c.new-none.result c.new-nothing.result c.args.held.now (entries c.args.names.now) c.weigh_in.result c.new-none.ensures c.new-nothing.ensures c.weigh_in.ensures
