use Rattle.std.proofs.Common.{ap, arith, length}
use Rattle.std.specs.FinMap.{len-entries}
use Rattle.feed_tables.specs.Walks.{weighed}
use Rattle.feed_tables.proofs.MapsOver.{entries_are}
use Rattle.feed_tables.proofs.Unions.{joined_in_order, joined, joined_lost, joined_count}
use Rattle.feed_tables.proofs.map.Map.put_into.Goals as goal

pub put_one-requires : goal.put_one-requires
put_one-requires g c =
    omega (arith, c.has_at_most_one.ensures.0 c.if-has_at_most_one.true, len-entries c.args.self, ap length (entries_are c.self.inside.tree c.args.self c.self.invariant.0 c.self.view_is))

pub count_left-other-inside-requires : goal.count_left-other-inside-requires
count_left-other-inside-requires g c =
    omega (
      arith,
      joined_count c.self.inside.tree c.other.inside.tree c.absorb.new.self c.args.self c.args.other.now c.self.invariant.0 c.other.invariant.0 c.self.view_is c.other.view_is c.absorb.ensures.put c.new-spare.result c.absorb.new.spare c.new-spare.ensures c.absorb.ensures.kept,
      c.self.invariant.1,
      c.other.invariant.1,
      c.saturating_add-count.ensures,
      c.let_go-spent.ensures.count,
    )

pub invariant_of-other : goal.invariant_of-other
invariant_of-other g c = (
  joined_in_order c.self.inside.tree c.other.inside.tree c.absorb.new.self c.args.self c.args.other.now c.self.invariant.0 c.other.invariant.0 c.self.view_is c.other.view_is c.absorb.ensures.put,
  c.count_left-other-inside.ensures,
)

pub returns-clause-put : goal.returns-clause-put
returns-clause-put g c =
    joined c.self.inside.tree c.other.inside.tree c.absorb.new.self c.args.self c.args.other.now c.self.invariant.0 c.other.invariant.0 c.self.view_is c.other.view_is c.absorb.ensures.put

pub returns-clause-lost : goal.returns-clause-lost
returns-clause-lost g c =
    joined_lost c.self.inside.tree c.other.inside.tree c.absorb.new.self c.args.self c.args.other.now c.self.invariant.0 c.other.invariant.0 c.self.view_is c.other.view_is c.absorb.ensures.put c.new-spare.result c.absorb.new.spare c.new-spare.ensures c.absorb.ensures.kept (g.S.Scale.weight c.args.scale.now) c.let_go-spent.result.weight c.let_go-spent.ensures.weight

pub returns-clause-come : goal.returns-clause-come
returns-clause-come g c =
    omega (arith, c.weigh-come.ensures, ap (weighed (g.S.Scale.weight c.args.scale.now)) (entries_are c.self.inside.tree c.args.self c.self.invariant.0 c.self.view_is))
