use Rattle.std.proofs.Common.{length, sym, ap, ◌∙◌, arith}
use Rattle.std.specs.FinMap.{get, len-entries, get-from_sorted, find}
use Rattle.feed_tables.specs.Bytes.{byte_order}
use Rattle.feed_tables.specs.Unions.{entry_in}
use Rattle.feed_tables.specs.Walks.{weight, weighed, weighed_in}
use Rattle.feed_tables.proofs.Maps.{in_order_put, made_there}
use Rattle.feed_tables.proofs.MapsOver.{entries_are, put_all}
use Rattle.feed_tables.proofs.Taking.{weighed_back}
use Rattle.feed_tables.specs.declared.tree.Fork.{Fork}
use Rattle.feed_tables.proofs.map.Map.put_one.Goals as goal

pub into_node-requires : goal.into_node-requires
into_node-requires g c =
    omega (arith, c.requires, len-entries c.args.other, ap length (entries_are c.other.inside.tree c.args.other c.other.invariant.0 c.other.view_is))

pub invariant_of-self : goal.invariant_of-self
invariant_of-self g c = (
  rw c.insert-added.ensures.put (in_order_put c.self.inside.tree c.self.invariant.0 c.in-Some.node.value.id c.in-Some.node.value.item),
  omega (arith, c.self.invariant.1, c.insert-added.ensures.added, c.saturating_add-self-inside.ensures),
)

pub returns-in-Some-clause-put : goal.returns-in-Some-clause-put
returns-in-Some-clause-put g c =
    let node = c.in-Some.node.value in
    let old = c.args.self.now in
    let one = sym (entries_are c.other.inside.tree c.args.other c.other.invariant.0 c.other.view_is) ∙ sym c.into_node.ensures ∙ ap entry_in c.in-Some.is in
    made_there c.self.inside.tree c.insert-added.new.self c.self.invariant.0 node.id node.item old c.self.view_is c.insert-added.ensures.put
    ∙ sym (ap (λ es. put_all es old) one)

pub returns-in-Some-clause-lost : goal.returns-in-Some-clause-lost
returns-in-Some-clause-lost g c =
    let scale = g.S.Scale.weight c.args.scale.now in
    let node = c.in-Some.node.value in
    let tree = c.self.inside.tree in
    let one = sym (entries_are c.other.inside.tree c.args.other c.other.invariant.0 c.other.view_is) ∙ sym c.into_node.ensures ∙ ap entry_in c.in-Some.is in
    let held = ap (λ m. get m node.id) (sym c.self.view_is) ∙ get-from_sorted byte_order tree node.id c.self.invariant.0 in
    omega (
      arith,
      c.weigh_node.ensures,
      weighed_back scale c.insert-added.new.back node.id (find byte_order node.id tree) c.insert-added.ensures.back,
      ap (weight scale node.id) held,
      ap (weighed_in scale c.args.self.now) one,
    )

pub returns-in-Some-clause-come : goal.returns-in-Some-clause-come
returns-in-Some-clause-come g c =
    let scale = g.S.Scale.weight c.args.scale.now in
    let one = sym (entries_are c.other.inside.tree c.args.other c.other.invariant.0 c.other.view_is) ∙ sym c.into_node.ensures ∙ ap entry_in c.in-Some.is in
    omega (
      arith,
      c.weigh-come.ensures,
      ap (λ (fork : Fork g.row.V.Denot). scale fork.id fork.item) c.deref.ensures,
      ap (weighed scale) one,
    )

pub returns-clause-put : goal.returns-clause-put
returns-clause-put g c =
    let none = sym (entries_are c.other.inside.tree c.args.other c.other.invariant.0 c.other.view_is) ∙ sym c.into_node.ensures ∙ ap entry_in c.in-None.is in
    sym (ap (λ es. put_all es c.args.self.now) none)

pub returns-clause-lost : goal.returns-clause-lost
returns-clause-lost g c =
    let none = sym (entries_are c.other.inside.tree c.args.other c.other.invariant.0 c.other.view_is) ∙ sym c.into_node.ensures ∙ ap entry_in c.in-None.is in
    omega (arith, ap (weighed_in (g.S.Scale.weight c.args.scale.now) c.args.self.now) none)

pub returns-clause-come : goal.returns-clause-come
returns-clause-come g c =
    let none = sym (entries_are c.other.inside.tree c.args.other c.other.invariant.0 c.other.view_is) ∙ sym c.into_node.ensures ∙ ap entry_in c.in-None.is in
    omega (arith, ap (weighed (g.S.Scale.weight c.args.scale.now)) none)
