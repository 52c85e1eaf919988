use Rattle.std.proofs.Common.{◌≡◌, ◌∷◌, ◌++◌, sym, ap, ◌∙◌, arith}
use Rattle.feed_tables.specs.Tree.{entries_of}
use Rattle.feed_tables.specs.Walks.{weighed}
use Rattle.feed_tables.specs.declared.tree.Fork.{Fork}
use Rattle.feed_tables.proofs.PatchSizes.{weighed-append}
use Rattle.feed_tables.proofs.tree.Tree.+weigh.Goals as goal

pub returns-in-Fork : goal.returns-in-Fork
returns-in-Fork g t c =
    let scale = g.S.Scale.weight c.args.scale.now in
    let fork = c.in-Fork.fork.value in
    let whole : c.args.self.now ≡ fork.left ++ (fork.id, fork.item) ∷ fork.right = sym c.self.view_is ∙ ap entries_of c.in-Fork.is in
    omega (
      arith,
      ap (weighed scale) whole,
      weighed-append scale fork.left ((fork.id, fork.item) ∷ fork.right),
      c.weigh.ensures,
      ap (λ (x : Fork _). weighed scale x.left) c.deref.ensures,
      c.weigh-in-Fork.ensures,
      ap (λ (x : Fork _). scale x.id x.item) c.deref-in-Fork.ensures,
      c.weigh-in-Fork-2.ensures,
      ap (λ (x : Fork _). weighed scale x.right) c.deref-in-Fork-2.ensures,
      c.saturating_add.ensures,
      c.saturating_add-in-Fork.ensures,
    )
