-- Each side of a fork has fewer items than the fork.
use Rattle.std.specs.Prelude.{◌≤◌, max, ◌∷◌, length}
use Rattle.std.proofs.Common.{arith, length-append}
use Rattle.feed_tables.specs.declared.tree.Node.{Node}
use Rattle.feed_tables.specs.declared.tree.Node.TheVariants.{Leaf, Fork}
use Rattle.feed_tables.specs.declared.tree.Tree.TheDeep.{deep-Node}
use Rattle.feed_tables.specs.Tree.{entries_of}

-- no side is deeper than the node has items
pub depth_le-length : {V : Type 0} (n : Node V) → max (deep-Node V n) 0 ≤ length (entries_of n)
depth_le-length Leaf = omega arith
depth_le-length (Fork fork) = omega (
  arith,
  length-append fork.value.left ((fork.value.id, fork.value.item) ∷ fork.value.right),
)
