use Rattle.std.proofs.Common.{◌≡◌}
use Rattle.std.specs.FinMap.{find}
use Rattle.feed_tables.specs.Bytes.{byte_order, IsInOrder}
use Rattle.feed_tables.proofs.tree.Tree.get.Given as goal

-- what the search has come to is in order, and holds under the name what the tree does
abbrev pub invariant-nodes : goal.invariant-nodes
invariant-nodes g l = IsInOrder l.tree × (find byte_order l.id l.tree ≡ find byte_order l.id l.self)
