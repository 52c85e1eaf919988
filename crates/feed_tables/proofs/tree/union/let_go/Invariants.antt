use Rattle.std.proofs.Common.{◌≡◌, ◌+◌, ◌≤◌, min, length}
use Rattle.feed_tables.specs.Walks.{weighed}
use Rattle.feed_tables.proofs.tree.union.let_go.Given as goal

abbrev pub invariant-nodes : goal.invariant-nodes
invariant-nodes g l =
    let scale = g.S.Scale.weight l.scale in
    record {
      count : min (l.spent.count + length l.spare) 18446744073709551615 ≡ min (length l.initial.spare) 18446744073709551615;
      weight : min (l.spent.weight + weighed scale l.spare) 18446744073709551615 ≡ min (weighed scale l.initial.spare) 18446744073709551615;
      count_fits : l.spent.count ≤ 18446744073709551615;
      weight_fits : l.spent.weight ≤ 18446744073709551615;
    }

abbrev pub decreases-nodes : goal.decreases-nodes
decreases-nodes g l = length l.spare
