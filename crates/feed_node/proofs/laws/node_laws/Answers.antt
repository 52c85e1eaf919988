use Rattle.std.proofs.Common.{[]}
use Rattle.feed_node.proofs.Kept.{bytes_leave_fewer}
use Rattle.feed_node.proofs.Onward.{steps_on, publishes_from_start, good_on}
use Rattle.feed_node.proofs.Starting.{held_tokens_stand}
use Rattle.feed_node.proofs.laws.node_laws.Goals as goal

pub returns : goal.returns
returns c = record {
  read = λ history opening notes. steps_on history opening [] notes;
  counted = publishes_from_start;
  good = λ limits opening xs notes taken. good_on limits opening [] xs notes taken;
  held = held_tokens_stand;
  fewer = bytes_leave_fewer;
}
