use Rattle.feed_world.proofs.Sending.{nodes_open, sessions_start, nodes_send, parts_go_on}
use Rattle.feed_world.proofs.laws.sending_laws.Goals as goal

pub returns-clause-opens : goal.returns-clause-opens
returns-clause-opens c = nodes_open

pub returns-clause-starts : goal.returns-clause-starts
returns-clause-starts c = sessions_start

pub returns-clause-commits : goal.returns-clause-commits
returns-clause-commits c = nodes_send

pub returns-clause-order : goal.returns-clause-order
returns-clause-order c = parts_go_on
