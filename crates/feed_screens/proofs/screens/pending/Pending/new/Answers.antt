use Rattle.std.proofs.Common.{rules}
use Rattle.feed_screens.specs.Pending.{readers, takers}
use Rattle.feed_screens.proofs.screens.pending.Pending.new.Goals as goal

pub invariant_of-result : goal.invariant_of-result
unfolding readers takers
invariant_of-result c = search rules
