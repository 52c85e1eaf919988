use Rattle.feed_live.proofs.SourceLemmas.{left_still}
use Rattle.feed_live.proofs.source.Source.leave_due.Goals as goal

pub returns-in-Some-clause-follows : goal.returns-in-Some-clause-follows
returns-in-Some-clause-follows g c = left_still c.leave_for.ensures.left

pub returns-then-is_to_leave_quiet-clause-follows : goal.returns-then-is_to_leave_quiet-clause-follows
returns-then-is_to_leave_quiet-clause-follows g c = left_still c.leave_quiet.ensures.left
