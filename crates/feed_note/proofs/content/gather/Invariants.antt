use Rattle.feed_note.proofs.Gathering.{Gathering}
use Rattle.feed_note.proofs.content.gather.Given as goal

abbrev pub invariant-loop-item : goal.invariant-loop-item
invariant-loop-item l = Gathering l.array l.items l.gathered.items
