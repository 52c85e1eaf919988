use Rattle.std.specs.Prelude.{IfSome}
use Rattle.feed_screens.specs.Seating.{HasSentEnd}
use Rattle.feed_screens.proofs.screens.Screens.first_ended.Given as goal

abbrev pub invariant-loop-at : goal.invariant-loop-at
invariant-loop-at l = IfSome l.first (λ found. HasSentEnd l.self.conns found.1)
