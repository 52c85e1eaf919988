use Rattle.std.specs.Prelude.{IfSome}
use Rattle.slab.specs.Slab.{get}
use Rattle.feed_screens.specs.Seating.{IsLingering}
use Rattle.feed_screens.proofs.screens.Screens.longest_lingering.Given as goal

abbrev pub invariant-loop-at : goal.invariant-loop-at
invariant-loop-at l = IfSome l.longest (λ found. IsLingering (get l.self.conns found.1))
