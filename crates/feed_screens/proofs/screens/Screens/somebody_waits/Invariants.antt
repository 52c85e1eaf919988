use Rattle.std.proofs.Common.{ℕ, ◌<◌}
use Rattle.slab.specs.Slab.{get}
use Rattle.feed_screens.specs.Waiting.{IsWaiting}
use Rattle.feed_screens.proofs.screens.Screens.somebody_waits.Given as goal

abbrev pub invariant-loop-at : goal.invariant-loop-at
invariant-loop-at l = record { none : (at : ℕ) → at < l.at → ¬ (IsWaiting (get l.self.conns at)) }
