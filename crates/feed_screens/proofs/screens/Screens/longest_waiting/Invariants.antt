use Rattle.std.proofs.Common.{ℕ, ◌<◌}
use Rattle.std.specs.Prelude.{IfSome}
use Rattle.slab.specs.Slab.{get}
use Rattle.feed_screens.specs.Waiting.{WaitsSince, IsFoundBy}
use Rattle.feed_screens.proofs.screens.Screens.longest_waiting.Given as goal

abbrev pub invariant-loop-at : goal.invariant-loop-at
invariant-loop-at l =
    record {
      found : IfSome l.longest (λ found. WaitsSince (get l.self.conns found.1) found.0);
      first : (at since : ℕ) → at < l.at → WaitsSince (get l.self.conns at) since → IsFoundBy l.longest since;
    }
