use Rattle.std.proofs.Common.{◌≡◌, ◌<◌, ℕ}
use Rattle.std.specs.Prelude.{false, IfSome}
use Rattle.slab.specs.Slab.{get}
use Rattle.feed_screens.proofs.screens.Screens.is_any_blocked.Given as goal

abbrev pub invariant-loop-at : goal.invariant-loop-at
invariant-loop-at l =
    record {
      ready : (at : ℕ) → at < l.at → IfSome (get l.self.conns at) (λ conn. conn.is_blocked ≡ false);
    }
