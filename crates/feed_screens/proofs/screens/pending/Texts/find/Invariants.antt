use Rattle.std.proofs.Common.{◌≢◌, ◌<◌, ℕ}
use Rattle.std.specs.Prelude.{HoldsAt}
use Rattle.feed_screens.proofs.screens.pending.Texts.find.Given as goal

abbrev pub invariant-loop-at : goal.invariant-loop-at
invariant-loop-at l = (k : ℕ) → k < l.at → HoldsAt (λ text. text.id ≢ l.id) l.self.list.items k
