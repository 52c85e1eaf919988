-- The line stands at no place that was passed.
use Rattle.std.proofs.Common.{◌≡◌, ◌<◌, ℕ, false}
use Rattle.feed_probe.specs.Behaviour.{stands_at}
use Rattle.feed_probe.proofs.behaviour.place_of.Given as goal

abbrev pub invariant-loop-place : goal.invariant-loop-place
invariant-loop-place l = (other : ℕ) → other < l.place → stands_at l.feed l.line other ≡ false
