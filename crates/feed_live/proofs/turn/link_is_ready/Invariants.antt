use Rattle.std.proofs.Common.{◌<◌, ◌≢◌, ℕ}
use Rattle.std.specs.Prelude.{HoldsAt}
use Rattle.feed_device.specs.declared.device.Ready.TheVariants.{Link}
use Rattle.feed_live.proofs.turn.link_is_ready.Given as goal

abbrev pub invariant-loop-event : goal.invariant-loop-event
invariant-loop-event l = (at : ℕ) → at < l.event-index → HoldsAt (λ event. event ≢ Link) l.events at
