-- When a relay is to have its next turn.
use Rattle.std.specs.Prelude.{◌≡◌, ◌≢◌, ℕ, ◌≤◌, true, false, [], None, IfSome}
use Rattle.feed_live.specs.declared.turn.Live.{Live}
use Rattle.feed_live.specs.Leaving.{LooksInTime, silent_at}

-- It is due in time for its state files: at once where there is more to write, and after a failure
-- when they are tried again. So it is for its end; and, unless it ends, for the next connection and
-- the server that is followed: when that is silent, late, or to be left for having nothing new,
-- when it counts as heard, and at once where there is more of it to read.
pub record IsDueInTime (live : Live) (now due : ℕ) : Type 0 where
  pub saves : IfSome live.saved (λ saved. saved.has_more ≡ true → due ≤ now)
  pub again : IfSome live.saved (λ saved. saved.has_more ≡ false → saved.is_failing ≡ true
      → due ≤ saved.retry_at)
  pub ends : IfSome live.ends_at (λ at. due ≤ at)
  pub connects : live.ends_at ≡ None → live.source.upstream.follower ≡ None
      → live.source.places.items ≢ [] → due ≤ live.source.upstream.since
  pub silent : live.ends_at ≡ None → live.source.upstream.follower ≢ None
      → live.source.places.items ≢ []
      → due ≤ silent_at live.source live.limits.screens.idle
  pub more : live.ends_at ≡ None → live.source.places.items ≢ [] → live.source.has_more ≡ true
      → live.screens.saying.waits ≡ None → due ≤ now
  pub looks : live.ends_at ≡ None → live.source.places.items ≢ [] → LooksInTime live.source due
