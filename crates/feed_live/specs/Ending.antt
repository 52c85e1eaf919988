-- What sets an end to a relay, and what leaves its state files.
use Rattle.std.specs.Prelude.{◌≡◌, ◌≢◌, ◌⊎◌, true, false, None}
use Rattle.feed_live.specs.declared.turn.Input.{Input}
use Rattle.feed_live.specs.declared.turn.Input.TheVariants.{End}
use Rattle.feed_live.specs.declared.turn.Live.{Live}

-- It is set to the same. Where its input ends, and it is to end with that, there is a time when it
-- ends. Else it ends when it did, or not at all.
pub record EndsWithInput (old new : Live) (input : Input) : Type 0 where
  pub limits : new.limits ≡ old.limits
  pub sets : input ≡ End → old.limits.ends_with_input ≡ true → new.ends_at ≢ None
  pub stays : (input ≢ End) ⊎ (old.limits.ends_with_input ≡ false) → new.ends_at ≡ old.ends_at

-- neither were the state files touched, nor was the number of screens reported
pub record SameBeside (old new : Live) : Type 0 where
  pub saved : new.saved ≡ old.saved
  pub epoch : new.epoch ≡ old.epoch
  pub reported : new.reported ≡ old.reported

-- the state files were not touched
abbrev pub SameSaved : Live → Live → Type 0
SameSaved old new = (new.saved ≡ old.saved) × (new.epoch ≡ old.epoch)
