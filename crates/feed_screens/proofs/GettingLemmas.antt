-- Who gets what comes next.
use Rattle.std.proofs.Common.{◌≡◌, refl, subst, Bool, true, false, Option, Some, None}
use Rattle.std.specs.Prelude.{option_map}
use Rattle.feed_screens.specs.declared.conn.Conn.{Conn}
use Rattle.feed_screens.specs.Waiting.{WantsCommit, owing_nothing}

-- it waited for a commit before it was paid for, too
pub wanted_before : (old new : Option Conn) → new ≡ option_map owing_nothing old → WantsCommit new → WantsCommit old
wanted_before None new is wants = absurd (subst WantsCommit is wants)
wanted_before (Some conn) new is wants = subst WantsCommit is wants

-- what holds of a test holds of false, where the test can't be true
pub of_false : (Holds : Bool → Type 0) (b : Bool) → (b ≡ true → ⊥) → Holds b → Holds false
of_false Holds true never holds = absurd (never refl)
of_false Holds false never holds = holds
