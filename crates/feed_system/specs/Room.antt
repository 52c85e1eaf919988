-- Who may have one connection more.
use Rattle.std.specs.Prelude.{◌≡◌, ◌≢◌, ℕ, ◌<◌, Option, Some, None, ⊤}
use Rattle.feed_system.specs.declared.tally.Owner.{Owner}
use Rattle.feed_system.specs.declared.tally.Tally.{Tally}
use Rattle.feed_system.specs.Tally.{holders, owner_at}

-- Somebody has fewer than they may, where that is counted.
abbrev pub MayHaveOneMore : Option Tally → Owner → Type 0
MayHaveOneMore None owner = ⊤
MayHaveOneMore (Some tally) owner = holders owner tally.owners.items < tally.most

-- Where that is counted, each connection that is not somebody's counts as it did.
abbrev pub LeavesOthers : Option Tally → Option Tally → Owner → Type 0
LeavesOthers None None owner = ⊤
LeavesOthers None (Some new) owner = ⊥
LeavesOthers (Some old) None owner = ⊥
LeavesOthers (Some old) (Some new) owner =
    (at : ℕ) → owner_at old.owners.items at ≢ Some owner
    → owner_at new.owners.items at ≡ owner_at old.owners.items at
