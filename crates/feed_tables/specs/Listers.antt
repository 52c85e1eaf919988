-- Changes that are given to a lister one after the other.
use Rattle.std.specs.Prelude.{◌≡◌, List, ◌∷◌, ◌++◌}
use Rattle.std.specs.List.{FoldsTo}
use Rattle.feed_changes.specs.declared.change.Change.{Change}

-- one of the changes failed, after those before it were taken; those behind it were not given
abbrev pub FailsIn : {L : Type 0} (takes fails : L → Change → L → Type 0) → L → List Change → L
    → Type 0
FailsIn {L} takes fails old changes new =
    (taken : List Change) × (failed : Change) × (left : List Change)
    × (changes ≡ taken ++ failed ∷ left)
    × (between : L) × FoldsTo takes old taken between × fails between failed new
