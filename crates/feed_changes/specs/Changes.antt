-- What a notification does (CLICS Contest API 2023-06, notification format).
use Rattle.std.specs.Prelude.{ℕ, ◌+◌, List, [], ◌∷◌, ◌++◌, map, length}
use Rattle.feed_text.specs.Objects.{IsObjectText}
use Rattle.feed_changes.specs.Names.{IsName}
use Rattle.feed_changes.specs.declared.change.Change.{Change}
use Rattle.feed_changes.specs.declared.change.Change.TheVariants.{Set, Remove, Empty, Single, Clear}

-- the type that a change is about
abbrev pub type_of : Change → List ℕ
type_of (Set kind id object) = kind
type_of (Remove kind id) = kind
type_of (Empty kind) = kind
type_of (Single kind object) = kind
type_of (Clear kind) = kind

-- the names and the object of a change are within the limits
abbrev pub IsChange : Change → Type 0
IsChange (Set kind id object) = IsName kind × IsName id × IsObjectText object
IsChange (Remove kind id) = IsName kind × IsName id
IsChange (Empty kind) = IsName kind
IsChange (Single kind object) = IsName kind × IsObjectText object
IsChange (Clear kind) = IsName kind

-- the object that a change puts in, with its names; none where it puts in no object
abbrev pub change_bytes : Change → ℕ
change_bytes (Set kind id object) = length kind + length id + length object
change_bytes (Remove kind id) = 0
change_bytes (Empty kind) = 0
change_bytes (Single kind object) = length kind + length object
change_bytes (Clear kind) = 0

-- one Set for each object of a collection, in the order of the entries
abbrev pub sets : List ℕ → List (List ℕ × List ℕ) → List Change
sets kind entries = map (λ e. Set kind e.0 e.1) entries

-- the changes, and one more at their end
abbrev pub with_change : List Change → Change → List Change
with_change changes change = changes ++ change ∷ []
