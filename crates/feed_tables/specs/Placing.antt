-- Objects that are about to be put in a collection.
use Rattle.std.specs.Prelude.{ℕ, ◌≤◌, ⊤, IsSome}
use Rattle.std.specs.FinMap.{get}
use Rattle.feed_changes.specs.Changes.{type_of}
use Rattle.feed_tables.specs.Tables.{Contents, after, collection_of, size}
use Rattle.feed_changes.specs.declared.change.Change.{Change}
use Rattle.feed_changes.specs.declared.change.Change.TheVariants.{Set, Remove, Empty, Single, Clear}

-- the change puts an object in a collection
abbrev pub PutsObject : Change → Type 0
PutsObject (Set kind id object) = ⊤
PutsObject (Remove kind id) = ⊥
PutsObject (Empty kind) = ⊥
PutsObject (Single kind object) = ⊥
PutsObject (Clear kind) = ⊥

-- the type of the change has a collection
abbrev pub HasPlace : Contents → Change → Type 0
HasPlace contents change = IsSome (collection_of (get contents (type_of change)))

-- after the change there are at most so many types and objects
abbrev pub Fits : Contents → Change → ℕ → Type 0
Fits contents change most = size (after contents change) ≤ most
