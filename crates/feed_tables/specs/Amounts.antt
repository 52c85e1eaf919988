-- How many bytes the texts of objects have, and the names that they stand under; and what came of
-- objects that changed.
use Rattle.std.specs.Prelude.{◌≡◌, ℕ, ◌+◌, min, Bool, true, false, List, [], ◌∷◌, length, Option, None, Some}
use Rattle.std.specs.FinMap.{FinMap, find, get, entries}
use Rattle.feed_changes.specs.Changes.{change_bytes}
use Rattle.feed_tables.specs.Bytes.{byte_order}
use Rattle.feed_tables.specs.Map.{TakesThePlace, map_less}
use Rattle.feed_tables.specs.ChangedIds.{changed_table, merged}
use Rattle.feed_tables.specs.Tables.{Contents, object_count}
use Rattle.feed_tables.specs.Tree.{Swaps}
use Rattle.feed_tables.specs.Walks.{Scale, weighed, weighed_in}
use Rattle.feed_changes.specs.declared.change.Change.{Change}
use Rattle.feed_tables.specs.declared.ids.Ids.{Ids}
use Rattle.feed_tables.specs.declared.scale.Merged.{Merged}
use Rattle.feed_tables.specs.declared.table.Table.{Table}
use Rattle.feed_tables.specs.declared.table.Table.TheVariants.{One, Many}

-- an object of a collection: the name of its type, whose length this is, its id and its text
abbrev pub in_type : ℕ → Scale (List ℕ)
in_type kind id object = kind + length id + length object

-- all objects of a type, each with the name of the type
abbrev pub by_bytes : Scale Table
by_bytes kind (One object) = length kind + length object
by_bytes kind (Many objects) = weighed (in_type (length kind)) (entries objects)

-- and all that are held
abbrev pub bytes : Contents → ℕ
bytes contents = weighed by_bytes (entries contents)

-- the objects that changes put in
abbrev pub changes_bytes : List Change → ℕ
changes_bytes [] = 0
changes_bytes (change ∷ changes) = change_bytes change + changes_bytes changes

-- how much of what is held goes where items are taken away and then others put in
abbrev pub lost_in : {V W : Type 0} → Scale V → FinMap byte_order W → FinMap byte_order V
    → FinMap byte_order V → ℕ
lost_in scale gone items held =
    weighed_in scale held (entries gone) + weighed_in scale (map_less gone held) (entries items)

-- how many bytes go from a collection where objects change, and how many come
abbrev pub bytes_lost : List ℕ → Ids → Table → ℕ
bytes_lost kind ids (One object) = 0
bytes_lost kind ids (Many objects) = lost_in (in_type (length kind)) ids.gone ids.sets objects

abbrev pub bytes_come : List ℕ → Ids → Table → ℕ
bytes_come kind ids (One object) = 0
bytes_come kind ids (Many objects) = weighed (in_type (length kind)) (entries ids.sets)

-- the same of each type whose objects change, and what it weighs then
abbrev pub lost_at : List ℕ → Option Ids → Table → ℕ
lost_at kind None table = 0
lost_at kind (Some ids) table = bytes_lost kind ids table

abbrev pub come_at : List ℕ → Option Ids → Table → ℕ
come_at kind None table = 0
come_at kind (Some ids) table = bytes_come kind ids table

abbrev pub by_lost : FinMap byte_order Ids → Scale Table
by_lost changed kind table = lost_at kind (get changed kind) table

abbrev pub by_come : FinMap byte_order Ids → Scale Table
by_come changed kind table = come_at kind (get changed kind) table

abbrev pub by_bytes_after : FinMap byte_order Ids → Scale Table
by_bytes_after changed kind table = by_bytes kind (changed_table table (get changed kind))

-- objects changed in a table: it is the new one then; it had and has so many objects, and so many
-- bytes went and came, each the last number of 64 bits where they are more
abbrev pub Merges : List ℕ → Ids → Table → Table → Merged → Type 0
Merges kind ids old new result = (new ≡ merged old ids)
    × (result.before ≡ min (object_count old) 18446744073709551615)
    × (result.after ≡ min (object_count new) 18446744073709551615)
    × (result.bytes.lost ≡ min (bytes_lost kind ids old) 18446744073709551615)
    × (result.bytes.come ≡ min (bytes_come kind ids old) 18446744073709551615)

-- they changed in the table of a type among others; where there is none, nothing changed
abbrev pub MergesAmong : List ℕ → List (List ℕ × Table) → List (List ℕ × Table) → Ids → Merged
    → Bool → Type 0
MergesAmong kind es fs ids result false = (find byte_order kind es ≡ None) × (fs ≡ es)
MergesAmong kind es fs ids result true =
    (old : Table) × (new : Table) × Swaps kind es fs new old true × Merges kind ids old new result

-- the same among tables by their types
abbrev pub MergesIn : List ℕ → Contents → Contents → Ids → Merged → Bool → Type 0
MergesIn kind m n ids result false = (get m kind ≡ None) × (n ≡ m)
MergesIn kind m n ids result true =
    (old : Table) × (new : Table) × TakesThePlace kind m n new old true
    × Merges kind ids old new result
