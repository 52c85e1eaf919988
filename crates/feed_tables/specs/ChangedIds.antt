-- What becomes of the objects of collections, and what that makes of them.
use Rattle.std.specs.Prelude.{◌≡◌, ℕ, ◌+◌, true, List, [], ◌∷◌, Option, None, Some, fold}
use Rattle.std.specs.FinMap.{FinMap, empty, find, get, insert, entries, len}
use Rattle.std.specs.declared.alloc.Global.{Global}
use Rattle.std.specs.declared.boxed.Box.{Box}
use Rattle.feed_tables.specs.Bytes.{byte_order}
use Rattle.feed_tables.specs.Map.{TakesThePlace, map_over, map_less}
use Rattle.feed_tables.specs.Tree.{Swaps}
use Rattle.feed_tables.specs.Tables.{Objects, Contents, object_count}
use Rattle.feed_tables.specs.Walks.{Scale}
use Rattle.feed_tables.specs.declared.by_type.Types.{Types}
use Rattle.feed_tables.specs.declared.by_type.Types.TheVariants.{Alone, Several}
use Rattle.feed_tables.specs.declared.ids.Ids.{Ids}
use Rattle.feed_tables.specs.declared.table.Table.{Table}
use Rattle.feed_tables.specs.declared.tree.Fork.{Fork}
use Rattle.feed_tables.specs.declared.table.Table.TheVariants.{One, Many}

-- what becomes of the objects of collections, by their types
abbrev pub ids_by_type : Types → FinMap byte_order Ids
ids_by_type (Alone kind ids) = insert empty kind ids
ids_by_type (Several types) = types

-- the objects of a collection over which some change: some are taken away, and then some put in
abbrev pub over_ids : Objects → Ids → Objects
over_ids objects ids = map_over ids.sets (map_less ids.gone objects)

-- a collection over which objects change; one object as it is
abbrev pub merged : Table → Ids → Table
merged (One object) ids = One object
merged (Many objects) ids = Many (over_ids objects ids)

-- the same where objects change in it
abbrev pub changed_table : Table → Option Ids → Table
changed_table table None = table
changed_table table (Some ids) = merged table ids

-- the same of what is held under a type, where there are such objects
abbrev pub merged_at : Option Table → Option Ids → Option Table
merged_at None ids = None
merged_at (Some table) None = Some table
merged_at (Some table) (Some ids) = Some (merged table ids)

-- the contents with objects changed in the collection of a type
abbrev pub with_ids : Contents → List ℕ → Ids → Option Table → Contents
with_ids contents kind ids None = contents
with_ids contents kind ids (Some table) = insert contents kind (merged table ids)

-- and in those of several types
abbrev pub with_all_ids : FinMap byte_order Ids → Contents → Contents
with_all_ids changed contents =
    fold (λ c e. with_ids c e.0 e.1 (get c e.0)) contents (entries changed)

-- these objects of a type are those, with one put under its id
abbrev pub HasSet : Ids → Ids → List ℕ → List ℕ → Type 0
HasSet old new id object =
    (objects : Objects) → over_ids objects new ≡ insert (over_ids objects old) id object

-- among what becomes of the objects of types, an object was put under its id in that of a type;
-- where there is none, nothing changed, and the node came back
abbrev pub SetsAmong : List ℕ → List (List ℕ × Ids) → List (List ℕ × Ids) → List ℕ → List ℕ
    → Option (Box (Fork (List ℕ)) Global) → Type 0
SetsAmong kind es fs id object None =
    (old : Ids) × (new : Ids) × Swaps kind es fs new old true × HasSet old new id object
SetsAmong kind es fs id object (Some node) =
    (find byte_order kind es ≡ None) × (fs ≡ es) × (node.value.id ≡ id) × (node.value.item ≡ object)

-- the same among what becomes of objects by their types
abbrev pub SetsIn : List ℕ → FinMap byte_order Ids → FinMap byte_order Ids → List ℕ → List ℕ
    → Option (Box (Fork (List ℕ)) Global) → Type 0
SetsIn kind m n id object None =
    (old : Ids) × (new : Ids) × TakesThePlace kind m n new old true × HasSet old new id object
SetsIn kind m n id object (Some node) =
    (get m kind ≡ None) × (n ≡ m) × (node.value.id ≡ id) × (node.value.item ≡ object)

-- a table weighs what it does after objects change
abbrev pub count_after : Table → Option Ids → ℕ
count_after table None = object_count table
count_after table (Some ids) = object_count (merged table ids)

abbrev pub after_ids : FinMap byte_order Ids → Scale Table
after_ids changed kind table = count_after table (get changed kind) + 1

-- how many objects are put in
abbrev pub sets_in : List (List ℕ × Ids) → ℕ
sets_in [] = 0
sets_in (e ∷ es) = len e.1.sets + sets_in es
