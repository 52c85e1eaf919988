-- Where tables may differ that changes made of the same ones.
use Rattle.std.specs.Prelude.{◌≡◌, ℕ, List, Option, None, Some}
use Rattle.std.specs.List.{AllByRecursion}
use Rattle.std.specs.FinMap.{get}
use Rattle.feed_tables.specs.Tables.{Contents, after_all}
use Rattle.feed_changes.specs.declared.change.Change.{Change}
use Rattle.feed_changes.specs.declared.change.Change.TheVariants.{Set, Remove, Empty, Single, Clear}
use Rattle.feed_tables.specs.declared.table.Table.{Table}
use Rattle.feed_tables.specs.declared.table.Table.TheVariants.{One, Many}

-- the same is held under a type, but that of a collection nothing is said besides this id
abbrev pub AgreeIn : List ℕ → Option Table → Option Table → Type 0
AgreeIn id None None = Unit {0}
AgreeIn id (Some (One object)) (Some (One other)) = object ≡ other
AgreeIn id (Some (Many objects)) (Some (Many others)) = get objects id ≡ get others id
AgreeIn id None (Some table) = ⊥
AgreeIn id (Some table) None = ⊥
AgreeIn id (Some (One object)) (Some (Many others)) = ⊥
AgreeIn id (Some (Many objects)) (Some (One other)) = ⊥

-- the same is held where a change could have made a difference
abbrev pub AgreeAt : Contents → Contents → Change → Type 0
AgreeAt contents others (Set kind id object) = AgreeIn id (get contents kind) (get others kind)
AgreeAt contents others (Remove kind id) = AgreeIn id (get contents kind) (get others kind)
AgreeAt contents others (Empty kind) = get contents kind ≡ get others kind
AgreeAt contents others (Single kind object) = get contents kind ≡ get others kind
AgreeAt contents others (Clear kind) = get contents kind ≡ get others kind

-- What changes made of tables is what others made of them, if the same is held wherever one of all
-- these could have made a difference.
abbrev pub AgreeWhereTouched : Type 0
AgreeWhereTouched =
    (base : Contents) (changes others : List Change)
    → AllByRecursion (AgreeAt (after_all base changes) (after_all base others)) changes
    → AllByRecursion (AgreeAt (after_all base changes) (after_all base others)) others
    → after_all base changes ≡ after_all base others
