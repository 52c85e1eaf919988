-- What a removal does to what is held under its type.
use Rattle.std.specs.Prelude.{List, ℕ}
use Rattle.std.specs.FinMap.{remove}
use Rattle.feed_tables.specs.declared.table.Table.{Table}
use Rattle.feed_tables.specs.declared.table.Table.TheVariants.{One, Many}

-- a collection without the id; one object as it is
abbrev pub less_object : Table → List ℕ → Table
less_object (One object) id = One object
less_object (Many objects) id = Many (remove objects id)
