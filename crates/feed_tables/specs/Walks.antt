-- What a walk through items by name sums up. A scale says how much an item weighs under its name.
use Rattle.std.specs.Prelude.{◌≡◌, Bool, not, ℕ, ◌+◌, List, [], ◌∷◌, Option, None, Some}
use Rattle.std.specs.Option.{is_some}
use Rattle.std.specs.List.{AllByRecursion}
use Rattle.std.specs.FinMap.{FinMap, get}
use Rattle.std.specs.FinMap.Entries.{where_key}
use Rattle.feed_tables.specs.Bytes.{byte_order}
use Rattle.feed_tables.specs.Tables.{object_count}
use Rattle.feed_tables.specs.declared.table.Table.{Table}

abbrev pub Scale : Type 0 → Type 0
Scale V = List ℕ → V → ℕ

-- how much is held under a name
abbrev pub weight : {V : Type 0} → Scale V → List ℕ → Option V → ℕ
weight scale name None = 0
weight scale name (Some item) = scale name item

-- how much all of these weigh
abbrev pub weighed : {V : Type 0} → Scale V → List (List ℕ × V) → ℕ
weighed scale [] = 0
weighed scale (e ∷ es) = scale e.0 e.1 + weighed scale es

-- how much these names weigh by what is held under them
abbrev pub weighed_in : {V W : Type 0} → Scale V → FinMap byte_order V → List (List ℕ × W) → ℕ
weighed_in scale held [] = 0
weighed_in scale held (e ∷ es) = weight scale e.0 (get held e.0) + weighed_in scale held es

-- each item counts as one
abbrev pub each_one : {V : Type 0} → Scale V
each_one name item = 1

-- one for a type, and one for each object of a collection
abbrev pub by_objects : Scale Table
by_objects kind table = object_count table + 1

-- the name is none of these
abbrev pub is_besides : {V : Type 0} → FinMap byte_order V → List ℕ → Bool
is_besides names name = not (is_some (get names name))

-- the entries without these names
abbrev pub besides : {V W : Type 0} → FinMap byte_order V → List (List ℕ × W) → List (List ℕ × W)
besides names es = where_key byte_order (is_besides names) es

-- these items are all held
abbrev pub AreIn : {V : Type 0} → FinMap byte_order V → List (List ℕ × V) → Type 0
AreIn held es = AllByRecursion (λ e. get held e.0 ≡ Some e.1) es
