-- Finite maps put over others, and taken out of them.
use Rattle.std.specs.Prelude.{◌≡◌, ℕ, Bool, true, false, Option, Some, None, List, [], ◌∷◌, fold}
use Rattle.std.specs.declared.alloc.Global.{Global}
use Rattle.std.specs.declared.boxed.Box.{Box}
use Rattle.std.specs.FinMap.{FinMap, get, insert, remove, entries}
use Rattle.feed_tables.specs.Bytes.{byte_order}
use Rattle.feed_tables.specs.declared.tree.Fork.{Fork}

-- an item took the place of the one under a name; where there is none, nothing changed
abbrev pub TakesThePlace : {V : Type 0} → List ℕ → FinMap byte_order V → FinMap byte_order V → V → V
    → Bool → Type 0
TakesThePlace id m n old new true = (get m id ≡ Some new) × (n ≡ insert m id old)
TakesThePlace id m n old new false = (get m id ≡ None) × (n ≡ m) × (new ≡ old)

-- the first item was taken out; where there is none, nothing changed
abbrev pub TakesFirst : {V : Type 0} → FinMap byte_order V → FinMap byte_order V
    → Option (Box (Fork V) Global) → Type 0
TakesFirst m n None = (entries m ≡ []) × (entries n ≡ [])
TakesFirst m n (Some node) = entries m ≡ (node.value.id, node.value.item) ∷ entries n

-- m with each item of the first put under its name
abbrev pub map_over : {V : Type 0} → FinMap byte_order V → FinMap byte_order V → FinMap byte_order V
map_over items m = fold (λ n e. insert n e.0 e.1) m (entries items)

-- m without the names of the first
abbrev pub map_less : {V W : Type 0} → FinMap byte_order V → FinMap byte_order W
    → FinMap byte_order W
map_less names m = fold (λ n e. remove n e.0) m (entries names)
