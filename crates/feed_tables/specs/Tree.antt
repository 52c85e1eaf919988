-- The items of a tree by their names, and what a node is seen as.
use Rattle.std.specs.Prelude.{◌≡◌, ℕ, Bool, true, false, Option, Some, None, min, List, [], ◌∷◌, ◌++◌, length, fold}
use Rattle.std.specs.declared.alloc.Global.{Global}
use Rattle.std.specs.declared.boxed.Box.{Box}
use Rattle.std.specs.FinMap.{FinMap, find, put, remove}
use Rattle.feed_tables.specs.Bytes.{byte_order}
use Rattle.feed_tables.specs.declared.tree.Fork.{Fork as ForkOf}
use Rattle.feed_tables.specs.declared.tree.balance.Growth.{Growth}
use Rattle.feed_tables.specs.declared.tree.balance.Growth.TheVariants.{Same, Wider, Higher}
use Rattle.feed_tables.specs.declared.tree.Node.{Node}
use Rattle.feed_tables.specs.declared.tree.Node.TheVariants.{Leaf, Fork}

-- the items of a fork with their names, in order
abbrev pub parts : {V : Type 0} → ForkOf V → List (List ℕ × V)
parts fork = fork.left ++ (fork.id, fork.item) ∷ fork.right

-- the items with their names, in the order of the tree
abbrev pub entries_of : {V : Type 0} → Node V → List (List ℕ × V)
entries_of Leaf = []
entries_of (Fork fork) = parts fork.value

-- how many items are counted: all of them, or the last number of 64 bits where they are more
abbrev pub count_of : {V : Type 0} → List (List ℕ × V) → ℕ
count_of entries = min (length entries) 18446744073709551615

-- how many items more there are after a node was put in
abbrev pub came : Growth → ℕ
came Same = 0
came Wider = 1
came Higher = 1

-- the fork with another item
abbrev pub with_item : {V : Type 0} → ForkOf V → V → ForkOf V
with_item fork item = record fork { item = item }

-- and with another name
abbrev pub with_id : {V : Type 0} → ForkOf V → List ℕ → ForkOf V
with_id fork id = record fork { id = id }

-- an item took the place of the one under a name; where there is none, nothing changed
abbrev pub Swaps : {V : Type 0} → List ℕ → List (List ℕ × V) → List (List ℕ × V) → V → V → Bool
    → Type 0
Swaps id es fs old new true = (find byte_order id es ≡ Some new) × (fs ≡ put byte_order id old es)
Swaps id es fs old new false = (find byte_order id es ≡ None) × (fs ≡ es) × (new ≡ old)

-- the first item was taken out; where there is none, nothing changed
abbrev pub FirstTaken : {V : Type 0} → List (List ℕ × V) → List (List ℕ × V)
    → Option (Box (ForkOf V) Global) → Type 0
FirstTaken es fs None = (es ≡ []) × (fs ≡ [])
FirstTaken es fs (Some node) = es ≡ (node.value.id, node.value.item) ∷ fs

-- the name and the item of a node, where there is one
abbrev pub handed : {V : Type 0} → Option (Box (ForkOf V) Global) → Option (List ℕ × V)
handed None = None
handed (Some node) = Some (node.value.id, node.value.item)

-- an item with the name that it was found under, where there is one
abbrev pub named : {V : Type 0} → List ℕ → Option V → Option (List ℕ × V)
named id None = None
named id (Some item) = Some (id, item)

-- a map with each name taken out
abbrev pub without_all : {V W : Type 0} → List (List ℕ × V) → FinMap byte_order W
    → FinMap byte_order W
without_all es m = fold (λ n e. remove n e.0) m es
