-- Entries that are put in all at once, and entries by where they stand to a name.
use Rattle.std.specs.Prelude.{◌≡◌, ℕ, Option, Some, None, List, [], ◌∷◌, ◌++◌, fold}
use Rattle.std.specs.List.{AllByRecursion}
use Rattle.std.specs.declared.alloc.Global.{Global}
use Rattle.std.specs.declared.boxed.Box.{Box}
use Rattle.std.specs.declared.cmp.Ordering.{Ordering}
use Rattle.std.specs.declared.cmp.Ordering.TheVariants.{Less, Equal, Greater}
use Rattle.std.specs.FinMap.{put}
use Rattle.feed_tables.specs.Bytes.{byte_order}
use Rattle.feed_tables.specs.declared.tree.Fork.{Fork}

-- the entries after each of these was put under its name
abbrev pub put_each : {V : Type 0} → List (List ℕ × V) → List (List ℕ × V) → List (List ℕ × V)
put_each es d = fold (λ n e. put byte_order e.0 e.1 n) d es

-- the entry of a node, where there is one
abbrev pub entry_in : {V : Type 0} → Option (Box (Fork V) Global) → List (List ℕ × V)
entry_in None = []
entry_in (Some node) = (node.value.id, node.value.item) ∷ []

-- the item of a node where there is one, and else this one
abbrev pub item_or : {V : Type 0} → Option (Box (Fork V) Global) → V → V
item_or None item = item
item_or (Some node) item = node.value.item

-- all of these come before a name, have it, or come after it
abbrev pub AreBefore : {V : Type 0} → List ℕ → List (List ℕ × V) → Type 0
AreBefore id es = AllByRecursion (λ e. byte_order e.0 id ≡ Less) es

abbrev pub AreAt : {V : Type 0} → List ℕ → List (List ℕ × V) → Type 0
AreAt id es = AllByRecursion (λ e. byte_order e.0 id ≡ Equal) es

abbrev pub AreAfter : {V : Type 0} → List ℕ → List (List ℕ × V) → Type 0
AreAfter id es = AllByRecursion (λ e. byte_order e.0 id ≡ Greater) es

-- all of these stand on one side of a name; nothing is said where the answer is neither side
abbrev pub Stand : {V : Type 0} → Ordering → List ℕ → List (List ℕ × V) → Type 0
Stand Less id es = AreBefore id es
Stand Equal id es = Unit
Stand Greater id es = AreAfter id es

-- entries, and of them those before a name, that of the name, and those after it
pub record Parts {V : Type 0} (id : List ℕ) (es before same after : List (List ℕ × V))
    : Type 0 where
  pub whole : es ≡ before ++ (same ++ after)
  pub are_before : AreBefore id before
  pub are_at : AreAt id same
  pub are_after : AreAfter id after
