-- What tables and their listings hold is within the limits.
use Rattle.std.proofs.Common.{◌≡◌, ℕ, Bool, true, false, cond, List, [], ◌∷◌, ◌++◌, ap, ◌∙◌, flat_map, Less, Equal, Greater, Result, Ok, Err, OnOk, OnErr, rules, sym, subst, arith, codes}
use Rattle.std.specs.List.{All, AllByRecursion, filter}
use Rattle.std.proofs.lemmas.Str.{IsUtf8-from_ascii}
use Rattle.std.proofs.lemmas.List.Elements.{All-from_recursion}
use Rattle.std.specs.FinMap.{entries, put}
use Rattle.std.specs.FinMap.Entries.{by_order}
use Rattle.feed_tables.specs.Bytes.{byte_order, without}
use Rattle.feed_changes.specs.Changes.{IsChange, sets}
use Rattle.feed_changes.specs.Names.{IsName}
use Rattle.feed_text.specs.Objects.{IsObjectText}
use Rattle.feed_tables.specs.Tree.{entries_of}
use Rattle.feed_tables.specs.declared.tree.Fork.{Fork}
use Rattle.feed_tables.specs.declared.tree.Node.{Node}
use Rattle.feed_tables.specs.declared.tree.Node.TheVariants.{Fork as a_fork}
use Rattle.std.specs.declared.alloc.Global.{Global}
use Rattle.std.specs.declared.boxed.Box.{Box}
use Rattle.feed_tables.specs.Objects.{AreObjects}
use Rattle.feed_tables.specs.Tables.{Contents, listed, or_clear, listing, IsTable, AreTypes}
use Rattle.feed_changes.specs.declared.change.Change.{Change}
use Rattle.feed_changes.specs.declared.change.Change.TheVariants.{Clear}
use Rattle.feed_tables.specs.declared.table.Table.{Table}
use Rattle.feed_tables.specs.declared.table.Table.TheVariants.{One, Many}
use Rattle.feed_text.proofs.Lists.{all-append}

module _ {X : Type 0} (P : X → Type 0) where
  pub all-filter : (keep : X → Bool) (xs : List X) → AllByRecursion P xs → AllByRecursion P (filter keep xs)
  all-filter keep [] p = tt
  all-filter keep (x ∷ xs) p =
      let rest = all-filter keep xs p.1 in
      elim (keep x) as (λ b. AllByRecursion P (cond b (x ∷ filter keep xs) (filter keep xs))) [ true ↦ (p.0, rest) | false ↦ rest ]

-- the keys are names, and this holds of the values
abbrev pub AllNamed : {X : Type 0} → (X → Type 0) → List (List ℕ × X) → Type 0
AllNamed Q es = AllByRecursion (λ e. IsName e.0 × Q e.1) es

-- a value put under a name
pub named_put : {X : Type 0} (Q : X → Type 0) (k : List ℕ) (v : X) (es : List (List ℕ × X)) → IsName k → Q v → AllNamed Q es → AllNamed Q (put byte_order k v es)
named_put Q k v [] n h p = ((n, h), tt)
named_put Q k v (e ∷ es) n h p =
    elim (byte_order k e.0) as (λ o. AllNamed Q (by_order o ((k, v) ∷ e ∷ es) ((e.0, v) ∷ es) (e ∷ put byte_order k v es))) [
      | Less ↦ ((n, h), p)
      | Equal ↦ ((p.0.0, h), p.1)
      | Greater ↦ (p.0, named_put Q k v es n h p.1)
    ]

pub all-put : (k : List ℕ) (t : Table) (es : List (List ℕ × Table)) → IsName k → IsTable t → AreTypes es → AreTypes (put byte_order k t es)
all-put = named_put IsTable

pub types_either : {A E : Type 0} (es fs : List (List ℕ × Table)) (k : List ℕ) (t : Table) → AreTypes es → IsName k → IsTable t
    → (r : Result A E) → OnOk r (fs ≡ put byte_order k t es) → OnErr r (fs ≡ es) → AreTypes fs
types_either es fs k t p n h (Ok a) ok err = subst (λ (l : List (List ℕ × Table)). AreTypes l) (sym ok) (all-put k t es n h p)
types_either es fs k t p n h (Err e) ok err = subst (λ (l : List (List ℕ × Table)). AreTypes l) (sym err) p

pub types_without : (k : List ℕ) (es : List (List ℕ × Table)) → AreTypes es → AreTypes (without k es)
types_without k es p = all-filter (λ e. IsName e.0 × IsTable e.1) _ es p

-- a listing's changes
all_sets : (k : List ℕ) (es : List (List ℕ × List ℕ)) → IsName k → AreObjects es → AllByRecursion IsChange (sets k es)
all_sets k [] n p = tt
all_sets k (e ∷ es) n p = ((n, p.0.0, p.0.1), all_sets k es n p.1)

all_listed : (k : List ℕ) (t : Table) → IsName k → IsTable t → AllByRecursion IsChange (listed (k, t))
all_listed k (One object) n h = ((n, h), tt)
all_listed k (Many objects) n h = (n, all_sets k (entries objects) n h)

all_listings : (es : List (List ℕ × Table)) → AreTypes es → AllByRecursion IsChange (flat_map listed es)
all_listings [] p = tt
all_listings (e ∷ es) p = all-append IsChange (listed e) (flat_map listed es) (all_listed e.0 e.1 p.0.0 p.0.1) (all_listings es p.1)

contest : IsName (codes "contest")
contest = (IsUtf8-from_ascii (codes "contest") (search rules), omega arith)

all_or_clear : (changes : List Change) → AllByRecursion IsChange changes → AllByRecursion IsChange (or_clear changes)
all_or_clear [] p = (contest, tt)
all_or_clear (c ∷ cs) p = p

-- without types there is one change
pub clear_within : All IsChange (Clear (codes "contest") ∷ [])
clear_within = All-from_recursion IsChange (Clear (codes "contest") ∷ []) (contest, tt)

pub listing_within : (contents : Contents) → AreTypes (entries contents) → All IsChange (listing contents)
listing_within contents p = All-from_recursion IsChange _ (all_or_clear _ (all_listings (entries contents) p))

-- objects that are listed within the limits, at a fork
pub objects_at : {A E : Type 0} {n : Node (List ℕ)} {d : List (List ℕ × List ℕ)}
    {box : Box (Fork (List ℕ)) Global} → entries_of n ≡ d → n ≡ a_fork box
    → (e f g h : Fork (List ℕ)) → e ≡ box.value → f ≡ box.value → g ≡ box.value → h ≡ box.value
    → AreObjects e.left → IsName f.id → IsObjectText g.item → (r : Result A E)
    → OnOk r (AreObjects h.right) → OnOk r (AreObjects d)
objects_at {d = d} {box = box} view_is is e f g h e_is f_is g_is h_is left id object (Ok a) right =
    let whole : d ≡ box.value.left ++ (box.value.id, box.value.item) ∷ box.value.right =
    sym view_is ∙ ap entries_of is in
    let all : AreObjects (box.value.left ++ (box.value.id, box.value.item) ∷ box.value.right) =
    all-append (λ x. IsName x.0 × IsObjectText x.1) box.value.left
    ((box.value.id, box.value.item) ∷ box.value.right)
    (subst (λ (k : Fork (List ℕ)). AreObjects k.left) e_is left) (
      (
        subst (λ (k : Fork (List ℕ)). IsName k.id) f_is id,
        subst (λ (k : Fork (List ℕ)). IsObjectText k.item) g_is object,
      ),
      subst (λ (k : Fork (List ℕ)). AreObjects k.right) h_is right,
    ) in
    subst (λ (es : List (List ℕ × List ℕ)). AreObjects es) (sym whole) all
objects_at view_is is e f g h e_is f_is g_is h_is left id object (Err x) right = tt
