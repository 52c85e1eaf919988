-- What items by name weigh, before and after one changes.
use Rattle.std.proofs.Common.{cond, not, ◌≡◌, ◌≤◌, ℕ, ◌+◌, List, [], ◌∷◌, None, Some, sym, ap, ◌∙◌, refl, arith}
use Rattle.std.specs.Ordering.{is_eq}
use Rattle.std.specs.declared.cmp.Ordering.TheVariants.{Less, Equal, Greater}
use Rattle.std.specs.FinMap.{FinMap, find, put, empty, get, insert, remove, entries, entries_sorted, get-entries, entries-insert, entries-from_sorted, from_sorted, same_entries_map, len-entries}
use Rattle.std.specs.FinMap.Entries.{by_order}
use Rattle.feed_tables.specs.Bytes.{byte_order, IsInOrder, without}
use Rattle.feed_tables.proofs.Entries.{first, second, find_below, below_tied, below_trans}
use Rattle.feed_tables.proofs.TablesLaws.{sized_is}
use Rattle.feed_tables.proofs.Maps.{byte_order_antisymmetric, from_sorted_without, from_sorted_none, in_order_without}
use Rattle.feed_tables.specs.Tables.{Contents, object_count, size}
use Rattle.feed_tables.specs.declared.table.Table.{Table}
use Rattle.feed_tables.specs.Walks.{Scale, weight, weighed, by_objects}
use Rattle.feed_changes.proofs.Order.{total}

module _ {V : Type 0} where
  from_entries_of : (m : FinMap byte_order V) → from_sorted (entries m) ≡ m
  from_entries_of m = same_entries_map (from_sorted (entries m)) m (entries-from_sorted byte_order (entries m) (entries_sorted m))

  entries-remove : (m : FinMap byte_order V) (k : List ℕ) → entries (remove m k) ≡ without k (entries m)
  entries-remove m k =
      ap entries (ap (λ (n : FinMap byte_order V). remove n k) (sym (from_entries_of m)) ∙ sym (from_sorted_without (entries m) (entries_sorted m) k))
      ∙ entries-from_sorted byte_order (without k (entries m)) (in_order_without (entries m) (entries_sorted m) k)

  pub entries-empty : entries {X = V} {R = byte_order} empty ≡ []
  entries-empty = ap entries (sym (from_sorted_none {X = V})) ∙ entries-from_sorted byte_order [] tt

  module _ (scale : Scale V) where
    -- an item put under a name
    pub weighed_put : (k : List ℕ) (v : V) (es : List (List ℕ × V)) → IsInOrder es
        → weighed scale (put byte_order k v es) + weight scale k (find byte_order k es)
        ≡ weighed scale es + scale k v
    weighed_put k v [] h = omega arith
    weighed_put k v (e ∷ es) h =
        elim (byte_order k e.0) as (λ o. byte_order k e.0 ≡ o
        → weighed scale (by_order o ((k, v) ∷ e ∷ es) ((e.0, v) ∷ es) (e ∷ put byte_order k v es))
        + weight scale k (cond (is_eq o) (Some e.1) (find byte_order k es))
        ≡ scale e.0 e.1 + weighed scale es + scale k v) [
          | Less ↦ λ is.
              let none : find byte_order k es ≡ None =
              find_below byte_order total k es (below_trans byte_order total k e.0 es is (first _ _ h)) in
              omega (arith, ap (weight scale k) none)
          | Equal ↦ λ is.
              let same : k ≡ e.0 = byte_order_antisymmetric k e.0 is in
              omega (arith, ap (λ (n : List ℕ). scale n v) same, ap (λ (n : List ℕ). scale n e.1) same)
          | Greater ↦ λ is. omega (arith, weighed_put k v es (second _ _ h))
        ] refl

    -- an item taken away
    weighed_without : (k : List ℕ) (es : List (List ℕ × V)) → IsInOrder es
        → weighed scale (without k es) + weight scale k (find byte_order k es) ≡ weighed scale es
    weighed_without k [] h = omega arith
    weighed_without k (e ∷ es) h =
        elim (byte_order k e.0) as (λ o. byte_order k e.0 ≡ o
        → weighed scale (cond (not (is_eq o)) (e ∷ without k es) (without k es))
        + weight scale k (cond (is_eq o) (Some e.1) (find byte_order k es))
        ≡ scale e.0 e.1 + weighed scale es) [
          | Less ↦ λ is. omega (arith, weighed_without k es (second _ _ h))
          | Equal ↦ λ is.
              let none : find byte_order k es ≡ None =
              find_below byte_order total k es (below_tied byte_order total k e.0 es is (first _ _ h)) in
              let same : k ≡ e.0 = byte_order_antisymmetric k e.0 is in
              omega (
                arith,
                ap (weight scale k) none,
                ap (λ (n : List ℕ). scale n e.1) same,
                weighed_without k es (second _ _ h),
              )
          | Greater ↦ λ is. omega (arith, weighed_without k es (second _ _ h))
        ] refl

    pub weighed-insert : (m : FinMap byte_order V) (k : List ℕ) (v : V)
        → weighed scale (entries (insert m k v)) + weight scale k (get m k)
        ≡ weighed scale (entries m) + scale k v
    weighed-insert m k v =
        omega (
          arith,
          ap (weighed scale) (entries-insert total m k v),
          weighed_put k v (entries m) (entries_sorted m),
          ap (weight scale k) (get-entries m k),
        )

    pub weighed-remove : (m : FinMap byte_order V) (k : List ℕ)
        → weighed scale (entries (remove m k)) + weight scale k (get m k) ≡ weighed scale (entries m)
    weighed-remove m k =
        omega (
          arith,
          ap (weighed scale) (entries-remove m k),
          weighed_without k (entries m) (entries_sorted m),
          ap (weight scale k) (get-entries m k),
        )

-- types and objects of collections
pub size_is : (c : Contents) → size c ≡ weighed by_objects (entries c)
size_is c = omega (arith, len-entries c, sized_is (entries c))

pub size-remove : (c : Contents) (k : List ℕ)
    → size (remove c k) + weight by_objects k (get c k) ≡ size c
size-remove c k = omega (arith, size_is c, size_is (remove c k), weighed-remove by_objects c k)

pub size-insert : (c : Contents) (k : List ℕ) (t held : Table) → get c k ≡ Some held
    → size (insert c k t) + object_count held ≡ size c + object_count t
size-insert c k t held there =
    omega (
      arith,
      size_is c,
      size_is (insert c k t),
      weighed-insert by_objects c k t,
      ap (weight by_objects k) there,
    )

pub count_within : (c : Contents) (k : List ℕ) (held : Table) → get c k ≡ Some held
    → object_count held ≤ size c
count_within c k held there =
    omega (arith, size-remove c k, ap (weight by_objects k) there)

pub size-empty : (c : Contents) → c ≡ empty → 0 ≡ size c
size-empty c is = omega (arith, size_is c, ap (weighed by_objects) (ap entries is ∙ entries-empty))
