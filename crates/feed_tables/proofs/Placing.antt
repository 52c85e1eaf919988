-- An object that is put in a collection, which is there.
use Rattle.std.proofs.Common.{◌≡◌, ℕ, ◌+◌, ◌≤◌, ◌<◌, min, Bool, true, false, true≢false, cond, List, Option, None, Some, sym, ap, subst, ◌∙◌, arith}
use Rattle.std.specs.Prelude.{IsSome}
use Rattle.std.specs.FinMap.{get, insert, len, len-insert, contains_key}
use Rattle.feed_changes.specs.Changes.{type_of}
use Rattle.feed_tables.specs.Placing.{PutsObject, HasPlace, Fits}
use Rattle.feed_changes.specs.declared.change.Change.{Change}
use Rattle.feed_changes.specs.declared.change.Change.TheVariants.{Set, Remove, Empty, Single, Clear}
use Rattle.feed_tables.specs.ChangedIds.{over_ids, with_ids}
use Rattle.feed_tables.specs.Tables.{Contents, Objects, collection_of, objects_or_none, size, after, with_object}
use Rattle.feed_tables.specs.declared.ids.Ids.{Ids}
use Rattle.feed_tables.specs.declared.table.Table.{Table}
use Rattle.feed_tables.specs.declared.table.Table.TheVariants.{One, Many}
use Rattle.feed_changes.proofs.Order.{total}
use Rattle.feed_tables.proofs.Sizes.{size-insert}

-- objects that change by one that is put in are the collection with it
pub placed_is : (m : Contents) (k id object : List ℕ) (ids : Ids)
    → IsSome (collection_of (get m k)) → ((objects : Objects) → over_ids objects ids ≡ insert objects id object)
    → with_ids m k ids (get m k) ≡ with_object m k id object
placed_is m k id object ids some made = by (get m k) some
  where
    by : (t : Option Table) → IsSome (collection_of t)
        → with_ids m k ids t ≡ insert m k (Many (insert (objects_or_none t) id object))
    by None none = absurd (true≢false (sym none))
    by (Some (One o)) none = absurd (true≢false (sym none))
    by (Some (Many objects)) there = ap (λ (os : Objects). insert m k (Many os)) (made objects)

one_more : (objects : Objects) (id object : List ℕ) → len (insert objects id object) ≤ len objects + 1
one_more objects id object = by (contains_key objects id) (len-insert total objects id object)
  where
    by : (b : Bool) → len (insert objects id object) ≡ cond b (len objects) (len objects + 1) → len (insert objects id object) ≤ len objects + 1
    by true e = omega (arith, e)
    by false e = omega (arith, e)

-- it makes them one larger at most
fits_more : (m : Contents) (k id object : List ℕ) (objects : Objects) (n most : ℕ)
    → get m k ≡ Some (Many objects) → n ≡ min (size m) 18446744073709551615 → n < most → most ≤ 18446744073709551615
    → size (with_object m k id object) ≤ most
fits_more m k id object objects n most there n_is less bound =
    let more = size-insert m k (Many (insert objects id object)) (Many objects) there in
    let one = one_more objects id object in
    let same = ap (λ (t : Option Table). size (insert m k (Many (insert (objects_or_none t) id object)))) there in
    omega (arith, more, one, same, n_is, less, bound)

pub fits_change : (m : Contents) (change : Change) (objects : Objects) (n most : ℕ) → PutsObject change
    → get m (type_of change) ≡ Some (Many objects) → n ≡ min (size m) 18446744073709551615 → n < most → most ≤ 18446744073709551615
    → Fits m change most
unfolding after
fits_change m (Set k id object) objects n most puts there n_is less bound = fits_more m k id object objects n most there n_is less bound
fits_change m (Remove k id) objects n most puts there n_is less bound = absurd puts
fits_change m (Empty k) objects n most puts there n_is less bound = absurd puts
fits_change m (Single k object) objects n most puts there n_is less bound = absurd puts
fits_change m (Clear k) objects n most puts there n_is less bound = absurd puts

pub placed_after : (m : Contents) (change : Change) (k id object q : List ℕ) (ids : Ids) → change ≡ Set k id object → q ≡ k
    → HasPlace m change → ((objects : Objects) → over_ids objects ids ≡ insert objects id object)
    → with_ids m q ids (get m q) ≡ after m change
unfolding after
placed_after m change k id object q ids is q_is place made =
    ap (λ (n : List ℕ). with_ids m n ids (get m n)) q_is
    ∙ placed_is m k id object ids (subst (HasPlace m) is place) made
    ∙ ap (after m) (sym is)
