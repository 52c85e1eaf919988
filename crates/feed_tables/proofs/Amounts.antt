-- The bytes of objects, before and after some change.
use Rattle.std.proofs.Common.{◌≡◌, ◌≤◌, ◌<◌, min, ℕ, ◌+◌, ◌-◌, List, [], ◌∷◌, ◌++◌, length, map, fold, flat_map, Option, None, Some, ap, sym, ◌∙◌, refl, arith}
use Rattle.std.specs.FinMap.{FinMap, empty, get, insert, remove, entries, entries_sorted, len, len-entries}
use Rattle.feed_tables.specs.Amounts.{in_type, by_bytes, bytes, changes_bytes, bytes_lost, bytes_come, lost_at, come_at, by_lost, by_come, by_bytes_after}
use Rattle.feed_tables.specs.Bytes.{byte_order, IsInOrder}
use Rattle.feed_changes.specs.Changes.{sets, change_bytes}
use Rattle.feed_tables.specs.Listings.{ListingHasBytes, ChangesAddBytes}
use Rattle.feed_tables.specs.Map.{map_over, map_less}
use Rattle.feed_tables.specs.ChangedIds.{merged, with_ids, with_all_ids}
use Rattle.feed_tables.specs.Tables.{Contents, no_objects, objects_or_none, without_id, after, listed, or_clear}
use Rattle.feed_tables.specs.Walks.{weight, weighed, weighed_in, AreIn}
use Rattle.feed_changes.specs.declared.change.Change.{Change}
use Rattle.feed_changes.specs.declared.change.Change.TheVariants.{Set, Remove, Empty, Single, Clear}
use Rattle.feed_tables.specs.declared.ids.Ids.{Ids}
use Rattle.feed_tables.specs.declared.table.Table.{Table}
use Rattle.feed_tables.specs.declared.table.Table.TheVariants.{One, Many}
use Rattle.feed_tables.proofs.Changing.{Changed, step}
use Rattle.feed_tables.proofs.ChangedSizes.{in_stepped, changed_entry, entries_changed}
use Rattle.feed_tables.proofs.Entries.{first, second}
use Rattle.feed_tables.proofs.Held.{in_same}
use Rattle.feed_tables.proofs.PatchSizes.{weighed_over, weighed_less, weighed_kept}
use Rattle.feed_tables.proofs.Sizes.{weighed-insert, weighed-remove, entries-empty}

-- the objects of one type
table_changed : (k : List ℕ) (ids : Ids) (t : Table)
    → by_bytes k (merged t ids) + bytes_lost k ids t ≡ by_bytes k t + bytes_come k ids t
table_changed k ids (One object) = omega arith
table_changed k ids (Many objects) =
    let scale = in_type (length k) in
    omega (
      arith,
      weighed_over scale ids.sets (map_less ids.gone objects),
      weighed_less scale ids.gone objects,
    )

lost_of_table : (k : List ℕ) (ids : Ids) (t : Table) → bytes_lost k ids t ≤ by_bytes k t
lost_of_table k ids (One object) = omega arith
lost_of_table k ids (Many objects) =
    let scale = in_type (length k) in
    omega (
      arith,
      weighed_less scale ids.sets (map_less ids.gone objects),
      weighed_less scale ids.gone objects,
    )

-- and of all, where those of one type change
pub bytes_changed : (c : Contents) (k : List ℕ) (ids : Ids) (t : Table) → get c k ≡ Some t
    → bytes (insert c k (merged t ids)) + bytes_lost k ids t ≡ bytes c + bytes_come k ids t
bytes_changed c k ids t there =
    omega (
      arith,
      weighed-insert by_bytes c k (merged t ids),
      ap (weight by_bytes k) there,
      table_changed k ids t,
    )

pub lost_within : (c : Contents) (k : List ℕ) (ids : Ids) (t : Table) → get c k ≡ Some t
    → bytes_lost k ids t ≤ bytes c
lost_within c k ids t there =
    omega (
      arith,
      weighed-remove by_bytes c k,
      ap (weight by_bytes k) there,
      lost_of_table k ids t,
    )

pub bytes-empty : (c : Contents) → c ≡ empty → 0 ≡ bytes c
bytes-empty c is = omega (arith, ap (weighed by_bytes) (ap entries is ∙ entries-empty))

-- ---- where objects of several types change
module _ (changed : Changed) where
  bytes_step : (c : Contents) (e : List ℕ × Ids) → get changed e.0 ≡ Some e.1
      → weighed by_bytes (entries (step c e)) + weight (by_lost changed) e.0 (get c e.0)
      ≡ weighed by_bytes (entries c) + weight (by_come changed) e.0 (get c e.0)
  bytes_step c e is =
      elim (get c e.0) as (λ o. get c e.0 ≡ o
      → weighed by_bytes (entries (with_ids c e.0 e.1 o)) + weight (by_lost changed) e.0 o
      ≡ weighed by_bytes (entries c) + weight (by_come changed) e.0 o) [
        | None ↦ λ held. refl
        | Some table ↦ λ held.
            omega (
              arith,
              bytes_changed c e.0 e.1 table held,
              ap (λ (i : Option Ids). lost_at e.0 i table) is,
              ap (λ (i : Option Ids). come_at e.0 i table) is,
            )
      ] refl

  bytes_fold : (es : List (List ℕ × Ids)) (c : Contents) → IsInOrder es → AreIn changed es
      → weighed by_bytes (entries (fold step c es)) + weighed_in (by_lost changed) c es
      ≡ weighed by_bytes (entries c) + weighed_in (by_come changed) c es
  bytes_fold [] c h p = refl
  bytes_fold (e ∷ es) c h p =
      omega (
        arith,
        bytes_fold es (step c e) (second _ _ h) p.1,
        bytes_step c e p.0,
        in_stepped changed (by_lost changed) c e es (first _ _ h),
        in_stepped changed (by_come changed) c e es (first _ _ h),
      )

  bytes_moved : (c : Contents)
      → bytes (with_all_ids changed c) + weighed_in (by_lost changed) c (entries changed)
      ≡ bytes c + weighed_in (by_come changed) c (entries changed)
  bytes_moved c = bytes_fold (entries changed) c (entries_sorted changed) (in_same changed changed refl)

  lost_of_held : (k : List ℕ) (i : Option Ids) (o : Option Table) → get changed k ≡ i
      → weight (by_lost changed) k o ≤ weight by_bytes k o
  lost_of_held k i None is = omega arith
  lost_of_held k None (Some t) is = omega (arith, ap (λ (j : Option Ids). lost_at k j t) is)
  lost_of_held k (Some ids) (Some t) is =
      omega (arith, ap (λ (j : Option Ids). lost_at k j t) is, lost_of_table k ids t)

  lost_of_all : (es : List (List ℕ × Ids)) (c : Contents)
      → weighed_in (by_lost changed) c es ≤ weighed_in by_bytes c es
  lost_of_all [] c = omega arith
  lost_of_all (e ∷ es) c = omega (arith, lost_of_all es c, lost_of_held e.0 (get changed e.0) (get c e.0) refl)

  -- by what is lost and what comes
  pub bytes_by_changes : (c : Contents) (s b z a r : ℕ)
      → s ≡ min (bytes c) 18446744073709551615 → s < 18446744073709551615
      → b ≡ min (weighed_in (by_lost changed) c (entries changed)) 18446744073709551615
      → a ≡ min (weighed_in (by_come changed) c (entries changed)) 18446744073709551615
      → z ≡ s - b → r ≡ min (z + a) 18446744073709551615
      → r ≡ min (bytes (with_all_ids changed c)) 18446744073709551615
  bytes_by_changes c s b z a r s_is fits b_is a_is z_is r_is =
      omega (
        arith,
        bytes_moved c,
        lost_of_all (entries changed) c,
        weighed_less by_bytes changed c,
        s_is,
        fits,
        b_is,
        a_is,
        z_is,
        r_is,
      )

  bytes_same : (es : List (List ℕ × Table))
      → weighed by_bytes (map (changed_entry changed) es) ≡ weighed (by_bytes_after changed) es
  bytes_same [] = refl
  bytes_same (e ∷ es) = omega (arith, bytes_same es)

  -- and by all types, where they are too many to be counted
  pub bytes_by_all : (items lost : Contents) (kept come r : ℕ)
      → kept ≡ min (weighed (by_bytes_after changed) (entries (map_less items lost))) 18446744073709551615
      → come ≡ min (weighed (by_bytes_after changed) (entries items)) 18446744073709551615
      → r ≡ min (kept + come) 18446744073709551615
      → r ≡ min (bytes (with_all_ids changed (map_over items lost))) 18446744073709551615
  bytes_by_all items lost kept come r kept_is come_is r_is =
      let all = map_over items lost in
      weighed_kept (by_bytes_after changed) lost items kept come r kept_is come_is r_is
      ∙ ap (λ (n : ℕ). min n 18446744073709551615)
      (sym (ap (weighed by_bytes) (entries_changed changed all) ∙ bytes_same (entries all)))

-- nothing is taken out, and nothing put in
no_entries : {V : Type 0} (es : List (List ℕ × V)) → length es ≡ 0 → es ≡ []
no_entries [] h = refl
no_entries (e ∷ es) h = absurd (omega (arith, h))

pub over_nothing_less : {V W : Type 0} (gone : FinMap byte_order W) (items m : FinMap byte_order V)
    → len gone ≡ 0 → len items ≡ 0 → m ≡ map_over items (map_less gone m)
over_nothing_less {V} {W} gone items m g i =
    sym (
    ap (λ (es : List (List ℕ × V)). fold (λ n e. insert n e.0 e.1) (map_less gone m) es)
    (no_entries (entries items) (sym (len-entries items) ∙ i))
    ∙ ap (λ (es : List (List ℕ × W)). fold (λ n e. remove n e.0) m es)
    (no_entries (entries gone) (sym (len-entries gone) ∙ g)))

-- ---- what changes put in
pub bytes-append : (a b : List Change) → changes_bytes (a ++ b) ≡ changes_bytes a + changes_bytes b
bytes-append [] b = omega arith
bytes-append (c ∷ a) b = omega (arith, bytes-append a b)

bytes-sets : (kind : List ℕ) (es : List (List ℕ × List ℕ))
    → changes_bytes (sets kind es) ≡ weighed (in_type (length kind)) es
bytes-sets kind [] = refl
bytes-sets kind (e ∷ es) = omega (arith, bytes-sets kind es)

bytes-listed : (e : List ℕ × Table) → changes_bytes (listed e) ≡ by_bytes e.0 e.1
bytes-listed (kind, One object) = omega arith
bytes-listed (kind, Many objects) = omega (arith, bytes-sets kind (entries objects))

bytes-listings : (es : List (List ℕ × Table)) → changes_bytes (flat_map listed es) ≡ weighed by_bytes es
bytes-listings [] = refl
bytes-listings (e ∷ es) =
    omega (
      arith,
      bytes-append (listed e) (flat_map listed es),
      bytes-listed e,
      bytes-listings es,
    )

bytes-or_clear : (changes : List Change) → changes_bytes (or_clear changes) ≡ changes_bytes changes
bytes-or_clear [] = refl
bytes-or_clear (c ∷ cs) = refl

pub listing_has_bytes : ListingHasBytes
listing_has_bytes contents =
    bytes-or_clear (flat_map listed (entries contents)) ∙ bytes-listings (entries contents)

-- ---- and what they add at most
none_of : (kind : List ℕ) → weighed (in_type (length kind)) (entries no_objects) ≡ 0
none_of kind = ap (weighed (in_type (length kind))) entries-empty

held_bytes : (kind : List ℕ) (o : Option Table)
    → weighed (in_type (length kind)) (entries (objects_or_none o)) ≤ weight by_bytes kind o
held_bytes kind None = omega (arith, none_of kind)
held_bytes kind (Some (One object)) = omega (arith, none_of kind)
held_bytes kind (Some (Many objects)) = omega arith

less_bytes : (c : Contents) (kind id : List ℕ) (o : Option Table) → get c kind ≡ o
    → bytes (without_id c kind id o) ≤ bytes c
less_bytes c kind id None is = omega arith
less_bytes c kind id (Some (One object)) is = omega arith
less_bytes c kind id (Some (Many objects)) is =
    omega (
      arith,
      weighed-insert by_bytes c kind (Many (remove objects id)),
      weighed-remove (in_type (length kind)) objects id,
      ap (weight by_bytes kind) is,
    )

after_adds : (c : Contents) (change : Change) → bytes (after c change) ≤ bytes c + change_bytes change
unfolding after
after_adds c (Set kind id object) =
    let objects = objects_or_none (get c kind) in
    omega (
      arith,
      weighed-insert by_bytes c kind (Many (insert objects id object)),
      weighed-insert (in_type (length kind)) objects id object,
      held_bytes kind (get c kind),
    )
after_adds c (Remove kind id) = omega (arith, less_bytes c kind id (get c kind) refl)
after_adds c (Empty kind) =
    omega (arith, weighed-insert by_bytes c kind (Many no_objects), none_of kind)
after_adds c (Single kind object) = omega (arith, weighed-insert by_bytes c kind (One object))
after_adds c (Clear kind) = omega (arith, weighed-remove by_bytes c kind)

pub changes_add_bytes : ChangesAddBytes
changes_add_bytes c [] = omega arith
changes_add_bytes c (change ∷ changes) =
    omega (arith, changes_add_bytes (after c change) changes, after_adds c change)
