-- What a listing has: one change for each type and object, within the limits where its tables were
-- made so.
use Rattle.std.proofs.Common.{◌≡◌, refl, sym, ap, ◌∙◌, subst, ℕ, ◌+◌, true, false, cond, arith, max, List, [], ◌∷◌, length, Option, Some, None, length-append, flat_map}
use Rattle.std.specs.Prelude.{IfSome}
use Rattle.std.specs.List.{AllByRecursion}
use Rattle.std.specs.Ordering.{eq_by_cmp}
use Rattle.std.specs.FinMap.{FinMap, get, insert, remove, entries, entries_sorted, find, empty, from_sorted, entries-from_sorted, entries-insert, get-entries, same_entries_map, len-entries, len-empty}
use Rattle.std.proofs.lemmas.List.Elements.{recursion_from_All}
use Rattle.feed_text.specs.Objects.{IsObjectText}
use Rattle.feed_tables.specs.Bytes.{byte_order, without}
use Rattle.feed_changes.specs.Changes.{IsChange, sets}
use Rattle.feed_tables.specs.Listings.{ListingHasSize}
use Rattle.feed_changes.specs.Names.{IsName}
use Rattle.feed_tables.specs.Objects.{AreObjects}
use Rattle.feed_tables.specs.Tables.{Contents, no_objects, no_tables, objects_or_none, without_id, after, after_all, listed, or_clear, listing, object_count, IsTable, AreTypes}
use Rattle.feed_changes.specs.declared.change.Change.{Change}
use Rattle.feed_changes.specs.declared.change.Change.TheVariants.{Set, Remove, Empty, Single, Clear}
use Rattle.feed_tables.specs.declared.table.Table.{Table}
use Rattle.feed_tables.specs.declared.table.Table.TheVariants.{One, Many}
use Rattle.feed_changes.proofs.Order.{total}
use Rattle.feed_tables.proofs.Maps.{in_order_without, from_sorted_without}
use Rattle.feed_tables.proofs.Within.{AllNamed, named_put, all-filter, listing_within}
use Rattle.feed_tables.specs.Walks.{weighed, by_objects}
use Rattle.feed_tables.proofs.Sizes.{size_is}

-- ---- how many changes there are

length-sets : (kind : List ℕ) (es : List (List ℕ × List ℕ)) → length (sets kind es) ≡ length es
length-sets kind [] = refl
length-sets kind (e ∷ es) = omega (arith, length-sets kind es)

length-listed : (e : List ℕ × Table) → length (listed e) ≡ 1 + object_count e.1
length-listed (kind, One object) = refl
length-listed (kind, Many objects) = omega (arith, length-sets kind (entries objects), len-entries objects)

length-listings : (es : List (List ℕ × Table)) → length (flat_map listed es) ≡ weighed by_objects es
length-listings [] = refl
length-listings (e ∷ es) =
    length-append (listed e) (flat_map listed es)
    ∙ (let a = length-listed e in let b = length-listings es in omega arith)

at_least_one : (changes : List Change) → length (or_clear changes) ≡ max 1 (length changes)
at_least_one [] = refl
at_least_one (c ∷ cs) = omega arith

pub listing_has_size : ListingHasSize
listing_has_size contents =
    at_least_one (flat_map listed (entries contents)) ∙ ap (max 1) (length-listings (entries contents) ∙ sym (size_is contents))

-- ---- what they hold

module _ {X : Type 0} (Q : X → Type 0) where
  named_insert : (m : FinMap byte_order X) (k : List ℕ) (v : X) → IsName k → Q v → AllNamed Q (entries m) → AllNamed Q (entries (insert m k v))
  named_insert m k v n h p = subst (AllNamed Q) (sym (entries-insert total m k v)) (named_put Q k v (entries m) n h p)

  entries_without : (m : FinMap byte_order X) (k : List ℕ) → entries (remove m k) ≡ without k (entries m)
  entries_without m k =
      let again : from_sorted (entries m) ≡ m = same_entries_map _ _ (entries-from_sorted byte_order (entries m) (entries_sorted m)) in
      ap (λ (n : FinMap byte_order X). entries (remove n k)) (sym again)
      ∙ ap entries (sym (from_sorted_without (entries m) (entries_sorted m) k))
      ∙ entries-from_sorted byte_order (without k (entries m)) (in_order_without (entries m) (entries_sorted m) k)

  named_remove : (m : FinMap byte_order X) (k : List ℕ) → AllNamed Q (entries m) → AllNamed Q (entries (remove m k))
  named_remove m k p = subst (AllNamed Q) (sym (entries_without m k)) (all-filter (λ e. IsName e.0 × Q e.1) _ (entries m) p)

  named_find : (q : List ℕ) (es : List (List ℕ × X)) → AllNamed Q es → IfSome (find byte_order q es) Q
  named_find q [] p = tt
  named_find q (e ∷ es) p =
      elim (eq_by_cmp byte_order q e.0) as (λ b. IfSome (cond b (Some e.1) (find byte_order q es)) Q) [
        | true ↦ p.0.1
        | false ↦ named_find q es p.1
      ]

  named_get : (m : FinMap byte_order X) (q : List ℕ) → AllNamed Q (entries m) → IfSome (get m q) Q
  named_get m q p = subst (λ o. IfSome o Q) (sym (get-entries m q)) (named_find q (entries m) p)

  none_named : AllNamed Q (entries {R = byte_order} empty)
  none_named = by (entries empty) refl
    where
      by : (es : List (List ℕ × X)) → es ≡ entries {R = byte_order} empty → AllNamed Q es
      by [] e = tt
      by (x ∷ xs) e = let l = sym (len-empty byte_order X) ∙ len-entries empty in let m = ap length e in absurd (omega arith)

objects_within : (t : Option Table) → IfSome t IsTable → AreObjects (entries (objects_or_none t))
objects_within None p = none_named IsObjectText
objects_within (Some (One object)) p = none_named IsObjectText
objects_within (Some (Many objects)) p = p

within_without_id : (contents : Contents) (kind id : List ℕ) (t : Option Table) → IsName kind → IfSome t IsTable → AreTypes (entries contents) → AreTypes (entries (without_id contents kind id t))
within_without_id contents kind id None n h p = p
within_without_id contents kind id (Some (One object)) n h p = p
within_without_id contents kind id (Some (Many objects)) n h p = named_insert IsTable contents kind (Many (remove objects id)) n (named_remove IsObjectText objects id h) p

within_after : (contents : Contents) (c : Change) → IsChange c → AreTypes (entries contents) → AreTypes (entries (after contents c))
unfolding after
within_after contents (Set kind id object) h p =
    named_insert IsTable contents kind (Many (insert (objects_or_none (get contents kind)) id object)) h.0
    (named_insert IsObjectText (objects_or_none (get contents kind)) id object h.1 h.2 (objects_within (get contents kind) (named_get IsTable contents kind p))) p
within_after contents (Remove kind id) h p = within_without_id contents kind id (get contents kind) h.0 (named_get IsTable contents kind p) p
within_after contents (Empty kind) h p = named_insert IsTable contents kind (Many no_objects) h (none_named IsObjectText) p
within_after contents (Single kind object) h p = named_insert IsTable contents kind (One object) h.0 h.1 p
within_after contents (Clear kind) h p = named_remove IsTable contents kind p

within_all : (contents : Contents) (changes : List Change) → AllByRecursion IsChange changes → AreTypes (entries contents) → AreTypes (entries (after_all contents changes))
within_all contents [] h p = p
within_all contents (c ∷ cs) h p = within_all (after contents c) cs h.1 (within_after contents c h.0 p)

pub listing_is_within : (changes : List Change) → AllByRecursion IsChange changes → AllByRecursion IsChange (listing (after_all no_tables changes))
listing_is_within changes h = recursion_from_All IsChange _ (listing_within (after_all no_tables changes) (within_all no_tables changes h (none_named IsTable)))
