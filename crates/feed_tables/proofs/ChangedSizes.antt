-- The size of contents after objects changed in some of their collections.
use Rattle.std.proofs.Common.{Bool, true, false, cond, ◌&&◌, min, nat_lt, T, ◌≡◌, ℕ, ◌+◌, ◌-◌, ◌≤◌, ◌<◌, List, [], ◌∷◌, ◌++◌, length, map, Option, None, Some, fold, sym, ap, ◌∙◌, refl, subst, arith}
use Rattle.std.specs.declared.alloc.Global.{Global}
use Rattle.std.specs.declared.boxed.Box.{Box}
use Rattle.std.specs.Ordering.{is_lt, eq_by_cmp}
use Rattle.std.proofs.lemmas.Bool.{le-ltb}
use Rattle.std.specs.FinMap.{FinMap, find, get, entries, entries_sorted, from_sorted, entries-from_sorted, get-from_sorted, get-entries, get_tied, is_sorted, len, len-entries}
use Rattle.std.specs.FinMap.Entries.{below_all}
use Rattle.feed_tables.specs.Bytes.{byte_order, IsInOrder}
use Rattle.feed_tables.specs.Map.{map_over, map_less}
use Rattle.feed_tables.specs.ChangedIds.{over_ids, merged, changed_table, merged_at, with_ids, with_all_ids, count_after, after_ids, sets_in}
use Rattle.feed_tables.specs.Tables.{Objects, Contents, object_count, size}
use Rattle.feed_tables.specs.Tree.{entries_of}
use Rattle.feed_tables.specs.declared.tree.Fork.{Fork}
use Rattle.feed_tables.specs.declared.tree.Node.{Node}
use Rattle.feed_tables.specs.declared.tree.Node.TheVariants.{Fork as a_fork}
use Rattle.feed_tables.specs.Walks.{Scale, weight, weighed, weighed_in, each_one, by_objects, AreIn}
use Rattle.feed_tables.specs.declared.ids.Ids.{Ids}
use Rattle.feed_tables.specs.declared.table.Table.{Table}
use Rattle.feed_tables.specs.declared.table.Table.TheVariants.{One, Many}
use Rattle.feed_changes.proofs.Order.{total}
use Rattle.feed_tables.proofs.Entries.{first, second, equal}
use Rattle.feed_tables.proofs.Changing.{Changed, step, get-step, get-changed}
use Rattle.feed_tables.proofs.Held.{in_same}
use Rattle.feed_tables.proofs.MapsOver.{same_gets}
use Rattle.feed_tables.proofs.PatchSizes.{in_changed, weighed_over, weighed_less, weighed_kept}
use Rattle.feed_tables.proofs.Sizes.{weighed-insert, size_is}

-- each object counts as one
one_each : (es : List (List ℕ × List ℕ)) → weighed each_one es ≡ length es
one_each [] = refl
one_each (e ∷ es) = omega (arith, one_each es)

pub len_is : (m : Objects) → len m ≡ weighed each_one (entries m)
len_is m = omega (arith, len-entries m, one_each (entries m))

module _ (changed : Changed) where
  -- what the types weigh whose objects change: before, and after
  size_step : (c : Contents) (e : List ℕ × Ids) → get changed e.0 ≡ Some e.1
      → weighed by_objects (entries (step c e)) + weight by_objects e.0 (get c e.0)
      ≡ weighed by_objects (entries c) + weight (after_ids changed) e.0 (get c e.0)
  size_step c e is =
      elim (get c e.0) as (λ o. get c e.0 ≡ o
      → weighed by_objects (entries (with_ids c e.0 e.1 o)) + weight by_objects e.0 o
      ≡ weighed by_objects (entries c) + weight (after_ids changed) e.0 o) [
        | None ↦ λ held. refl
        | Some table ↦ λ held.
            let count : count_after table (get changed e.0) ≡ object_count (merged table e.1) =
            ap (count_after table) is in
            omega (
              arith,
              weighed-insert by_objects c e.0 (merged table e.1),
              ap (weight by_objects e.0) held,
              count,
            )
      ] refl

  pub in_stepped : (scale : Scale Table) (c : Contents) (e : List ℕ × Ids) (es : List (List ℕ × Ids))
      → T (below_all byte_order e.0 es)
      → weighed_in scale (step c e) es ≡ weighed_in scale c es
  in_stepped scale c e es h =
      in_changed scale c (step c e) e.0 es
      (λ x is. get-step c e x
      ∙ ap (λ (b : Bool). cond b (merged_at (get c x) (Some e.1)) (get c x)) is) h

  size_fold : (es : List (List ℕ × Ids)) (c : Contents) → IsInOrder es → AreIn changed es
      → weighed by_objects (entries (fold step c es)) + weighed_in by_objects c es
      ≡ weighed by_objects (entries c) + weighed_in (after_ids changed) c es
  size_fold [] c h p = refl
  size_fold (e ∷ es) c h p =
      omega (
        arith,
        size_fold es (step c e) (second _ _ h) p.1,
        size_step c e p.0,
        in_stepped by_objects c e es (first _ _ h),
        in_stepped (after_ids changed) c e es (first _ _ h),
      )

  pub size_changed : (c : Contents)
      → size (with_all_ids changed c) + weighed_in by_objects c (entries changed)
      ≡ size c + weighed_in (after_ids changed) c (entries changed)
  size_changed c =
      omega (
        arith,
        size_is c,
        size_is (with_all_ids changed c),
        size_fold (entries changed) c (entries_sorted changed) (in_same changed changed refl),
      )

  -- the entries after objects changed
  abbrev pub changed_entry : List ℕ × Table → List ℕ × Table
  changed_entry e = (e.0, changed_table e.1 (get changed e.0))

  below_same : (k : List ℕ) (es : List (List ℕ × Table))
      → below_all byte_order k (map changed_entry es) ≡ below_all byte_order k es
  below_same k [] = refl
  below_same k (e ∷ es) = ap (λ (b : Bool). is_lt (byte_order k e.0) && b) (below_same k es)

  sorted_same : (es : List (List ℕ × Table))
      → is_sorted byte_order (map changed_entry es) ≡ is_sorted byte_order es
  sorted_same [] = refl
  sorted_same (e ∷ es) =
      ap (λ (b : Bool). b && is_sorted byte_order (map changed_entry es)) (below_same e.0 es)
      ∙ ap (λ (b : Bool). below_all byte_order e.0 es && b) (sorted_same es)

  table_same : (t : Table) (i : Option Ids) → Some (changed_table t i) ≡ merged_at (Some t) i
  table_same t None = refl
  table_same t (Some i) = refl

  find_changed : (q : List ℕ) (es : List (List ℕ × Table))
      → find byte_order q (map changed_entry es) ≡ merged_at (find byte_order q es) (get changed q)
  find_changed q [] = refl
  find_changed q (e ∷ es) =
      ap (λ (o : Option Table).
      cond (eq_by_cmp byte_order q e.0) (Some (changed_table e.1 (get changed e.0))) o)
      (find_changed q es)
      ∙ elim (eq_by_cmp byte_order q e.0) as (λ b. eq_by_cmp byte_order q e.0 ≡ b
      → cond b (Some (changed_table e.1 (get changed e.0))) (merged_at (find byte_order q es) (get changed q))
      ≡ merged_at (cond b (Some e.1) (find byte_order q es)) (get changed q)) [
        | true ↦ λ t.
            ap (λ (i : Option Ids). Some (changed_table e.1 i)) (get_tied total changed q e.0 (equal _ t))
            ∙ table_same e.1 (get changed q)
        | false ↦ λ t. refl
      ] refl

  counted_same : (t : Table) (i : Option Ids) → object_count (changed_table t i) ≡ count_after t i
  counted_same t None = refl
  counted_same t (Some i) = refl

  weighed_same : (es : List (List ℕ × Table))
      → weighed by_objects (map changed_entry es) ≡ weighed (after_ids changed) es
  weighed_same [] = refl
  weighed_same (e ∷ es) = omega (arith, weighed_same es, counted_same e.1 (get changed e.0))

  pub entries_changed : (c : Contents) → entries (with_all_ids changed c) ≡ map changed_entry (entries c)
  entries_changed c =
      let sorted : IsInOrder (map changed_entry (entries c)) =
      subst (λ (b : Bool). T b) (sym (sorted_same (entries c))) (entries_sorted c) in
      let same : with_all_ids changed c ≡ from_sorted (map changed_entry (entries c)) =
      same_gets _ _ (λ q.
      get-changed changed c q
      ∙ ap (λ (o : Option Table). merged_at o (get changed q)) (get-entries c q)
      ∙ sym (find_changed q (entries c))
      ∙ sym (get-from_sorted byte_order (map changed_entry (entries c)) q sorted)) in
      ap (λ (m : Contents). entries m) same
      ∙ entries-from_sorted byte_order (map changed_entry (entries c)) sorted

  pub weighed_changed : (c : Contents)
      → size (with_all_ids changed c) ≡ weighed (after_ids changed) (entries c)
  weighed_changed c =
      size_is (with_all_ids changed c)
      ∙ ap (weighed by_objects) (entries_changed c)
      ∙ weighed_same (entries c)

  -- no more objects come than are put in
  more_ids : (m : Objects) (i : Ids) → len (over_ids m i) ≤ len m + len i.sets
  more_ids m i =
      omega (
        arith,
        len_is m,
        len_is i.sets,
        len_is (over_ids m i),
        weighed_over each_one i.sets (map_less i.gone m),
        weighed_less each_one i.gone m,
      )

  more_counted : (t : Table) (i : Ids) → object_count (merged t i) ≤ object_count t + len i.sets
  more_counted (One object) i = omega arith
  more_counted (Many objects) i = more_ids objects i

  more_at : (o : Option Table) (e : List ℕ × Ids) → get changed e.0 ≡ Some e.1
      → weight (after_ids changed) e.0 o ≤ weight by_objects e.0 o + len e.1.sets
  more_at None e is = omega arith
  more_at (Some t) e is = omega (arith, more_counted t e.1, ap (count_after t) is)

  more_in : (es : List (List ℕ × Ids)) (c : Contents) → AreIn changed es
      → weighed_in (after_ids changed) c es ≤ weighed_in by_objects c es + sets_in es
  more_in [] c p = omega arith
  more_in (e ∷ es) c p = omega (arith, more_in es c p.1, more_at (get c e.0) e p.0)

  pub size_at_most : (c : Contents) → size (with_all_ids changed c) ≤ size c + sets_in (entries changed)
  size_at_most c =
      omega (arith, size_changed c, more_in (entries changed) c (in_same changed changed refl))

  -- the size by what is lost and what comes
  pub size_by_changes : (c : Contents) (s b z a r : ℕ)
      → s ≡ min (size c) 18446744073709551615 → s < 18446744073709551615
      → b ≡ min (weighed_in by_objects c (entries changed)) 18446744073709551615
      → a ≡ min (weighed_in (after_ids changed) c (entries changed)) 18446744073709551615
      → z ≡ s - b → r ≡ min (z + a) 18446744073709551615
      → r ≡ min (size (with_all_ids changed c)) 18446744073709551615
  size_by_changes c s b z a r s_is fits b_is a_is z_is r_is =
      omega (
        arith,
        size_changed c,
        weighed_less by_objects changed c,
        size_is c,
        s_is,
        fits,
        b_is,
        a_is,
        z_is,
        r_is,
      )

  -- and by all types, where they are too many to be counted
  pub size_by_all : (items lost : Contents) (kept come r : ℕ)
      → kept ≡ min (weighed (after_ids changed) (entries (map_less items lost))) 18446744073709551615
      → come ≡ min (weighed (after_ids changed) (entries items)) 18446744073709551615
      → r ≡ min (kept + come) 18446744073709551615
      → r ≡ min (size (with_all_ids changed (map_over items lost))) 18446744073709551615
  size_by_all items lost kept come r kept_is come_is r_is =
      weighed_kept (after_ids changed) lost items kept come r kept_is come_is r_is
      ∙ ap (λ (n : ℕ). min n 18446744073709551615) (sym (weighed_changed (map_over items lost)))

  -- it is no more than what was there and what is put in
  pub size_within : {V : Type 0} (base items : Contents) (gone : FinMap byte_order V) (t i n come bound most : ℕ)
      → t ≡ min (size base) 18446744073709551615
      → i ≡ min (weighed by_objects (entries items)) 18446744073709551615
      → n ≡ min (sets_in (entries changed)) 18446744073709551615
      → come ≡ min (i + n) 18446744073709551615 → bound ≡ min (t + come) 18446744073709551615
      → bound ≤ most
      → false ≡ nat_lt most
      (min (size (with_all_ids changed (map_over items (map_less gone base)))) 18446744073709551615)
  size_within base items gone t i n come bound most t_is i_is n_is come_is bound_is within =
      sym (le-ltb most _ (omega (
        arith,
        size_at_most (map_over items (map_less gone base)),
        size_is (map_over items (map_less gone base)),
        weighed_over by_objects items (map_less gone base),
        weighed_less by_objects gone base,
        size_is base,
        t_is,
        i_is,
        n_is,
        come_is,
        bound_is,
        within,
      )))

-- how many objects are put in, at a fork
sets_in-append : (l r : List (List ℕ × Ids)) → sets_in (l ++ r) ≡ sets_in l + sets_in r
sets_in-append [] r = omega arith
sets_in-append (e ∷ l) r = omega (arith, sets_in-append l r)

pub sets_at : {n : Node Ids} {d : List (List ℕ × Ids)} {box : Box (Fork Ids) Global}
    → entries_of n ≡ d → n ≡ a_fork box → (f g h : Fork Ids)
    → f ≡ box.value → g ≡ box.value → h ≡ box.value → (a w x b y : ℕ)
    → a ≡ min (sets_in f.left) 18446744073709551615 → w ≡ min (len g.item.sets) 18446744073709551615
    → x ≡ min (a + w) 18446744073709551615 → b ≡ min (sets_in h.right) 18446744073709551615
    → y ≡ min (x + b) 18446744073709551615 → y ≡ min (sets_in d) 18446744073709551615
sets_at {n} {d} {box} view_is is f g h f_is g_is h_is a w x b y a_is w_is x_is b_is y_is =
    let whole : sets_in d ≡ sets_in box.value.left
    + (len box.value.item.sets + sets_in box.value.right) =
    ap sets_in (sym view_is ∙ ap entries_of is)
    ∙ sets_in-append box.value.left ((box.value.id, box.value.item) ∷ box.value.right) in
    let left : sets_in f.left ≡ sets_in box.value.left = ap (λ (k : Fork Ids). sets_in k.left) f_is in
    let here : len g.item.sets ≡ len box.value.item.sets =
    ap (λ (k : Fork Ids). len k.item.sets) g_is in
    let right : sets_in h.right ≡ sets_in box.value.right =
    ap (λ (k : Fork Ids). sets_in k.right) h_is in
    omega (arith, whole, left, here, right, a_is, w_is, x_is, b_is, y_is)
