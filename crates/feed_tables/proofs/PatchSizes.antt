-- What items weigh without some of them, and with some put in.
use Rattle.std.proofs.Common.{Bool, true, false, cond, not, min, T, Less, ◌≡◌, ℕ, ◌+◌, ◌-◌, ◌<◌, List, [], ◌∷◌, ◌++◌, Option, None, Some, fold, sym, ap, ◌∙◌, refl, arith}
use Rattle.std.specs.Option.{is_some}
use Rattle.std.specs.Ordering.{is_eq, eq_by_cmp}
use Rattle.std.specs.FinMap.{FinMap, empty, get, insert, remove, entries, entries_sorted, from_sorted, get-from_sorted, get-insert, get-remove, get_tied, find}
use Rattle.std.specs.FinMap.Entries.{below_all, find-where_key, is_sorted-where_key}
use Rattle.std.proofs.lemmas.List.Elements.{filter-append}
use Rattle.feed_tables.specs.Bytes.{byte_order, IsInOrder}
use Rattle.feed_tables.specs.Map.{map_over, map_less}
use Rattle.feed_tables.specs.Walks.{Scale, weight, weighed, weighed_in, is_besides, besides}
use Rattle.feed_changes.proofs.Order.{total, later}
use Rattle.feed_tables.proofs.Entries.{first, second, less}
use Rattle.feed_tables.proofs.MapsOver.{get-map_less, same_gets}
use Rattle.feed_tables.proofs.Patching.{less_none, over_empty}
use Rattle.feed_tables.proofs.Sizes.{weighed-insert, weighed-remove}

pub apart : (k x : List ℕ) → byte_order k x ≡ Less → eq_by_cmp byte_order x k ≡ false
apart k x p = ap is_eq (later total k x p)

module _ {V : Type 0} (scale : Scale V) where
  module _ {W : Type 0} where
    -- names none of which was changed
    pub in_changed : (m n : FinMap byte_order V) (k : List ℕ) (es : List (List ℕ × W))
        → ((x : List ℕ) → eq_by_cmp byte_order x k ≡ false → get n x ≡ get m x)
        → T (below_all byte_order k es) → weighed_in scale n es ≡ weighed_in scale m es
    in_changed m n k [] same h = refl
    in_changed m n k (e ∷ es) same h =
        omega (
          arith,
          ap (weight scale e.0) (same e.0 (apart k e.0 (less _ (first _ _ h)))),
          in_changed m n k es same (second _ _ h),
        )

    in_removed : (m : FinMap byte_order V) (k : List ℕ) (es : List (List ℕ × W))
        → T (below_all byte_order k es) → weighed_in scale (remove m k) es ≡ weighed_in scale m es
    in_removed m k es h =
        in_changed m (remove m k) k es
        (λ x is. get-remove total m k x ∙ ap (λ (b : Bool). cond b None (get m x)) is) h

    in_inserted : (m : FinMap byte_order V) (k : List ℕ) (v : V) (es : List (List ℕ × W))
        → T (below_all byte_order k es) → weighed_in scale (insert m k v) es ≡ weighed_in scale m es
    in_inserted m k v es h =
        in_changed m (insert m k v) k es
        (λ x is. get-insert total m k v x ∙ ap (λ (b : Bool). cond b (Some v) (get m x)) is) h

    fold_remove : (es : List (List ℕ × W)) (m : FinMap byte_order V) → IsInOrder es
        → weighed scale (entries (fold (λ n e. remove n e.0) m es)) + weighed_in scale m es
        ≡ weighed scale (entries m)
    fold_remove [] m h = omega arith
    fold_remove (e ∷ es) m h =
        omega (
          arith,
          fold_remove es (remove m e.0) (second _ _ h),
          weighed-remove scale m e.0,
          in_removed m e.0 es (first _ _ h),
        )

    pub weighed_less : (names : FinMap byte_order W) (m : FinMap byte_order V)
        → weighed scale (entries (map_less names m)) + weighed_in scale m (entries names)
        ≡ weighed scale (entries m)
    weighed_less names m = fold_remove (entries names) m (entries_sorted names)

  fold_insert : (es : List (List ℕ × V)) (m : FinMap byte_order V) → IsInOrder es
      → weighed scale (entries (fold (λ n e. insert n e.0 e.1) m es)) + weighed_in scale m es
      ≡ weighed scale (entries m) + weighed scale es
  fold_insert [] m h = omega arith
  fold_insert (e ∷ es) m h =
      omega (
        arith,
        fold_insert es (insert m e.0 e.1) (second _ _ h),
        weighed-insert scale m e.0 e.1,
        in_inserted m e.0 e.1 es (first _ _ h),
      )

  pub weighed_over : (items m : FinMap byte_order V)
      → weighed scale (entries (map_over items m)) + weighed_in scale m (entries items)
      ≡ weighed scale (entries m) + weighed scale (entries items)
  weighed_over items m = fold_insert (entries items) m (entries_sorted items)

  -- what items weigh by what is lost of it and what comes to it
  pub weighed_moved : (held lost items : FinMap byte_order V) (s a b g come r z : ℕ)
      → weighed scale (entries lost) + a ≡ weighed scale (entries held)
      → b ≡ weighed_in scale lost (entries items)
      → s ≡ min (weighed scale (entries held)) 18446744073709551615 → s < 18446744073709551615
      → g ≡ min (a + b) 18446744073709551615
      → come ≡ min (weighed scale (entries items)) 18446744073709551615 → z ≡ s - g
      → r ≡ min (z + come) 18446744073709551615
      → r ≡ min (weighed scale (entries (map_over items lost))) 18446744073709551615
  weighed_moved held lost items s a b g come r z less_is b_is s_is fits g_is come_is z_is r_is =
      omega (
        arith,
        weighed_over items lost,
        weighed_less items lost,
        less_is,
        b_is,
        s_is,
        fits,
        g_is,
        come_is,
        z_is,
        r_is,
      )

  -- and by what stays of it, where it is too much to be counted
  pub weighed_kept : (lost items : FinMap byte_order V) (x come r : ℕ)
      → x ≡ min (weighed scale (entries (map_less items lost))) 18446744073709551615
      → come ≡ min (weighed scale (entries items)) 18446744073709551615
      → r ≡ min (x + come) 18446744073709551615
      → r ≡ min (weighed scale (entries (map_over items lost))) 18446744073709551615
  weighed_kept lost items x come r x_is come_is r_is =
      omega (arith, weighed_over items lost, weighed_less items lost, x_is, come_is, r_is)

  -- where nothing is taken away, and where nothing is put in
  pub in_less : {W X : Type 0} (items : FinMap byte_order V) (gone : FinMap byte_order W)
      (m : FinMap byte_order V) (es : List (List ℕ × X)) (n : ℕ) → items ≡ empty
      → n ≡ min (weighed_in scale (map_over items (map_less gone m)) es) 18446744073709551615
      → n ≡ min (weighed_in scale (map_less gone m) es) 18446744073709551615
  in_less items gone m es n none is =
      is
      ∙ ap (λ (o : FinMap byte_order V). min (weighed_in scale o es) 18446744073709551615)
      (over_empty items (map_less gone m) none)

  pub in_all : {W X : Type 0} (items : FinMap byte_order V) (gone : FinMap byte_order W)
      (m : FinMap byte_order V) (es : List (List ℕ × X)) (n : ℕ) → items ≡ empty → gone ≡ empty
      → n ≡ min (weighed_in scale (map_over items (map_less gone m)) es) 18446744073709551615
      → n ≡ min (weighed_in scale m es) 18446744073709551615
  in_all items gone m es n none none_gone is =
      in_less items gone m es n none is
      ∙ ap (λ (o : FinMap byte_order V). min (weighed_in scale o es) 18446744073709551615)
      (less_none gone m none_gone)

-- entries without some names
turned : {A : Type 0} (b : Bool) (x : Option A) → cond b None x ≡ cond (not b) x None
turned true x = refl
turned false x = refl

module _ {V W : Type 0} (names : FinMap byte_order V) (es : List (List ℕ × W)) (h : IsInOrder es)
  where
    pub in_order_besides : IsInOrder (besides names es)
    in_order_besides = is_sorted-where_key byte_order (is_besides names) es h

    pub less_is : map_less names (from_sorted {R = byte_order} es) ≡ from_sorted (besides names es)
    less_is = same_gets _ _ (λ q.
        get-map_less names (from_sorted es) q
        ∙ ap (λ (o : Option W). cond (is_some (get names q)) None o) (get-from_sorted byte_order es q h)
        ∙ turned (is_some (get names q)) (find byte_order q es)
        ∙ sym (find-where_key byte_order (is_besides names) q
        (λ x t. ap (λ (o : Option V). not (is_some o)) (get_tied total names q x t)) es)
        ∙ sym (get-from_sorted byte_order (besides names es) q in_order_besides))

-- sums at a fork
module _ {V : Type 0} (scale : Scale V) where
  pub weighed-append : (l r : List (List ℕ × V)) → weighed scale (l ++ r) ≡ weighed scale l + weighed scale r
  weighed-append [] r = omega arith
  weighed-append (e ∷ l) r = omega (arith, weighed-append l r)

  pub weighed_in-append : {W : Type 0} (m : FinMap byte_order V) (l r : List (List ℕ × W))
      → weighed_in scale m (l ++ r) ≡ weighed_in scale m l + weighed_in scale m r
  weighed_in-append m [] r = omega arith
  weighed_in-append m (e ∷ l) r = omega (arith, weighed_in-append m l r)

pub besides-append : {V W : Type 0} (names : FinMap byte_order V) (l r : List (List ℕ × W))
    → besides names (l ++ r) ≡ besides names l ++ besides names r
besides-append names l r = filter-append (λ e. is_besides names e.0) l r
