-- Entries that are put in all at once, seen at one entry of those that are held.
use Rattle.std.proofs.Common.{Some, None, Option, Less, Equal, Greater, ◌≡◌, ℕ, ◌+◌, ◌≤◌, min, List, [], ◌∷◌, ◌++◌, length, sym, ap, ◌∙◌, refl, subst, arith, append_assoc, length-append}
use Rattle.std.specs.Prelude.{T}
use Rattle.std.proofs.lemmas.List.{append-nil}
use Rattle.std.specs.declared.alloc.Global.{Global}
use Rattle.std.specs.declared.boxed.Box.{Box}
use Rattle.std.specs.FinMap.{FinMap, find, put, from_sorted, entries}
use Rattle.std.specs.FinMap.Entries.{by_order, below_all}
use Rattle.feed_tables.specs.Bytes.{byte_order, IsInOrder}
use Rattle.feed_tables.specs.Unions.{put_each, entry_in, item_or, AreBefore, AreAfter, AreAt, Parts}
use Rattle.feed_tables.specs.declared.tree.Fork.{Fork}
use Rattle.feed_changes.proofs.Order.{total, later}
use Rattle.feed_tables.proofs.Entries.{first, second, less, earlier, below_middle, sorted_left, sorted_from, below_right, put_left, put_here, put_right}
use Rattle.feed_tables.proofs.Maps.{byte_order_antisymmetric, in_order_put, from_sorted_put}
use Rattle.feed_tables.specs.Tree.{entries_of, handed, named}
use Rattle.feed_tables.specs.Map.{map_over}
use Rattle.feed_tables.specs.Walks.{Scale, weight, weighed, weighed_in, each_one}
use Rattle.feed_tables.specs.declared.tree.Node.{Node}
use Rattle.feed_tables.specs.declared.tree.Node.TheVariants.{Fork as a_fork}
use Rattle.feed_tables.proofs.MapsOver.{put_all, entries_are, put_over}
use Rattle.feed_tables.proofs.PatchSizes.{weighed-append, weighed_over}
use Rattle.feed_tables.proofs.Sizes.{weighed_put}
use Rattle.feed_tables.proofs.TreeFork.{AtFork, at_fork}

module _ {V : Type 0} where
  each-append : (a b d : List (List ℕ × V)) → put_each (a ++ b) d ≡ put_each b (put_each a d)
  each-append [] b d = refl
  each-append (e ∷ a) b d = each-append a b (put byte_order e.0 e.1 d)

  pub in_order_each : (a d : List (List ℕ × V)) → IsInOrder d → IsInOrder (put_each a d)
  in_order_each [] d h = h
  in_order_each (e ∷ a) d h = in_order_each a (put byte_order e.0 e.1 d) (in_order_put d h e.0 e.1)

  -- put into none
  put_last : (d : List (List ℕ × V)) (e : List ℕ × V) (a : List (List ℕ × V)) → IsInOrder (d ++ e ∷ a)
      → put byte_order e.0 e.1 d ≡ d ++ e ∷ []
  put_last [] e a h = refl
  put_last (y ∷ d) e a h =
      let above : byte_order e.0 y.0 ≡ Greater = later total y.0 e.0 (below_middle byte_order y.0 d e a (first _ _ h)) in
      ap (λ o. by_order o (e ∷ y ∷ d) ((y.0, e.1) ∷ d) (y ∷ put byte_order e.0 e.1 d)) above
      ∙ ap (λ (t : List (List ℕ × V)). y ∷ t) (put_last d e a (second _ _ h))

  each_onto : (d a : List (List ℕ × V)) → IsInOrder (d ++ a) → put_each a d ≡ d ++ a
  each_onto d [] h = sym (append-nil d)
  each_onto d (e ∷ a) h =
      let all : (d ++ e ∷ []) ++ a ≡ d ++ e ∷ a = append_assoc d (e ∷ []) a in
      ap (put_each a) (put_last d e a h)
      ∙ each_onto (d ++ e ∷ []) a (subst (λ (t : List (List ℕ × V)). IsInOrder t) (sym all) h)
      ∙ all

  pub each_of_none : (a : List (List ℕ × V)) → IsInOrder a → put_each a [] ≡ a
  each_of_none a h = each_onto [] a h

  -- put in on one side of an entry
  each_before : (a l : List (List ℕ × V)) (e : List ℕ × V) (r : List (List ℕ × V)) → AreBefore e.0 a
      → put_each a (l ++ e ∷ r) ≡ put_each a l ++ e ∷ r
  each_before [] l e r h = refl
  each_before (x ∷ a) l e r h =
      ap (put_each a) (put_left byte_order x.0 x.1 l e r h.0)
      ∙ each_before a (put byte_order x.0 x.1 l) e r h.1

  each_after : (a l : List (List ℕ × V)) (e : List ℕ × V) (r : List (List ℕ × V)) → IsInOrder (l ++ e ∷ r) → AreAfter e.0 a
      → put_each a (l ++ e ∷ r) ≡ l ++ e ∷ put_each a r
  each_after [] l e r s h = refl
  each_after (x ∷ a) l e r s h =
      let one : put byte_order x.0 x.1 (l ++ e ∷ r) ≡ l ++ e ∷ put byte_order x.0 x.1 r = put_right byte_order total x.0 x.1 l e r s h.0 in
      ap (put_each a) one
      ∙ each_after a l e (put byte_order x.0 x.1 r)
      (subst (λ (t : List (List ℕ × V)). IsInOrder t) one (in_order_put (l ++ e ∷ r) s x.0 x.1)) h.1

  -- put in at an entry
  each_at : (o : Option (Box (Fork V) Global)) (l : List (List ℕ × V)) (e : List ℕ × V) (r : List (List ℕ × V))
      → IsInOrder (l ++ e ∷ r) → AreAt e.0 (entry_in o)
      → put_each (entry_in o) (l ++ e ∷ r) ≡ l ++ (e.0, item_or o e.1) ∷ r
  each_at None l e r s h = refl
  each_at (Some node) l e r s h = put_here byte_order total node.value.id node.value.item l e r s h.0

  module _ {d l r : List (List ℕ × V)} {e : List ℕ × V} (f : AtFork d l e r) (a : List (List ℕ × V)) where
    pub left_in : AreBefore e.0 a → put_each a l ++ e ∷ r ≡ put_each a d
    left_in h = sym (ap (put_each a) f.is ∙ each_before a l e r h)

    pub right_in : AreAfter e.0 a → l ++ e ∷ put_each a r ≡ put_each a d
    right_in h = sym (ap (put_each a) f.is ∙ each_after a l e r f.sorted h)

    pub parted_in : (b c : List (List ℕ × V)) (o : Option (Box (Fork V) Global)) → Parts e.0 a b (entry_in o) c
        → put_each b l ++ (e.0, item_or o e.1) ∷ put_each c r ≡ put_each a d
    parted_in b c o p =
        let i : IsInOrder (put_each b l ++ e ∷ r) = subst (λ (t : List (List ℕ × V)). IsInOrder t) (each_before b l e r p.are_before) (in_order_each b (l ++ e ∷ r) f.sorted) in
        let at : put_each (entry_in o) (put_each b l ++ e ∷ r) ≡ put_each b l ++ (e.0, item_or o e.1) ∷ r = each_at o (put_each b l) e r i p.are_at in
        let j : IsInOrder (put_each b l ++ (e.0, item_or o e.1) ∷ r) = subst (λ (t : List (List ℕ × V)). IsInOrder t) at (in_order_each (entry_in o) (put_each b l ++ e ∷ r) i) in
        sym (
        ap (put_each a) f.is
        ∙ ap (λ (t : List (List ℕ × V)). put_each t (l ++ e ∷ r)) p.whole
        ∙ each-append b (entry_in o ++ c) (l ++ e ∷ r)
        ∙ ap (put_each (entry_in o ++ c)) (each_before b l e r p.are_before)
        ∙ each-append (entry_in o) c (put_each b l ++ e ∷ r)
        ∙ ap (put_each c) at
        ∙ each_after c (put_each b l) (e.0, item_or o e.1) r j p.are_after
        )

  -- seen in maps
  pub each_made : (a d : List (List ℕ × V)) → IsInOrder d → from_sorted {R = byte_order} (put_each a d) ≡ put_all a (from_sorted d)
  each_made [] d h = refl
  each_made (e ∷ a) d h =
      each_made a (put byte_order e.0 e.1 d) (in_order_put d h e.0 e.1)
      ∙ ap (λ (m : FinMap byte_order V). put_all a m) (from_sorted_put d h e.0 e.1)

  -- what stands before and after a name
  all_before : (id : List ℕ) (l : List (List ℕ × V)) (e : List ℕ × V) (r : List (List ℕ × V)) → IsInOrder (l ++ e ∷ r)
      → byte_order e.0 id ≡ Less → AreBefore id r → AreBefore id (l ++ e ∷ r)
  all_before id [] e r s p h = (p, h)
  all_before id (y ∷ l) e r s p h =
      (total.trans y.0 e.0 id (below_middle byte_order y.0 l e r (first _ _ s)) p, all_before id l e r (second _ _ s) p h)

  above : (id k : List ℕ) (r : List (List ℕ × V)) → T (below_all byte_order k r) → byte_order k id ≡ Greater
      → AreAfter id r
  above id k [] b p = tt
  above id k (y ∷ r) b p = (
    later total id y.0 (total.trans id k y.0 (earlier total k id p) (less _ (first _ _ b))),
    above id k r (second _ _ b) p,
  )

  all_after : (id : List ℕ) (l : List (List ℕ × V)) (e : List ℕ × V) (r : List (List ℕ × V)) → IsInOrder (l ++ e ∷ r)
      → byte_order e.0 id ≡ Greater → AreAfter id l → AreAfter id (l ++ e ∷ r)
  all_after id [] e r s p h = (p, above id e.0 r (first _ _ s) p)
  all_after id (y ∷ l) e r s p h = (h.0, all_after id l e r (second _ _ s) p h.1)

  left_before : (l : List (List ℕ × V)) (e : List ℕ × V) (r : List (List ℕ × V)) → IsInOrder (l ++ e ∷ r) → AreBefore e.0 l
  left_before [] e r s = tt
  left_before (y ∷ l) e r s =
      (below_middle byte_order y.0 l e r (first _ _ s), left_before l e r (second _ _ s))

  right_after : (k : List ℕ) (r : List (List ℕ × V)) → T (below_all byte_order k r) → AreAfter k r
  right_after k [] b = tt
  right_after k (y ∷ r) b = (later total k y.0 (less _ (first _ _ b)), right_after k r (second _ _ b))

  module _ {d l r : List (List ℕ × V)} {e : List ℕ × V} (f : AtFork d l e r) (id : List ℕ) where
    pub fork_before : byte_order e.0 id ≡ Less → AreBefore id r → AreBefore id d
    fork_before p h = subst (λ (t : List (List ℕ × V)). AreBefore id t) (sym f.is) (all_before id l e r f.sorted p h)

    pub fork_after : byte_order e.0 id ≡ Greater → AreAfter id l → AreAfter id d
    fork_after p h = subst (λ (t : List (List ℕ × V)). AreAfter id t) (sym f.is) (all_after id l e r f.sorted p h)

  -- parts of the entries at a fork, by where its name stands
  module _ {d l r : List (List ℕ × V)} {e : List ℕ × V} (f : AtFork d l e r) (id : List ℕ) where
    pub parts_at : byte_order e.0 id ≡ Equal → Parts id d l (e ∷ []) r
    parts_at p =
        let same : e.0 ≡ id = byte_order_antisymmetric e.0 id p in
        record {
          whole = f.is;
          are_before = subst (λ (k : List ℕ). AreBefore k l) same (left_before l e r f.sorted);
          are_at = (p, tt);
          are_after = subst (λ (k : List ℕ). AreAfter k r) same (right_after e.0 r (below_right byte_order l e r f.sorted));
        }

    pub parts_right : (b s c : List (List ℕ × V)) → byte_order e.0 id ≡ Less → Parts id r b s c
        → Parts id d (l ++ e ∷ b) s c
    parts_right b s c p q =
        let all : d ≡ (l ++ e ∷ b) ++ (s ++ c) = f.is ∙ ap (λ (t : List (List ℕ × V)). l ++ e ∷ t) q.whole ∙ sym (append_assoc l (e ∷ b) (s ++ c)) in
        let i : IsInOrder ((l ++ e ∷ b) ++ (s ++ c)) = subst (λ (t : List (List ℕ × V)). IsInOrder t) (sym f.is ∙ all) f.sorted in
        record {
          whole = all;
          are_before = all_before id l e b (sorted_left byte_order (l ++ e ∷ b) (s ++ c) i) p q.are_before;
          are_at = q.are_at;
          are_after = q.are_after;
        }

    pub parts_left : (b s c : List (List ℕ × V)) → byte_order e.0 id ≡ Greater → Parts id l b s c
        → Parts id d b s (c ++ e ∷ r)
    parts_left b s c p q =
        let all : d ≡ (b ++ s) ++ (c ++ e ∷ r) = f.is ∙ ap (λ (t : List (List ℕ × V)). t ++ e ∷ r) (q.whole ∙ sym (append_assoc b s c)) ∙ append_assoc (b ++ s) c (e ∷ r) in
        let i : IsInOrder ((b ++ s) ++ (c ++ e ∷ r)) = subst (λ (t : List (List ℕ × V)). IsInOrder t) (sym f.is ∙ all) f.sorted in
        record {
          whole = all ∙ append_assoc b s (c ++ e ∷ r);
          are_before = q.are_before;
          are_at = q.are_at;
          are_after = all_after id c e r (sorted_from byte_order (b ++ s) (c ++ e ∷ r) i) p q.are_after;
        }

  -- an item that was exchanged for that of a node
  pub item_kept : (scale : Scale V) (o : Option (Box (Fork V) Global)) (id : List ℕ) (old : V)
      (node : Box (Fork V) Global) (spare rest : List (List ℕ × V)) → o ≡ Some node
      → AreAt id (entry_in o) → spare ≡ (node.value.id, old) ∷ rest
      → scale id (item_or o old) + weighed scale spare
      ≡ scale id old + weighed scale (entry_in o) + weighed scale rest
  item_kept scale None id old node spare rest is at made = cc
  item_kept scale (Some own) id old node spare rest is at made =
      let same : node ≡ own = cc in
      let k : own.value.id ≡ id = byte_order_antisymmetric own.value.id id at.0 in
      let made_of : spare ≡ (own.value.id, old) ∷ rest = made ∙ ap (λ (b : Box (Fork V) Global). (b.value.id, old) ∷ rest) same in
      omega (
        arith,
        ap (weighed scale) made_of,
        ap (λ (n : List ℕ). scale n old) k,
        ap (λ (n : List ℕ). scale n own.value.item) k,
      )

  -- what came back of an item that was put in, and what weighs as much
  back_weighs : (scale : Scale V) (o : Option (Box (Fork V) Global)) (k : List ℕ) (held : Option V)
      → handed o ≡ named k held → weighed scale (entry_in o) ≡ weight scale k held
  back_weighs scale None k None is = refl
  back_weighs scale None k (Some x) is = cc
  back_weighs scale (Some node) k None is = cc
  back_weighs scale (Some node) k (Some x) is =
      let same : ◌≡◌ {A = List ℕ × V} (node.value.id, node.value.item) (k, x) = cc in
      omega (arith, ap (λ (e : List ℕ × V). scale e.0 e.1) same)

  -- at most one item
  none_of : (es : List (List ℕ × V)) → length es ≤ 0 → es ≡ []
  none_of [] h = refl
  none_of (e ∷ es) h = absurd (omega (arith, h))

  module _ (d items l r new : List (List ℕ × V)) (k : List ℕ) (v : V) (one : length items ≤ 1)
      (items_are : items ≡ l ++ (k, v) ∷ r) (put_in : new ≡ put byte_order k v d) where
    only : items ≡ (k, v) ∷ []
    only =
        let all : length l + (1 + length r) ≤ 1 = omega (arith, one, ap length items_are, length-append l ((k, v) ∷ r)) in
        let left : l ≡ [] = none_of l (omega (arith, all)) in
        let right : r ≡ [] = none_of r (omega (arith, all)) in
        items_are
        ∙ ap (λ (t : List (List ℕ × V)). t ++ (k, v) ∷ r) left
        ∙ ap (λ (t : List (List ℕ × V)). (k, v) ∷ t) right

    pub one_put : new ≡ put_each items d
    one_put = put_in ∙ ap (λ (t : List (List ℕ × V)). put_each t d) (sym only)

    pub one_kept : (scale : Scale V) (o : Option (Box (Fork V) Global)) (a b : List (List ℕ × V))
        → IsInOrder d → handed o ≡ named k (find byte_order k d) → b ≡ entry_in o ++ a
        → weighed scale new + weighed scale b ≡ weighed scale d + weighed scale items + weighed scale a
    one_kept scale o a b h back aside =
        omega (
          arith,
          weighed_put scale k v d h,
          back_weighs scale o k (find byte_order k d) back,
          ap (weighed scale) aside,
          weighed-append scale (entry_in o) a,
          ap (weighed scale) only,
          ap (weighed scale) put_in,
        )

  -- what all items weigh with the spare ones, where items were put in on a side of a fork
  module _ (scale : Scale V) (d l r items new : List (List ℕ × V)) (k : List ℕ) (v : V) where
    pub kept_left : (m : List (List ℕ × V)) (a b : ℕ) → d ≡ l ++ (k, v) ∷ r → new ≡ m ++ (k, v) ∷ r
        → weighed scale m + b ≡ weighed scale l + weighed scale items + a
        → weighed scale new + b ≡ weighed scale d + weighed scale items + a
    kept_left m a b d_is new_is h =
        omega (
          arith,
          ap (weighed scale) d_is,
          ap (weighed scale) new_is,
          weighed-append scale l ((k, v) ∷ r),
          weighed-append scale m ((k, v) ∷ r),
          h,
        )

    pub kept_right : (s : List (List ℕ × V)) (a b : ℕ) → d ≡ l ++ (k, v) ∷ r → new ≡ l ++ (k, v) ∷ s
        → weighed scale s + b ≡ weighed scale r + weighed scale items + a
        → weighed scale new + b ≡ weighed scale d + weighed scale items + a
    kept_right s a b d_is new_is h =
        omega (
          arith,
          ap (weighed scale) d_is,
          ap (weighed scale) new_is,
          weighed-append scale l ((k, v) ∷ r),
          weighed-append scale l ((k, v) ∷ s),
          h,
        )

    -- and on both
    pub kept_both : (m s before same after : List (List ℕ × V)) (x : V) (a b c e : ℕ)
        → d ≡ l ++ (k, v) ∷ r → new ≡ m ++ (k, x) ∷ s → items ≡ before ++ (same ++ after)
        → weighed scale m + b ≡ weighed scale l + weighed scale before + a
        → scale k x + c ≡ scale k v + weighed scale same + b
        → weighed scale s + e ≡ weighed scale r + weighed scale after + c
        → weighed scale new + e ≡ weighed scale d + weighed scale items + a
    kept_both m s before same after x a b c e d_is new_is whole left here right =
        omega (
          arith,
          ap (weighed scale) d_is,
          ap (weighed scale) new_is,
          ap (weighed scale) whole,
          weighed-append scale l ((k, v) ∷ r),
          weighed-append scale m ((k, x) ∷ s),
          weighed-append scale before (same ++ after),
          weighed-append scale same after,
          left,
          here,
          right,
        )

  -- a fork that was taken apart
  pub at_apart : {n : Node V} {d : List (List ℕ × V)} {box : Box (Fork V) Global}
      → entries_of n ≡ d → IsInOrder d → n ≡ a_fork box
      → (l : List (List ℕ × V)) (last : Fork V) (r : List (List ℕ × V)) → l ≡ box.value.left
      → last.id ≡ box.value.id → last.item ≡ box.value.item → r ≡ box.value.right
      → AtFork d l (last.id, last.item) r
  at_apart {n} {d} {box} view_is order is l last r left id item right =
      subst (λ (t : List (List ℕ × V)). AtFork d t (last.id, last.item) r) (sym left)
      (subst (λ (t : List (List ℕ × V)). AtFork d box.value.left (last.id, last.item) t) (sym right)
      (subst (λ (v : V). AtFork d box.value.left (last.id, v) box.value.right) (sym item)
      (subst (λ (k : List ℕ). AtFork d box.value.left (k, box.value.item) box.value.right) (sym id)
      (at_fork view_is order is))))

  -- parts are in order
  pub parts_in_order : (id : List ℕ) (es b s c : List (List ℕ × V)) → IsInOrder es → Parts id es b s c
      → IsInOrder b × IsInOrder c
  parts_in_order id es b s c h p =
      let i : IsInOrder (b ++ (s ++ c)) = subst (λ (t : List (List ℕ × V)). IsInOrder t) p.whole h in
      (sorted_left byte_order b (s ++ c) i, sorted_from byte_order s c (sorted_from byte_order b (s ++ c) i))

  -- entries that were put into others all at once, seen in maps
  counted : (es : List (List ℕ × V)) → weighed each_one es ≡ length es
  counted [] = refl
  counted (e ∷ es) = omega (arith, counted es)

  module _ (items d new : List (List ℕ × V)) (m n : FinMap byte_order V) (items_sorted : IsInOrder items)
      (d_sorted : IsInOrder d) (items_are : from_sorted items ≡ m) (d_is : from_sorted d ≡ n)
      (put_in : new ≡ put_each items d) where
    pub joined_in_order : IsInOrder new
    joined_in_order = subst (λ (t : List (List ℕ × V)). IsInOrder t) (sym put_in) (in_order_each items d d_sorted)

    pub joined : from_sorted new ≡ map_over m n
    joined =
        put_over items m n (from_sorted new) items_sorted items_are (
        ap from_sorted put_in
        ∙ each_made items d d_sorted
        ∙ ap (λ (o : FinMap byte_order V). put_all items o) d_is
        )

    module _ (none spare : List (List ℕ × V)) (no_spare : none ≡ [])
        (kept : (scale : Scale V) → weighed scale new + weighed scale spare
        ≡ weighed scale d + weighed scale items + weighed scale none) where
      pub joined_lost : (scale : Scale V) (x : ℕ) → x ≡ min (weighed scale spare) 18446744073709551615
          → x ≡ min (weighed_in scale n (entries m)) 18446744073709551615
      joined_lost scale x x_is =
          omega (
            arith,
            x_is,
            kept scale,
            ap (weighed scale) no_spare,
            ap (weighed scale) (entries_are new (map_over m n) joined_in_order joined),
            ap (weighed scale) (entries_are d n d_sorted d_is),
            ap (weighed scale) (entries_are items m items_sorted items_are),
            weighed_over scale m n,
          )

      pub joined_count : length new + length spare ≡ length d + length items
      joined_count =
          omega (
            arith,
            kept each_one,
            ap (weighed each_one) no_spare,
            counted new,
            counted spare,
            counted d,
            counted items,
          )
