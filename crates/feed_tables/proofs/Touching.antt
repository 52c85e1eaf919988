-- Tables that changes made of the same ones are the same, if they are wherever a change could have
-- made a difference.
use Rattle.std.proofs.Common.{◌≡◌, refl, sym, ap, ◌∙◌, subst, ℕ, Bool, true, false, cond, List, [], ◌∷◌, Option, None, Some, inl, inr, ◌⊎◌}
use Rattle.std.specs.List.{AllByRecursion}
use Rattle.std.specs.Ordering.{eq_by_cmp}
use Rattle.std.specs.FinMap.{FinMap, get, insert, remove, get-insert, get-remove, same_map}
use Rattle.feed_tables.specs.Bytes.{byte_order}
use Rattle.feed_tables.specs.Tables.{Objects, Contents, no_objects, objects_or_none, after, after_all, without_id}
use Rattle.feed_tables.specs.Touched.{AgreeIn, AgreeAt, AgreeWhereTouched}
use Rattle.feed_changes.specs.declared.change.Change.{Change}
use Rattle.feed_changes.specs.declared.change.Change.TheVariants.{Set, Remove, Empty, Single, Clear}
use Rattle.feed_tables.specs.declared.table.Table.{Table}
use Rattle.feed_tables.specs.declared.table.Table.TheVariants.{One, Many}
use Rattle.feed_tables.proofs.Entries.{equal}
use Rattle.feed_tables.proofs.Maps.{byte_order_antisymmetric}
use Rattle.feed_changes.proofs.Order.{total}

-- a name is another one, or the map is not changed there
same_name : (q k : List ℕ) → eq_by_cmp byte_order q k ≡ true → q ≡ k
same_name q k t = byte_order_antisymmetric q k (equal _ t)

inserted : {X : Type 0} (m : FinMap byte_order X) (k : List ℕ) (v : X) (q : List ℕ) → (q ≡ k) ⊎ (get (insert m k v) q ≡ get m q)
inserted m k v q = by (eq_by_cmp byte_order q k) refl
  where
    by : (t : Bool) → eq_by_cmp byte_order q k ≡ t → (q ≡ k) ⊎ (get (insert m k v) q ≡ get m q)
    by true e = inl (same_name q k e)
    by false e = inr (get-insert total m k v q ∙ ap (λ b. cond b (Some v) (get m q)) e)

removed : {X : Type 0} (m : FinMap byte_order X) (k q : List ℕ) → (q ≡ k) ⊎ (get (remove m k) q ≡ get m q)
removed m k q = by (eq_by_cmp byte_order q k) refl
  where
    by : (t : Bool) → eq_by_cmp byte_order q k ≡ t → (q ≡ k) ⊎ (get (remove m k) q ≡ get m q)
    by true e = inl (same_name q k e)
    by false e = inr (get-remove total m k q ∙ ap (λ b. cond b None (get m q)) e)

-- what a change that sets or removes one object makes of what is held under its type
abbrev with_one : Option Table → List ℕ → List ℕ → Option Table
with_one held id object = Some (Many (insert (objects_or_none held) id object))

abbrev less_one : Option Table → List ℕ → Option Table
less_one None id = None
less_one (Some (One object)) id = Some (One object)
less_one (Some (Many objects)) id = Some (Many (remove objects id))

-- what became of a type, whose tables p and s are held at the end
data Became (p s : Option Table) (old new : Option Table) : Type 0 where
  whole : p ≡ s → Became p s old new
  kept : new ≡ old → Became p s old new
  made : (m : Objects) (j : List ℕ) → new ≡ Some (Many m) → AgreeIn j p s
      → ((i : List ℕ) → AgreeIn i p s ⊎ (get m i ≡ get (objects_or_none old) i)) → Became p s old new

-- one object was set first
set_first : (p s old new : Option Table) (id object : List ℕ) → AgreeIn id p s → Became p s (with_one old id object) new → Became p s old new
set_first p s old new id object a (whole e) = whole e
set_first p s old new id object a (kept e) =
    made (insert (objects_or_none old) id object) id e a (λ i. elim (inserted (objects_or_none old) id object i) [
      | inl same ↦ inl (subst (λ k. AgreeIn k p s) (sym same) a)
      | inr e ↦ inr e
    ])
set_first p s old new id object a (made m j e b h) =
    made m j e b (λ i. elim (h i) [
      | inl agrees ↦ inl agrees
      | inr f ↦ elim (inserted (objects_or_none old) id object i) [
        | inl same ↦ inl (subst (λ k. AgreeIn k p s) (sym same) a)
        | inr g ↦ inr (f ∙ g)
      ]
    ])

-- one was removed first
remove_first : (p s old new : Option Table) (id : List ℕ) → AgreeIn id p s → Became p s (less_one old id) new → Became p s old new
remove_first p s None new id a b = b
remove_first p s (Some (One object)) new id a b = b
remove_first p s (Some (Many objects)) new id a (whole e) = whole e
remove_first p s (Some (Many objects)) new id a (kept e) =
    made (remove objects id) id e a (λ i. elim (removed objects id i) [
      | inl same ↦ inl (subst (λ k. AgreeIn k p s) (sym same) a)
      | inr e ↦ inr e
    ])
remove_first p s (Some (Many objects)) new id a (made m j e b h) =
    made m j e b (λ i. elim (h i) [
      | inl agrees ↦ inl agrees
      | inr f ↦ elim (removed objects id i) [
        | inl same ↦ inl (subst (λ k. AgreeIn k p s) (sym same) a)
        | inr g ↦ inr (f ∙ g)
      ]
    ])

removes : (contents : Contents) (kind id : List ℕ) (held : Option Table) (q : List ℕ) → get contents kind ≡ held
    → ((q ≡ kind) × (get (without_id contents kind id held) q ≡ less_one held id)) ⊎ (get (without_id contents kind id held) q ≡ get contents q)
removes contents kind id None q e = inr refl
removes contents kind id (Some (One object)) q e = inr refl
removes contents kind id (Some (Many objects)) q e = by (eq_by_cmp byte_order q kind) refl
  where
    by : (t : Bool) → eq_by_cmp byte_order q kind ≡ t
        → ((q ≡ kind) × (get (insert contents kind (Many (remove objects id))) q ≡ Some (Many (remove objects id)))) ⊎ (get (insert contents kind (Many (remove objects id))) q ≡ get contents q)
    by true t = inl (same_name q kind t, get-insert total contents kind (Many (remove objects id)) q ∙ ap (λ b. cond b (Some (Many (remove objects id))) (get contents q)) t)
    by false t = inr (get-insert total contents kind (Many (remove objects id)) q ∙ ap (λ b. cond b (Some (Many (remove objects id))) (get contents q)) t)

sets : (contents : Contents) (kind : List ℕ) (table : Table) (q : List ℕ)
    → ((q ≡ kind) × (get (insert contents kind table) q ≡ Some table)) ⊎ (get (insert contents kind table) q ≡ get contents q)
sets contents kind table q = by (eq_by_cmp byte_order q kind) refl
  where
    by : (t : Bool) → eq_by_cmp byte_order q kind ≡ t → ((q ≡ kind) × (get (insert contents kind table) q ≡ Some table)) ⊎ (get (insert contents kind table) q ≡ get contents q)
    by true t = inl (same_name q kind t, get-insert total contents kind table q ∙ ap (λ b. cond b (Some table) (get contents q)) t)
    by false t = inr (get-insert total contents kind table q ∙ ap (λ b. cond b (Some table) (get contents q)) t)

-- what became of the type q, where p and s are held everywhere at the end
module _ (p s : Contents) (q : List ℕ) where
  from_same : (old middle new : Option Table) → middle ≡ old → Became (get p q) (get s q) middle new → Became (get p q) (get s q) old new
  from_same old middle new e b = subst (λ o. Became (get p q) (get s q) o new) e b

  at_first : (contents : Contents) (change : Change) (new : Option Table) → AgreeAt p s change
      → Became (get p q) (get s q) (get (after contents change) q) new → Became (get p q) (get s q) (get contents q) new
  unfolding after
  at_first contents (Set kind id object) new a b = elim (sets contents kind (Many (insert (objects_or_none (get contents kind)) id object)) q) [
    | inl w ↦ set_first (get p q) (get s q) (get contents q) new id object (subst (λ k. AgreeIn id (get p k) (get s k)) (sym w.0) a)
        (from_same (with_one (get contents q) id object) _ new (w.1 ∙ ap (λ k. with_one (get contents k) id object) (sym w.0)) b)
    | inr e ↦ from_same (get contents q) _ new e b
  ]
  at_first contents (Remove kind id) new a b = elim (removes contents kind id (get contents kind) q refl) [
    | inl w ↦ remove_first (get p q) (get s q) (get contents q) new id (subst (λ k. AgreeIn id (get p k) (get s k)) (sym w.0) a)
        (from_same (less_one (get contents q) id) _ new (w.1 ∙ ap (λ k. less_one (get contents k) id) (sym w.0)) b)
    | inr e ↦ from_same (get contents q) _ new e b
  ]
  at_first contents (Empty kind) new a b = elim (sets contents kind (Many no_objects) q) [
    | inl w ↦ whole (subst (λ k. get p k ≡ get s k) (sym w.0) a)
    | inr e ↦ from_same (get contents q) _ new e b
  ]
  at_first contents (Single kind object) new a b = elim (sets contents kind (One object) q) [
    | inl w ↦ whole (subst (λ k. get p k ≡ get s k) (sym w.0) a)
    | inr e ↦ from_same (get contents q) _ new e b
  ]
  at_first contents (Clear kind) new a b = elim (removed contents kind q) [
    | inl same ↦ whole (subst (λ k. get p k ≡ get s k) (sym same) a)
    | inr e ↦ from_same (get contents q) _ new e b
  ]

  became : (base : Contents) (changes : List Change) → AllByRecursion (AgreeAt p s) changes → Became (get p q) (get s q) (get base q) (get (after_all base changes) q)
  became base [] h = kept refl
  became base (c ∷ cs) h = at_first base c _ h.0 (became (after base c) cs h.1)

-- ---- both

same_objects : (m n : Objects) → ((i : List ℕ) → get m i ≡ get n i) → m ≡ n
same_objects m n h = same_map total byte_order_antisymmetric m n h

-- where nothing became of a type in one of them
one_kept : (x y : Option Table) (m : Objects) (j : List ℕ) → y ≡ Some (Many m) → AgreeIn j x y
    → ((i : List ℕ) → AgreeIn i x y ⊎ (get m i ≡ get (objects_or_none x) i)) → x ≡ y
one_kept None y m j e a h = absurd (subst (AgreeIn j None) e a)
one_kept (Some (One object)) y m j e a h = absurd (subst (AgreeIn j (Some (One object))) e a)
one_kept (Some (Many n)) y m j e a h =
    ap (λ o. Some (Many o)) (same_objects n m (λ i. elim (h i) [
      | inl agrees ↦ subst (AgreeIn i (Some (Many n))) e agrees
      | inr f ↦ sym f
    ])) ∙ sym e

other_kept : (x y : Option Table) (m : Objects) (j : List ℕ) → x ≡ Some (Many m) → AgreeIn j x y
    → ((i : List ℕ) → AgreeIn i x y ⊎ (get m i ≡ get (objects_or_none y) i)) → x ≡ y
other_kept x None m j e a h = absurd (subst (λ t. AgreeIn j t None) e a)
other_kept x (Some (One object)) m j e a h = absurd (subst (λ t. AgreeIn j t (Some (One object))) e a)
other_kept x (Some (Many n)) m j e a h =
    e ∙ ap (λ o. Some (Many o)) (same_objects m n (λ i. elim (h i) [
      | inl agrees ↦ subst (λ t. AgreeIn i t (Some (Many n))) e agrees
      | inr f ↦ f
    ]))

both_made : (x y : Option Table) (old m n : Objects) → x ≡ Some (Many m) → y ≡ Some (Many n)
    → ((i : List ℕ) → AgreeIn i x y ⊎ (get m i ≡ get old i)) → ((i : List ℕ) → AgreeIn i x y ⊎ (get n i ≡ get old i)) → x ≡ y
both_made x y old m n e f h k =
    e ∙ ap (λ o. Some (Many o)) (same_objects m n (λ i. elim (h i) [
      | inl agrees ↦ at i agrees
      | inr g ↦ elim (k i) [
        | inl agrees ↦ at i agrees
        | inr o ↦ g ∙ sym o
      ]
    ])) ∙ sym f
  where
    at : (i : List ℕ) → AgreeIn i x y → get m i ≡ get n i
    at i agrees = subst (λ t. AgreeIn i (Some (Many m)) t) f (subst (λ t. AgreeIn i t y) e agrees)

same_under : (p s base : Option Table) → Became p s base p → Became p s base s → p ≡ s
same_under p s base (whole e) b = e
same_under p s base (kept e) (whole f) = f
same_under p s base (kept e) (kept f) = e ∙ sym f
same_under p s base (kept e) (made m j f a h) =
    one_kept p s m j f a (subst (λ o. (i : List ℕ) → AgreeIn i p s ⊎ (get m i ≡ get (objects_or_none o) i)) (sym e) h)
same_under p s base (made m j e a h) (whole f) = f
same_under p s base (made m j e a h) (kept f) =
    other_kept p s m j e a (subst (λ o. (i : List ℕ) → AgreeIn i p s ⊎ (get m i ≡ get (objects_or_none o) i)) (sym f) h)
same_under p s base (made m j e a h) (made n k f b g) = both_made p s (objects_or_none base) m n e f h g

pub agree_where_touched : AgreeWhereTouched
agree_where_touched base changes others h k =
    same_map total byte_order_antisymmetric (after_all base changes) (after_all base others)
    (λ q. same_under _ _ (get base q) (became (after_all base changes) (after_all base others) q base changes h)
    (became (after_all base changes) (after_all base others) q base others k))
