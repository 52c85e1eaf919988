-- What becomes of the objects of one type alone.
use Rattle.std.proofs.Common.{Bool, true, false, cond, ◌⊎◌, inl, inr, Option, Less, Equal, Greater, ◌≡◌, ℕ, List, [], ◌∷◌, None, Some, sym, ap, subst, ◌∙◌, refl, arith}
use Rattle.std.specs.Ordering.{is_eq, eq_by_cmp}
use Rattle.std.specs.FinMap.{FinMap, empty, get, insert, remove, entries, put, entries-insert, entries-from_sorted, get-insert, get-remove, get-empty}
use Rattle.std.specs.declared.cmp.Ordering.{Ordering}
use Rattle.std.specs.declared.alloc.Global.{Global}
use Rattle.std.specs.declared.boxed.Box.{Box}
use Rattle.feed_tables.specs.Bytes.{byte_order}
use Rattle.feed_tables.specs.Walks.{Scale, weight, weighed_in}
use Rattle.feed_tables.specs.ChangedIds.{HasSet, SetsIn}
use Rattle.feed_tables.specs.Map.{TakesThePlace}
use Rattle.feed_tables.specs.declared.tree.Fork.{Fork}
use Rattle.feed_tables.specs.declared.ids.Ids.{Ids}
use Rattle.feed_changes.proofs.Order.{total}
use Rattle.feed_tables.proofs.Maps.{byte_order_antisymmetric, from_sorted_none, remove_absent}
use Rattle.feed_tables.proofs.MapsOver.{same_gets, get-insert_same, insert-insert}

abbrev pub Changed : Type 0
Changed = FinMap byte_order Ids

pub same_name : (q k : List ℕ) → byte_order q k ≡ Equal → q ≡ k
same_name = byte_order_antisymmetric

pub entries_none : {V : Type 0} → entries (empty {X = V} {R = byte_order}) ≡ []
entries_none {V} = ap entries (sym (from_sorted_none {X = V})) ∙ entries-from_sorted byte_order [] tt

abbrev pub empty_map : {V : Type 0} → FinMap byte_order V
empty_map = empty

apart : (o : Ordering) → (o ≡ Equal → ⊥) → is_eq o ≡ false
apart Less other = refl
apart Equal other = absurd (other refl)
apart Greater other = refl

neither : {A : Type 0} (v : A) (b : Bool) → cond {A = Option A} b None (cond b (Some v) None) ≡ None
neither v true = refl
neither v false = refl

module _ {V : Type 0} (k : List ℕ) (v : V) where
  abbrev pub alone : FinMap byte_order V
  alone = insert empty k v

  pub entries_alone : entries alone ≡ (k, v) ∷ []
  entries_alone =
      entries-insert total empty k v
      ∙ ap (put byte_order k v) entries_none

  pub get_here : (q : List ℕ) → q ≡ k → get alone q ≡ Some v
  get_here q same = ap (get alone) same ∙ get-insert_same empty k v

  pub get_elsewhere : (q : List ℕ) → (byte_order q k ≡ Equal → ⊥) → get alone q ≡ None
  get_elsewhere q other =
      get-insert total empty k v q
      ∙ ap (λ (b : Bool). cond b (Some v) (get empty_map q)) (apart (byte_order q k) other)
      ∙ get-empty byte_order q

  pub insert_here : (q : List ℕ) (w : V) → q ≡ k → insert alone q w ≡ insert empty k w
  insert_here q w same = ap (λ (x : List ℕ). insert alone x w) same ∙ insert-insert empty k v w

  pub remove_here : (q : List ℕ) → q ≡ k → remove alone q ≡ empty
  remove_here q same = same_gets _ _ (λ x.
      get-remove total alone q x
      ∙ ap (λ (y : List ℕ). cond (eq_by_cmp byte_order x y) None (get alone x)) same
      ∙ ap (λ (o : Option V). cond (eq_by_cmp byte_order x k) None o)
      (get-insert total empty k v x ∙ ap (λ (o : Option V). cond (eq_by_cmp byte_order x k) (Some v) o) (get-empty byte_order x))
      ∙ neither v (eq_by_cmp byte_order x k)
      ∙ sym (get-empty byte_order x))

  pub remove_elsewhere : (q : List ℕ) → (byte_order q k ≡ Equal → ⊥) → remove alone q ≡ alone
  remove_elsewhere q other = remove_absent alone q (get_elsewhere q other)

  pub weighed_alone : {W : Type 0} (scale : Scale W) (held : FinMap byte_order W)
      → weighed_in scale held (entries alone) ≡ weight scale k (get held k)
  weighed_alone {W} scale held =
      ap (weighed_in scale held) entries_alone ∙ omega arith

-- what was found among them
module _ (kind first id object : List ℕ) (i j : Ids) (m n : Changed) (held : alone first i ≡ m) where
  exchanged : kind ≡ first → n ≡ alone first j → (get m kind ≡ Some i) × (n ≡ insert m kind j)
  exchanged same made = (
    ap (λ (x : Changed). get x kind) (sym held) ∙ get_here first i kind same,
    made
        ∙ ap (λ (x : List ℕ). alone x j) (sym same)
        ∙ sym (insert_here first i kind j same ∙ ap (λ (x : List ℕ). insert empty_map x j) (sym same))
        ∙ ap (λ (x : Changed). insert x kind j) held,
  )

  absent : (byte_order kind first ≡ Equal → ⊥) → get m kind ≡ None
  absent other = ap (λ (x : Changed). get x kind) (sym held) ∙ get_elsewhere first i kind other

  pub swapped_here : kind ≡ first → n ≡ alone first j → (x : Ids) (b : Bool) → x ≡ i → b ≡ true
      → TakesThePlace kind m n j x b
  swapped_here same made x b back is =
      subst (λ (b : Bool). TakesThePlace kind m n j x b) (sym is)
      (subst (λ (x : Ids). TakesThePlace kind m n j x true) (sym back) (exchanged same made))

  pub swapped_nowhere : (byte_order kind first ≡ Equal → ⊥) → n ≡ alone first i → (x : Ids) (b : Bool)
      → x ≡ j → b ≡ false → TakesThePlace kind m n j x b
  swapped_nowhere other made x b back is =
      subst (λ (b : Bool). TakesThePlace kind m n j x b) (sym is) (absent other, made ∙ held, back)

  pub set_here : kind ≡ first → n ≡ alone first j → HasSet i j id object
      → (r : Option (Box (Fork (List ℕ)) Global)) → r ≡ None → SetsIn kind m n id object r
  set_here same made set r is =
      subst (λ (r : Option (Box (Fork (List ℕ)) Global)). SetsIn kind m n id object r) (sym is)
      (i, j, exchanged same made, set)

pub set_nowhere : (kind first : List ℕ) (i : Ids) (m n : Changed) (node : Box (Fork (List ℕ)) Global)
    → alone first i ≡ m → (byte_order kind first ≡ Equal → ⊥) → n ≡ alone first i
    → (r : Option (Box (Fork (List ℕ)) Global)) → r ≡ Some node
    → SetsIn kind m n node.value.id node.value.item r
set_nowhere kind first i m n node held other made r is =
    subst (λ (r : Option (Box (Fork (List ℕ)) Global)). SetsIn kind m n node.value.id node.value.item r) (sym is)
    (absent kind first kind kind i i m n held other, made ∙ held, refl, refl)

pub set_same : (kind id object : List ℕ) (m x n y : Changed) (r s : Option (Box (Fork (List ℕ)) Global))
    → m ≡ x → y ≡ n → s ≡ r → SetsIn kind m n id object r → SetsIn kind x y id object s
set_same kind id object m x n y r s a b d set =
    subst (λ (m : Changed). SetsIn kind m y id object s) a
    (subst (λ (n : Changed). SetsIn kind m n id object s) (sym b)
    (subst (λ (r : Option (Box (Fork (List ℕ)) Global)). SetsIn kind m n id object r) (sym d) set))

pub swapped_same : (kind : List ℕ) (m x n y : Changed) (j i k : Ids) (a b : Bool)
    → m ≡ x → y ≡ n → k ≡ i → b ≡ a → TakesThePlace kind m n j i a → TakesThePlace kind x y j k b
swapped_same kind m x n y j i k a b p q r s swap =
    subst (λ (m : Changed). TakesThePlace kind m y j k b) p
    (subst (λ (n : Changed). TakesThePlace kind m n j k b) (sym q)
    (subst (λ (i : Ids). TakesThePlace kind m n j i b) (sym r)
    (subst (λ (a : Bool). TakesThePlace kind m n j i a) (sym s) swap)))

-- a type is another one
pub other_name : (o p : Ordering) → (o ≡ Less) ⊎ (o ≡ Greater) → o ≡ p → p ≡ Equal → ⊥
other_name o p (inl less) is same = cc
other_name o p (inr greater) is same = cc
