-- Finite maps made of entries in the order of their names, and maps put over others.
use Rattle.std.proofs.Common.{Bool, true, false, cond, ◌≡◌, ℕ, List, [], ◌∷◌, Option, None, Some, fold, sym, ap, ◌∙◌, refl, subst}
use Rattle.std.specs.Option.{option_or, is_some}
use Rattle.std.specs.Ordering.{eq_by_cmp}
use Rattle.std.specs.FinMap.{FinMap, find, get, insert, remove, from_sorted, entries, entries_sorted, entries-from_sorted, get-from_sorted, get-entries, get-insert, get-remove, same_map}
use Rattle.std.specs.Cmp.{eq_by_cmp_equiv}
use Rattle.feed_tables.specs.Bytes.{byte_order, IsInOrder}
use Rattle.feed_tables.proofs.Entries.{first, second, equal, find_below, below_tied}
use Rattle.feed_tables.proofs.Maps.{byte_order_antisymmetric, from_sorted_put, in_order_put}
use Rattle.std.specs.declared.alloc.Global.{Global}
use Rattle.std.specs.declared.boxed.Box.{Box}
use Rattle.feed_tables.specs.declared.tree.Fork.{Fork}
use Rattle.feed_tables.specs.Tree.{Swaps, FirstTaken, without_all}
use Rattle.feed_tables.specs.Map.{TakesThePlace, TakesFirst, map_over, map_less}
use Rattle.feed_changes.proofs.Order.{total}

-- a map with each item put under its name
abbrev pub put_all : {V : Type 0} → List (List ℕ × V) → FinMap byte_order V → FinMap byte_order V
put_all es m = fold (λ n e. insert n e.0 e.1) m es

-- an exchange, seen in maps
pub exchanged : {V : Type 0} (id : List ℕ) (es fs : List (List ℕ × V)) (old new : V) (b : Bool) (m : FinMap byte_order V) → IsInOrder es → from_sorted es ≡ m → Swaps id es fs old new b → TakesThePlace id m (from_sorted fs) old new b
exchanged {V} id es fs old new true m h is s = (
  ap (λ (n : FinMap byte_order V). get n id) (sym is) ∙ get-from_sorted byte_order es id h ∙ s.0,
  ap from_sorted s.1 ∙ from_sorted_put es h id old ∙ ap (λ (n : FinMap byte_order V). insert n id old) is,
)
exchanged {V} id es fs old new false m h is s =
    (ap (λ (n : FinMap byte_order V). get n id) (sym is) ∙ get-from_sorted byte_order es id h ∙ s.0, ap from_sorted s.1 ∙ is, s.2)

pub in_order_swapped : {V : Type 0} (id : List ℕ) (es fs : List (List ℕ × V)) (old new : V) (b : Bool) → IsInOrder es → Swaps id es fs old new b → IsInOrder fs
in_order_swapped {V} id es fs old new true h s = subst (λ (l : List (List ℕ × V)). IsInOrder l) (sym s.1) (in_order_put es h id old)
in_order_swapped {V} id es fs old new false h s = subst (λ (l : List (List ℕ × V)). IsInOrder l) (sym s.1) h

-- what is found in entries that were put over a map, and taken out of it
pub get-fold_insert : {V : Type 0} (es : List (List ℕ × V)) (m : FinMap byte_order V) (q : List ℕ) → IsInOrder es → get (fold (λ n e. insert n e.0 e.1) m es) q ≡ option_or (find byte_order q es) (get m q)
get-fold_insert [] m q h = refl
get-fold_insert {V} (e ∷ es) m q h =
    get-fold_insert es (insert m e.0 e.1) q (second _ _ h)
    ∙ ap (λ (o : Option V). option_or (find byte_order q es) o) (get-insert total m e.0 e.1 q)
    ∙ elim (eq_by_cmp byte_order q e.0) as (λ b. eq_by_cmp byte_order q e.0 ≡ b → option_or (find byte_order q es) (cond b (Some e.1) (get m q)) ≡ option_or (cond b (Some e.1) (find byte_order q es)) (get m q)) [
      | true ↦ λ is. ap (λ (o : Option V). option_or o (Some e.1)) (find_below byte_order total q es (below_tied byte_order total q e.0 es (equal _ is) (first _ _ h)))
      | false ↦ λ is. refl
    ] refl

either_none : {A : Type 0} (b : Bool) → cond {A = Option A} b None None ≡ None
either_none true = refl
either_none false = refl

pub get-fold_remove : {V W : Type 0} (es : List (List ℕ × V)) (m : FinMap byte_order W) (q : List ℕ) → get (fold (λ n e. remove n e.0) m es) q ≡ cond (is_some (find byte_order q es)) None (get m q)
get-fold_remove [] m q = refl
get-fold_remove {V} {W} (e ∷ es) m q =
    get-fold_remove es (remove m e.0) q
    ∙ ap (λ (o : Option W). cond (is_some (find byte_order q es)) None o) (get-remove total m e.0 q)
    ∙ elim (eq_by_cmp byte_order q e.0) as (λ b. cond (is_some (find byte_order q es)) None (cond b None (get m q)) ≡ cond (is_some (cond b (Some e.1) (find byte_order q es))) None (get m q)) [
      | true ↦ either_none (is_some (find byte_order q es))
      | false ↦ refl
    ]

pub get-map_over : {V : Type 0} (items m : FinMap byte_order V) (q : List ℕ) → get (map_over items m) q ≡ option_or (get items q) (get m q)
get-map_over {V} items m q = get-fold_insert (entries items) m q (entries_sorted items) ∙ ap (λ (o : Option V). option_or o (get m q)) (sym (get-entries items q))

pub get-map_less : {V W : Type 0} (names : FinMap byte_order V) (m : FinMap byte_order W) (q : List ℕ) → get (map_less names m) q ≡ cond (is_some (get names q)) None (get m q)
get-map_less {V} {W} names m q = get-fold_remove (entries names) m q ∙ ap (λ (o : Option V). cond {A = Option W} (is_some o) None (get m q)) (sym (get-entries names q))

pub entries_are : {V : Type 0} (es : List (List ℕ × V)) (m : FinMap byte_order V) → IsInOrder es → from_sorted es ≡ m → es ≡ entries m
entries_are es m h is = sym (entries-from_sorted byte_order es h) ∙ ap entries is

-- entries that were put into a map, and taken out of one, seen in maps
pub put_over : {V : Type 0} (es : List (List ℕ × V)) (m n o : FinMap byte_order V) → IsInOrder es
    → from_sorted es ≡ m → o ≡ put_all es n → o ≡ map_over m n
put_over {V} es m n o h is made =
    made ∙ ap (λ (l : List (List ℕ × V)). put_all l n) (entries_are es m h is)

pub taken_out : {V W : Type 0} (es : List (List ℕ × V)) (m : FinMap byte_order V)
    (n o : FinMap byte_order W) → IsInOrder es → from_sorted es ≡ m → o ≡ without_all es n
    → o ≡ map_less m n
taken_out {V} es m n o h is made =
    made ∙ ap (λ (l : List (List ℕ × V)). without_all l n) (entries_are es m h is)

pub first_taken : {V : Type 0} (es gs : List (List ℕ × V)) (m : FinMap byte_order V) (r : Option (Box (Fork V) Global)) → IsInOrder es → from_sorted es ≡ m → FirstTaken es gs r → TakesFirst m (from_sorted gs) r
first_taken {V} es gs m None h is t =
    let none : IsInOrder gs = subst (λ (l : List (List ℕ × V)). IsInOrder l) (sym t.1) tt in
    (sym (entries_are es m h is) ∙ t.0, entries-from_sorted byte_order gs none ∙ t.1)
first_taken {V} es gs m (Some node) h is t =
    let rest : IsInOrder gs = second _ _ (subst (λ (l : List (List ℕ × V)). IsInOrder l) t h) in
    sym (entries_are es m h is) ∙ t ∙ ap (λ (l : List (List ℕ × V)). (node.value.id, node.value.item) ∷ l) (sym (entries-from_sorted byte_order gs rest))

pub same_gets : {V : Type 0} (m n : FinMap byte_order V) → ((q : List ℕ) → get m q ≡ get n q) → m ≡ n
same_gets m n same = same_map total byte_order_antisymmetric m n same

-- what is put under a name, in place of what was put there
twice : {A : Type 0} (b : Bool) (v p : A) (x : Option A) → cond b (Some v) (cond b (Some p) x) ≡ cond b (Some v) x
twice true v p x = refl
twice false v p x = refl

pub insert-insert : {V : Type 0} (m : FinMap byte_order V) (k : List ℕ) (p v : V) → insert (insert m k p) k v ≡ insert m k v
insert-insert {V} m k p v = same_gets _ _ (λ q.
    get-insert total (insert m k p) k v q
    ∙ ap (λ (o : Option V). cond (eq_by_cmp byte_order q k) (Some v) o) (get-insert total m k p q)
    ∙ twice (eq_by_cmp byte_order q k) v p (get m q)
    ∙ sym (get-insert total m k v q))

pub itself : (k : List ℕ) → eq_by_cmp byte_order k k ≡ true
itself k = (eq_by_cmp_equiv total).refl k

pub get-insert_same : {V : Type 0} (m : FinMap byte_order V) (k : List ℕ) (v : V) → get (insert m k v) k ≡ Some v
get-insert_same {V} m k v = get-insert total m k v k ∙ ap (λ (b : Bool). cond b (Some v) (get m k)) (itself k)

-- an item that was taken out by an exchange, and put back changed by another
pub put_back : {V : Type 0} (m n o : FinMap byte_order V) (k : List ℕ) (p held other : V) (b : Bool) → n ≡ insert m k p → TakesThePlace k n o held other b → o ≡ insert m k held
put_back {V} m n o k p held other true made s = s.1 ∙ ap (λ (x : FinMap byte_order V). insert x k held) made ∙ insert-insert m k p held
put_back {V} m n o k p held other false made s =
    let there : get n k ≡ Some p = ap (λ (x : FinMap byte_order V). get x k) made ∙ get-insert_same m k p in
    let gone : get n k ≡ None = s.0 in
    cc

-- an exchange that found an item
pub exchanged_some : {V : Type 0} (k : List ℕ) (m n : FinMap byte_order V) (old new : V) (b : Bool) → b ≡ true → TakesThePlace k m n old new b → (get m k ≡ Some new) × (n ≡ insert m k old)
exchanged_some k m n old new true is s = s
exchanged_some k m n old new false is s = cc
