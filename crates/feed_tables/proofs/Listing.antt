-- A snapshot's changes, made of empty tables, give the tables that it lists.
use Rattle.std.proofs.Common.{◌≡◌, ◌<◌, refl, sym, ap, ◌∙◌, subst, arith, ℕ, Bool, true, false, cond, T, List, [], ◌∷◌, ◌++◌, length, Option, Some, None, flat_map, fold, codes, append_assoc, append-nil}
use Rattle.std.specs.Ordering.{eq_by_cmp, is_eq}
use Rattle.std.specs.FinMap.{FinMap, empty, get, insert, remove, entries, entries_sorted, find, is_sorted, len, get-entries, get-empty, get-insert, get-remove, same_map, empty_of_len, len-entries}
use Rattle.std.proofs.lemmas.Cmp.{tied_itself}
use Rattle.std.proofs.lemmas.List.Sums.{fold-append}
use Rattle.feed_tables.specs.Bytes.{byte_order}
use Rattle.feed_changes.specs.Changes.{sets, with_change}
use Rattle.feed_changes.specs.declared.change.Change.{Change}
use Rattle.feed_changes.specs.declared.change.Change.TheVariants.{Set, Clear}
use Rattle.feed_tables.specs.declared.table.Table.{Table}
use Rattle.feed_tables.specs.declared.table.Table.TheVariants.{One, Many}
use Rattle.feed_tables.specs.Tables.{Objects, Contents, no_objects, no_tables, objects_or_none, after, after_all, listed, or_clear, listing}
use Rattle.feed_changes.proofs.Order.{total}
use Rattle.feed_tables.proofs.Entries.{first, second, equal, find_below}
use Rattle.feed_tables.proofs.Maps.{byte_order_antisymmetric}

either : {X : Type 0} → Option X → Option X → Option X
either None o = o
either (Some x) o = Some x

-- the entries put in, one after another
abbrev insert_all : {X : Type 0} → FinMap byte_order X → List (List ℕ × X) → FinMap byte_order X
insert_all m [] = m
insert_all m (e ∷ es) = insert_all (insert m e.0 e.1) es

module _ {X : Type 0} where
  put_first : (b : Bool) (o p : Option X) (v : X) → (b ≡ true → o ≡ None) → either o (cond b (Some v) p) ≡ either (cond b (Some v) o) p
  unfolding either
  put_first true o p v h = ap (λ r. either r (Some v)) (h refl)
  put_first false o p v h = refl

  get-insert_all : (m : FinMap byte_order X) (es : List (List ℕ × X)) → T (is_sorted byte_order es) → (q : List ℕ) → get (insert_all m es) q ≡ either (find byte_order q es) (get m q)
  unfolding either
  get-insert_all m [] h q = refl
  get-insert_all m (e ∷ es) h q =
      get-insert_all (insert m e.0 e.1) es (second _ _ h) q
      ∙ ap (either (find byte_order q es)) (get-insert total m e.0 e.1 q)
      ∙ put_first (eq_by_cmp byte_order q e.0) (find byte_order q es) (get m q) e.1
      (λ t. ap (λ k. find byte_order k es) (byte_order_antisymmetric q e.0 (equal _ t)) ∙ find_below byte_order total e.0 es (first _ _ h))

  either-None : (o : Option X) → either o None ≡ o
  unfolding either
  either-None None = refl
  either-None (Some x) = refl

  insert_all-entries : (m : FinMap byte_order X) → insert_all empty (entries m) ≡ m
  insert_all-entries m =
      same_map total byte_order_antisymmetric _ _ (λ q. get-insert_all empty (entries m) (entries_sorted m) q
      ∙ ap (either (find byte_order q (entries m))) (get-empty byte_order q) ∙ either-None _ ∙ sym (get-entries m q))

  twice : (b : Bool) (v w : Option X) (o : Option X) → cond b v (cond b w o) ≡ cond b v o
  twice true v w o = refl
  twice false v w o = refl

  insert_twice : (m : FinMap byte_order X) (k : List ℕ) (v w : X) → insert (insert m k v) k w ≡ insert m k w
  insert_twice m k v w =
      same_map total byte_order_antisymmetric _ _ (λ q. get-insert total (insert m k v) k w q
      ∙ ap (cond (eq_by_cmp byte_order q k) (Some w)) (get-insert total m k v q) ∙ twice (eq_by_cmp byte_order q k) _ _ _ ∙ sym (get-insert total m k w q))

  get-inserted : (m : FinMap byte_order X) (k : List ℕ) (v : X) → get (insert m k v) k ≡ Some v
  get-inserted m k v = get-insert total m k v k ∙ ap (λ o. cond (is_eq o) (Some v) (get m k)) (tied_itself total k)

-- one more object under a type that was just given a collection
after_set : (contents : Contents) (t i o : List ℕ) (m : Objects) → after (insert contents t (Many m)) (Set t i o) ≡ insert contents t (Many (insert m i o))
unfolding after
after_set contents t i o m =
    ap (λ c. insert (insert contents t (Many m)) t (Many (insert (objects_or_none c) i o))) (get-inserted contents t (Many m))
    ∙ insert_twice contents t (Many m) (Many (insert m i o))

after_sets : (contents : Contents) (t : List ℕ) (m : Objects) (es : List (List ℕ × List ℕ))
    → after_all (insert contents t (Many m)) (sets t es) ≡ insert contents t (Many (insert_all m es))
after_sets contents t m [] = refl
after_sets contents t m (e ∷ es) =
    ap (λ s. after_all s (sets t es)) (after_set contents t e.0 e.1 m) ∙ after_sets contents t (insert m e.0 e.1) es

after_listed : (contents : Contents) (t : List ℕ) (table : Table) → after_all contents (listed (t, table)) ≡ insert contents t table
unfolding after
after_listed contents t (One o) = refl
after_listed contents t (Many m) =
    after_sets contents t no_objects (entries m) ∙ ap (λ c. insert contents t (Many c)) (insert_all-entries m)

after_all_listed : (contents : Contents) (es : List (List ℕ × Table)) → after_all contents (flat_map listed es) ≡ insert_all contents es
after_all_listed contents [] = refl
after_all_listed contents (e ∷ es) =
    fold-append after contents (listed e) (flat_map listed es)
    ∙ ap (λ s. after_all s (flat_map listed es)) (after_listed contents e.0 e.1)
    ∙ after_all_listed (insert contents e.0 e.1) es

neither : (b : Bool) → ◌≡◌ {A = Option Table} (cond b None None) None
neither true = refl
neither false = refl

cleared : (t : List ℕ) → remove no_tables t ≡ no_tables
cleared t =
    same_map total byte_order_antisymmetric _ _ (λ q. get-remove total no_tables t q
    ∙ ap (cond (eq_by_cmp byte_order q t) None) (get-empty byte_order q) ∙ neither (eq_by_cmp byte_order q t) ∙ sym (get-empty byte_order q))

or_clear-listed : (e : List ℕ × Table) (cs : List Change) → or_clear (listed e ++ cs) ≡ listed e ++ cs
or_clear-listed (t, One o) cs = refl
or_clear-listed (t, Many m) cs = refl

restored : (contents : Contents) (es : List (List ℕ × Table)) → entries contents ≡ es → after_all no_tables (or_clear (flat_map listed es)) ≡ contents
unfolding after
restored contents [] e = cleared (codes "contest") ∙ sym (empty_of_len contents (len-entries contents ∙ ap length e))
restored contents (p ∷ es) e =
    ap (after_all no_tables) (or_clear-listed p (flat_map listed es))
    ∙ after_all_listed no_tables (p ∷ es) ∙ ap (insert_all no_tables) (sym e) ∙ insert_all-entries contents

pub listing_restores : (contents : Contents) → after_all no_tables (listing contents) ≡ contents
listing_restores contents = restored contents (entries contents) refl

-- ---- what a listing of types is, and of none

some_listed : (es : List (List ℕ × Table)) → 0 < length es → or_clear (flat_map listed es) ≡ flat_map listed es
some_listed [] h = absurd (omega (arith, h))
some_listed (e ∷ es) h = or_clear-listed e (flat_map listed es)

none_listed : (es : List (List ℕ × Table)) → length es ≡ 0 → or_clear (flat_map listed es) ≡ Clear (codes "contest") ∷ []
none_listed [] h = refl
none_listed (e ∷ es) h = absurd (omega (arith, h))

pub listing_of_some : (contents : Contents) → 0 < len contents → listing contents ≡ flat_map listed (entries contents)
listing_of_some contents h = some_listed (entries contents) (subst (λ n. 0 < n) (len-entries contents) h)

pub listing_of_none : (contents : Contents) → len contents ≡ 0 → listing contents ≡ Clear (codes "contest") ∷ []
listing_of_none contents h = none_listed (entries contents) (sym (len-entries contents) ∙ h)

-- changes that are kept one after the other
pub fold-with_change : (kept changes : List Change) → fold with_change kept changes ≡ kept ++ changes
fold-with_change kept [] = sym (append-nil kept)
fold-with_change kept (c ∷ cs) = fold-with_change (kept ++ c ∷ []) cs ∙ append_assoc kept (c ∷ []) cs
