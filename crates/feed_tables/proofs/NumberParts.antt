-- Numbers by name, in parts.
use Rattle.std.proofs.Common.{◌≡◌, ◌≢◌, ℕ, zero, suc, ◌+◌, ◌<◌, Bool, true, false, cond, Option, None, Some, List, [], ◌∷◌, ◌++◌, take, length, subst, sym, ap, ap₂, ◌∙◌, refl, arith}
use Rattle.std.specs.Prelude.{slice_index_or, slice_set}
use Rattle.std.specs.List.{FoldsTo}
use Rattle.std.proofs.lemmas.List.{length-set}
use Rattle.std.specs.Option.{option_or}
use Rattle.std.specs.Ordering.{eq_by_cmp}
use Rattle.std.specs.FinMap.{FinMap, empty, get, insert, remove, get-empty, get-insert, get-remove}
use Rattle.std.proofs.lemmas.Map.Views.{tells_apart}
use Rattle.feed_tables.specs.Bytes.{byte_order}
use Rattle.feed_tables.specs.Map.{map_over}
use Rattle.feed_tables.specs.Numbers.{part_of, joined, AreApart, AreParts}
use Rattle.feed_tables.proofs.Maps.{byte_order_antisymmetric}
use Rattle.feed_tables.proofs.MapsOver.{get-map_over, same_gets}
use Rattle.feed_changes.proofs.Order.{total}

-- the names of a part are of that alone
abbrev Own : {V : Type 0} → ℕ → ℕ → FinMap byte_order V → Type 0
Own count n part = (name : List ℕ) → part_of count name ≢ n → get part name ≡ None

-- names of different parts are different
other_name : (count : ℕ) (a b : List ℕ) → part_of count a ≢ part_of count b → eq_by_cmp byte_order a b ≡ false
other_name count a b apart = by (eq_by_cmp byte_order a b) refl
  where
    by : (v : Bool) → eq_by_cmp byte_order a b ≡ v → v ≡ false
    by true e = absurd (apart (ap (part_of count) (tells_apart byte_order_antisymmetric a b e)))
    by false e = refl

-- ---- one map over another

module _ {V : Type 0} where
  inserted_left : (b : Bool) (v : V) (x y : Option V) → option_or (cond b (Some v) x) y ≡ cond b (Some v) (option_or x y)
  inserted_left true v x y = refl
  inserted_left false v x y = refl

  inserted_right : (b : Bool) (v : V) (x y : Option V) → (b ≡ true → x ≡ None) → option_or x (cond b (Some v) y) ≡ cond b (Some v) (option_or x y)
  inserted_right true v x y none = rw (none refl) refl
  inserted_right false v x y none = refl

  removed_left : (b : Bool) (x y : Option V) → (b ≡ true → y ≡ None) → option_or (cond b None x) y ≡ cond b None (option_or x y)
  removed_left true x y none = none refl
  removed_left false x y none = refl

  removed_right : (b : Bool) (x y : Option V) → (b ≡ true → x ≡ None) → option_or x (cond b None y) ≡ cond b None (option_or x y)
  removed_right true x y none = rw (none refl) refl
  removed_right false x y none = refl

  -- a name that isn't told apart from one that a map hasn't, isn't there either
  none_too : (m : FinMap byte_order V) (k q : List ℕ) → get m k ≡ None → eq_by_cmp byte_order q k ≡ true → get m q ≡ None
  none_too m k q none same = ap (get m) (tells_apart byte_order_antisymmetric q k same) ∙ none

  insert_over : (p m : FinMap byte_order V) (k : List ℕ) (v : V) → map_over (insert p k v) m ≡ insert (map_over p m) k v
  insert_over p m k v = same_gets _ _ (λ q.
      get-map_over (insert p k v) m q
      ∙ ap (λ (o : Option V). option_or o (get m q)) (get-insert total p k v q)
      ∙ inserted_left (eq_by_cmp byte_order q k) v (get p q) (get m q)
      ∙ sym (get-insert total (map_over p m) k v q
      ∙ ap (λ (o : Option V). cond (eq_by_cmp byte_order q k) (Some v) o) (get-map_over p m q)))

  insert_under : (p m : FinMap byte_order V) (k : List ℕ) (v : V) → get p k ≡ None → map_over p (insert m k v) ≡ insert (map_over p m) k v
  insert_under p m k v none = same_gets _ _ (λ q.
      get-map_over p (insert m k v) q
      ∙ ap (λ (o : Option V). option_or (get p q) o) (get-insert total m k v q)
      ∙ inserted_right (eq_by_cmp byte_order q k) v (get p q) (get m q) (none_too p k q none)
      ∙ sym (get-insert total (map_over p m) k v q
      ∙ ap (λ (o : Option V). cond (eq_by_cmp byte_order q k) (Some v) o) (get-map_over p m q)))

  remove_over : (p m : FinMap byte_order V) (k : List ℕ) → get m k ≡ None → map_over (remove p k) m ≡ remove (map_over p m) k
  remove_over p m k none = same_gets _ _ (λ q.
      get-map_over (remove p k) m q
      ∙ ap (λ (o : Option V). option_or o (get m q)) (get-remove total p k q)
      ∙ removed_left (eq_by_cmp byte_order q k) (get p q) (get m q) (none_too m k q none)
      ∙ sym (get-remove total (map_over p m) k q
      ∙ ap (λ (o : Option V). cond (eq_by_cmp byte_order q k) None o) (get-map_over p m q)))

  remove_under : (p m : FinMap byte_order V) (k : List ℕ) → get p k ≡ None → map_over p (remove m k) ≡ remove (map_over p m) k
  remove_under p m k none = same_gets _ _ (λ q.
      get-map_over p (remove m k) q
      ∙ ap (λ (o : Option V). option_or (get p q) o) (get-remove total m k q)
      ∙ removed_right (eq_by_cmp byte_order q k) (get p q) (get m q) (none_too p k q none)
      ∙ sym (get-remove total (map_over p m) k q
      ∙ ap (λ (o : Option V). cond (eq_by_cmp byte_order q k) None o) (get-map_over p m q)))

-- ---- all parts

module _ {V : Type 0} (count : ℕ) where
  -- a name of a part before these is in none of them
  no_part : (parts : List (FinMap byte_order V)) (n : ℕ) (name : List ℕ) → AreApart count n parts → part_of count name < n → get (joined parts) name ≡ None
  no_part [] n name apart less = get-empty byte_order name
  no_part (p ∷ ps) n name apart less =
      get-map_over p (joined ps) name
      ∙ ap₂ option_or (apart.0 name (omega (arith, less))) (no_part ps (n + 1) name apart.1 (omega (arith, less)))

  none_or : (x : Option V) → option_or None x ≡ x
  none_or x = refl

  or_none : (x : Option V) → option_or x None ≡ x
  or_none None = refl
  or_none (Some x) = refl

  -- what all have under a name is what its part has
  pub in_part : (parts : List (FinMap byte_order V)) (n i : ℕ) (other : FinMap byte_order V) (name : List ℕ) → AreApart count n parts → part_of count name ≡ n + i → i < length parts
      → get (slice_index_or parts i other) name ≡ get (joined parts) name
  in_part [] n i other name apart is inside = absurd (omega (arith, inside))
  in_part (p ∷ ps) n zero other name apart is inside = sym (
      get-map_over p (joined ps) name
      ∙ ap (λ (o : Option V). option_or (get p name) o) (no_part ps (n + 1) name apart.1 (omega (arith, is)))
      ∙ or_none (get p name))
  in_part (p ∷ ps) n (suc i) other name apart is inside =
      in_part ps (n + 1) i other name apart.1 (omega (arith, is)) (omega (arith, inside))
      ∙ sym (
      get-map_over p (joined ps) name
      ∙ ap (λ (o : Option V). option_or o (get (joined ps) name)) (apart.0 name (omega (arith, is))))

  set_apart : (parts : List (FinMap byte_order V)) (n i : ℕ) (part : FinMap byte_order V) → AreApart count n parts → Own count (n + i) part → AreApart count n (slice_set parts i part)
  set_apart [] n i part apart own = tt
  set_apart (p ∷ ps) n zero part apart own = (λ name other. own name (omega (arith, other)), apart.1)
  set_apart (p ∷ ps) n (suc i) part apart own =
      (apart.0, set_apart ps (n + 1) i part apart.1 (λ name other. own name (omega (arith, other))))

  own_part : (parts : List (FinMap byte_order V)) (n i : ℕ) (other : FinMap byte_order V) → AreApart count n parts → i < length parts → Own count (n + i) (slice_index_or parts i other)
  own_part [] n i other apart inside = absurd (omega (arith, inside))
  own_part (p ∷ ps) n zero other apart inside = λ name apart_from. apart.0 name (omega (arith, apart_from))
  own_part (p ∷ ps) n (suc i) other apart inside = λ name apart_from. own_part ps (n + 1) i other apart.1 (omega (arith, inside)) name (omega (arith, apart_from))

  pub joined_insert : (parts : List (FinMap byte_order V)) (n i : ℕ) (other : FinMap byte_order V) (k : List ℕ) (v : V) → AreApart count n parts → part_of count k ≡ n + i → i < length parts
      → joined (slice_set parts i (insert (slice_index_or parts i other) k v)) ≡ insert (joined parts) k v
  joined_insert [] n i other k v apart is inside = absurd (omega (arith, inside))
  joined_insert (p ∷ ps) n zero other k v apart is inside = insert_over p (joined ps) k v
  joined_insert (p ∷ ps) n (suc i) other k v apart is inside =
      ap (map_over p) (joined_insert ps (n + 1) i other k v apart.1 (omega (arith, is)) (omega (arith, inside)))
      ∙ insert_under p (joined ps) k v (apart.0 k (omega (arith, is)))

  pub joined_remove : (parts : List (FinMap byte_order V)) (n i : ℕ) (other : FinMap byte_order V) (k : List ℕ) → AreApart count n parts → part_of count k ≡ n + i → i < length parts
      → joined (slice_set parts i (remove (slice_index_or parts i other) k)) ≡ remove (joined parts) k
  joined_remove [] n i other k apart is inside = absurd (omega (arith, inside))
  joined_remove (p ∷ ps) n zero other k apart is inside = remove_over p (joined ps) k (no_part ps (n + 1) k apart.1 (omega (arith, is)))
  joined_remove (p ∷ ps) n (suc i) other k apart is inside =
      ap (map_over p) (joined_remove ps (n + 1) i other k apart.1 (omega (arith, is)) (omega (arith, inside)))
      ∙ remove_under p (joined ps) k (apart.0 k (omega (arith, is)))

  pub insert_apart : (parts : List (FinMap byte_order V)) (i : ℕ) (other : FinMap byte_order V) (k : List ℕ) (v : V) → AreApart count 0 parts → part_of count k ≡ i → i < length parts
      → AreApart count 0 (slice_set parts i (insert (slice_index_or parts i other) k v))
  insert_apart parts i other k v apart is inside = set_apart parts 0 i _ apart (λ name apart_from.
      get-insert total (slice_index_or parts i other) k v name
      ∙ ap (λ (b : Bool). cond b (Some v) (get (slice_index_or parts i other) name)) (other_name count name k (λ same. apart_from (omega (arith, same, is))))
      ∙ own_part parts 0 i other apart inside name apart_from)

  pub remove_apart : (parts : List (FinMap byte_order V)) (i : ℕ) (other : FinMap byte_order V) (k : List ℕ) → AreApart count 0 parts → part_of count k ≡ i → i < length parts
      → AreApart count 0 (slice_set parts i (remove (slice_index_or parts i other) k))
  remove_apart parts i other k apart is inside = set_apart parts 0 i _ apart (λ name apart_from.
      get-remove total (slice_index_or parts i other) k name
      ∙ ap (λ (b : Bool). cond b None (get (slice_index_or parts i other) name)) (other_name count name k (λ same. apart_from (omega (arith, same, is))))
      ∙ own_part parts 0 i other apart inside name apart_from)

  -- parts without names
  pub all_empty : (parts : List (FinMap byte_order V)) (n : ℕ) → ((i : ℕ) → i < length parts → slice_index_or parts i empty ≡ empty) → AreApart count n parts
  all_empty [] n each = tt
  all_empty (p ∷ ps) n each = (
    λ name other. ap (λ (m : FinMap byte_order V). get m name) (each 0 (omega arith)) ∙ get-empty byte_order name,
    all_empty ps (n + 1) (λ i inside. each (suc i) (omega (arith, inside))),
  )

  pub joined_empty : (parts : List (FinMap byte_order V)) → ((i : ℕ) → i < length parts → slice_index_or parts i empty ≡ empty) → joined parts ≡ empty
  joined_empty [] each = refl
  joined_empty (p ∷ ps) each =
      ap₂ map_over (each 0 (omega arith)) (joined_empty ps (λ i inside. each (suc i) (omega (arith, inside))))
      ∙ same_gets _ _ (λ q.
      get-map_over {V = V} empty empty q
      ∙ ap₂ option_or (get-empty byte_order q) (get-empty byte_order q)
      ∙ sym (get-empty byte_order q))

-- ---- parts that a closure makes

module _ {F V : Type 0} (step : F → FinMap byte_order V → F → Type 0) (made : (p q : F) (part : FinMap byte_order V) → step p part q → part ≡ empty) where
  pub each_empty : (parts : List (FinMap byte_order V)) (p q : F) → FoldsTo step p parts q → (i : ℕ) → i < length parts → slice_index_or parts i empty ≡ empty
  each_empty [] p q folds i inside = absurd (omega (arith, inside))
  each_empty (part ∷ parts) p q folds zero inside = made p folds.0 part folds.1
  each_empty (part ∷ parts) p q folds (suc i) inside = each_empty parts folds.0 q folds.2 i (omega (arith, inside))

-- what follows no parts is all there is
pub behind_none : {A : Type 0} (n : ℕ) (old new parts : List A) → old ≡ [] → new ≡ take n old ++ parts → new ≡ parts
behind_none {A} n old new parts none is = is ∙ ap (λ (l : List A). take n l ++ parts) none ∙ nothing n
  where
    nothing : (n : ℕ) → take n [] ++ parts ≡ parts
    nothing zero = refl
    nothing (suc n) = refl

-- as many parts as before, in one of which something else is
pub set_parts : {V : Type 0} (parts : List (FinMap byte_order V)) (i : ℕ) (part : FinMap byte_order V) → 0 < length parts → AreApart (length parts) 0 (slice_set parts i part)
    → AreParts (slice_set parts i part)
set_parts {V} parts i part some apart =
    subst (λ (n : ℕ). (0 < n) × AreApart n 0 (slice_set parts i part)) (sym (length-set parts i part)) (some, apart)
