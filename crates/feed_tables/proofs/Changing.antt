-- Contents with objects changed in some of their collections.
use Rattle.std.proofs.Common.{Bor, Result, Ok, Err, OnOk, OnErr, Bool, true, false, cond, ◌≡◌, ℕ, ◌+◌, ◌<◌, List, [], ◌∷◌, length, Option, None, Some, fold, sym, ap, ◌∙◌, refl, subst, arith}
use Rattle.std.specs.declared.alloc.Global.{Global}
use Rattle.std.specs.declared.boxed.Box.{Box}
use Rattle.std.specs.Option.{is_some, option_copied}
use Rattle.std.specs.Ordering.{eq_by_cmp}
use Rattle.std.specs.FinMap.{FinMap, find, empty, get, insert, remove, len, entries, entries_sorted, get-entries, get-empty, get-insert, get-remove, get_tied, len-entries, len-insert, contains_key}
use Rattle.feed_tables.specs.Bytes.{byte_order, IsInOrder}
use Rattle.feed_tables.specs.Map.{map_less, TakesFirst}
use Rattle.feed_tables.specs.ChangedIds.{over_ids, merged, merged_at, with_ids, with_all_ids}
use Rattle.feed_tables.specs.Tables.{Objects, Contents, no_objects, objects_or_none, collection_of, with_object, without_id}
use Rattle.feed_tables.specs.declared.ids.Ids.{Ids}
use Rattle.feed_tables.specs.declared.patch.Patch.{Patch}
use Rattle.feed_tables.specs.declared.table.Table.{Table}
use Rattle.feed_tables.specs.declared.table.Table.TheVariants.{One, Many}
use Rattle.feed_tables.specs.declared.tree.Fork.{Fork}
use Rattle.feed_changes.proofs.Order.{total}
use Rattle.feed_tables.proofs.Entries.{first, second, equal, find_below, below_tied}
use Rattle.feed_tables.proofs.MapsOver.{same_gets, get-map_less}
use Rattle.feed_tables.proofs.Patching.{insert_same}

abbrev pub Changed : Type 0
Changed = FinMap byte_order Ids

abbrev pub step : Contents → List ℕ × Ids → Contents
step c e = with_ids c e.0 e.1 (get c e.0)

no_ids : (t : Option Table) → merged_at t None ≡ t
no_ids None = refl
no_ids (Some t) = refl

-- one type after its objects changed
pub get-step : (c : Contents) (e : List ℕ × Ids) (q : List ℕ)
    → get (step c e) q ≡ cond (eq_by_cmp byte_order q e.0) (merged_at (get c q) (Some e.1)) (get c q)
get-step c e q =
    elim (get c e.0) as (λ o. get c e.0 ≡ o → get (with_ids c e.0 e.1 o) q
    ≡ cond (eq_by_cmp byte_order q e.0) (merged_at (get c q) (Some e.1)) (get c q)) [
      | None ↦ λ is.
          elim (eq_by_cmp byte_order q e.0) as (λ b. eq_by_cmp byte_order q e.0 ≡ b
          → get c q ≡ cond b (merged_at (get c q) (Some e.1)) (get c q)) [
            | true ↦ λ t.
                let none : get c q ≡ None = sym (get_tied total c q e.0 (equal _ t)) ∙ is in
                none ∙ sym (ap (λ (o : Option Table). merged_at o (Some e.1)) none)
            | false ↦ λ t. refl
          ] refl
      | Some table ↦ λ is.
          get-insert total c e.0 (merged table e.1) q
          ∙ elim (eq_by_cmp byte_order q e.0) as (λ b. eq_by_cmp byte_order q e.0 ≡ b
          → cond b (Some (merged table e.1)) (get c q)
          ≡ cond b (merged_at (get c q) (Some e.1)) (get c q)) [
            | true ↦ λ t.
                let there : get c q ≡ Some table = sym (get_tied total c q e.0 (equal _ t)) ∙ is in
                sym (ap (λ (o : Option Table). merged_at o (Some e.1)) there)
            | false ↦ λ t. refl
          ] refl
    ] refl

-- all of them
get-fold_step : (es : List (List ℕ × Ids)) (c : Contents) (q : List ℕ) → IsInOrder es
    → get (fold step c es) q ≡ merged_at (get c q) (find byte_order q es)
get-fold_step [] c q h = sym (no_ids (get c q))
get-fold_step (e ∷ es) c q h =
    get-fold_step es (step c e) q (second _ _ h)
    ∙ ap (λ (t : Option Table). merged_at t (find byte_order q es)) (get-step c e q)
    ∙ elim (eq_by_cmp byte_order q e.0) as (λ b. eq_by_cmp byte_order q e.0 ≡ b
    → merged_at (cond b (merged_at (get c q) (Some e.1)) (get c q)) (find byte_order q es)
    ≡ merged_at (get c q) (cond b (Some e.1) (find byte_order q es))) [
      | true ↦ λ is.
          ap (λ (i : Option Ids). merged_at (merged_at (get c q) (Some e.1)) i)
          (find_below byte_order total q es (below_tied byte_order total q e.0 es (equal _ is) (first _ _ h)))
          ∙ no_ids (merged_at (get c q) (Some e.1))
      | false ↦ λ is. refl
    ] refl

pub get-changed : (changed : Changed) (c : Contents) (q : List ℕ)
    → get (with_all_ids changed c) q ≡ merged_at (get c q) (get changed q)
get-changed changed c q =
    get-fold_step (entries changed) c q (entries_sorted changed)
    ∙ ap (λ (i : Option Ids). merged_at (get c q) i) (sym (get-entries changed q))

pub changed_nothing : (changed : Changed) (c : Contents) → changed ≡ empty
    → with_all_ids changed c ≡ c
changed_nothing changed c none = same_gets _ _ (λ q.
    get-changed changed c q
    ∙ ap (λ (i : Option Ids). merged_at (get c q) i)
    (ap (λ (m : Changed). get m q) none ∙ get-empty byte_order q)
    ∙ no_ids (get c q))

-- the collection that is held, and none
pub held_some : (o : Option Table) (r : Option (Bor Objects)) → is_some r ≡ true
    → option_copied r ≡ collection_of o → (m : Objects) × (o ≡ Some (Many m))
held_some None None some is = cc
held_some None (Some x) some is = cc
held_some (Some (One object)) None some is = cc
held_some (Some (One object)) (Some x) some is = cc
held_some (Some (Many objects)) r some is = (objects, refl)

pub held_is : (o : Option Table) (r : Option (Bor Objects)) (m : Bor Objects) → r ≡ Some m
    → option_copied r ≡ collection_of o → o ≡ Some (Many m.now)
held_is o None m there is = cc
held_is None (Some x) m there is = cc
held_is (Some (One object)) (Some x) m there is = cc
held_is (Some (Many objects)) (Some x) m there is = cc

pub held_none : (o : Option Table) (r : Option (Bor Objects)) → is_some r ≡ false
    → option_copied r ≡ collection_of o → collection_of o ≡ None
held_none o None none is = sym is
held_none o (Some x) none is = cc

pub none_of : (o : Option Table) (r : Option (Bor Objects))
    → ((m : Bor Objects) → r ≡ Some m → ⊥) → option_copied r ≡ collection_of o
    → collection_of o ≡ None
none_of o None none is = sym is
none_of o (Some x) none is = absurd (none x refl)

-- a patch that has the same changes again
pub same_ids : (p : Patch) (ids : Changed) → ids ≡ p.ids → record p { ids = ids } ≡ p
same_ids p ids same = ap (λ (m : Changed). record p { ids = m }) same

pub left_ids : {A E : Type 0} (p : Patch) (k : List ℕ) (more : Changed) (held now : Ids)
    → get p.ids k ≡ Some held → more ≡ insert p.ids k now → (r : Result A E)
    → OnErr r (now ≡ held) → OnErr r (record p { ids = more } ≡ p)
left_ids p k more held now there put (Ok a) same = tt
left_ids p k more held now there put (Err e) same =
    same_ids p more (put ∙ ap (insert p.ids k) same ∙ insert_same p.ids k held there)

-- under one name
module _ (changed : Changed) (c : Contents) (k : List ℕ) where
  abbrev pub after : Contents
  after = with_all_ids changed c

  -- a table that is put in
  pub changed_replaced : (fewer : Changed) (d : Contents) (t : Table) → fewer ≡ remove changed k
      → d ≡ insert c k t → with_all_ids fewer d ≡ insert after k t
  changed_replaced fewer d t less put = same_gets _ _ (λ q.
      get-changed fewer d q
      ∙ ap (λ (m : Contents). merged_at (get m q) (get fewer q)) put
      ∙ ap (λ (m : Changed). merged_at (get (insert c k t) q) (get m q)) less
      ∙ ap (λ (o : Option Table). merged_at o (get (remove changed k) q)) (get-insert total c k t q)
      ∙ ap (λ (i : Option Ids). merged_at (cond (eq_by_cmp byte_order q k) (Some t) (get c q)) i)
      (get-remove total changed k q)
      ∙ elim (eq_by_cmp byte_order q k) as (λ b.
      merged_at (cond b (Some t) (get c q)) (cond b None (get changed q))
      ≡ cond b (Some t) (merged_at (get c q) (get changed q))) [
        | true ↦ refl
        | false ↦ refl
      ]
      ∙ ap (λ (o : Option Table). cond (eq_by_cmp byte_order q k) (Some t) o) (sym (get-changed changed c q))
      ∙ sym (get-insert total after k t q))

  -- a type that is taken away
  pub changed_removed : (d : Contents) → d ≡ remove c k → with_all_ids changed d ≡ remove after k
  changed_removed d less = same_gets _ _ (λ q.
      get-changed changed d q
      ∙ ap (λ (m : Contents). merged_at (get m q) (get changed q)) less
      ∙ ap (λ (o : Option Table). merged_at o (get changed q)) (get-remove total c k q)
      ∙ elim (eq_by_cmp byte_order q k) as (λ b.
      merged_at (cond b None (get c q)) (get changed q)
      ≡ cond b None (merged_at (get c q) (get changed q))) [
        | true ↦ refl
        | false ↦ refl
      ]
      ∙ ap (λ (o : Option Table). cond (eq_by_cmp byte_order q k) None o) (sym (get-changed changed c q))
      ∙ sym (get-remove total after k q))

  -- a collection in which objects change in another way
  pub changed_again : (more : Changed) (m : Objects) (j : Ids) → get c k ≡ Some (Many m)
      → more ≡ insert changed k j → with_all_ids more c ≡ insert after k (Many (over_ids m j))
  changed_again more m j held put = same_gets _ _ (λ q.
      get-changed more c q
      ∙ ap (λ (n : Changed). merged_at (get c q) (get n q)) put
      ∙ ap (λ (i : Option Ids). merged_at (get c q) i) (get-insert total changed k j q)
      ∙ elim (eq_by_cmp byte_order q k) as (λ b. eq_by_cmp byte_order q k ≡ b
      → merged_at (get c q) (cond b (Some j) (get changed q))
      ≡ cond b (Some (Many (over_ids m j))) (merged_at (get c q) (get changed q))) [
        | true ↦ λ t. ap (λ (o : Option Table). merged_at o (Some j))
            (sym (get_tied total c q k (equal _ t)) ∙ held)
        | false ↦ λ t. refl
      ] refl
      ∙ ap (λ (o : Option Table). cond (eq_by_cmp byte_order q k) (Some (Many (over_ids m j))) o)
      (sym (get-changed changed c q))
      ∙ sym (get-insert total after k (Many (over_ids m j)) q))

  -- the objects that are held there
  pub held_after : (m : Objects) (i : Ids) → get c k ≡ Some (Many m) → get changed k ≡ Some i
      → get after k ≡ Some (Many (over_ids m i))
  held_after m i held there =
      get-changed changed c k
      ∙ ap (λ (o : Option Table). merged_at o (get changed k)) held
      ∙ ap (λ (o : Option Ids). merged_at (Some (Many m)) o) there

  pub held_still : (m : Objects) → get c k ≡ Some (Many m) → get changed k ≡ None
      → get after k ≡ Some (Many m)
  held_still m held none =
      get-changed changed c k
      ∙ ap (λ (o : Option Table). merged_at o (get changed k)) held
      ∙ ap (λ (o : Option Ids). merged_at (Some (Many m)) o) none

  pub set_again : (more : Changed) (m os : Objects) (j : Ids) (id v : List ℕ)
      → get c k ≡ Some (Many m) → get after k ≡ Some (Many os) → more ≡ insert changed k j
      → over_ids m j ≡ insert os id v → with_all_ids more c ≡ with_object after k id v
  set_again more m os j id v held are put made =
      changed_again more m j held put
      ∙ ap (λ (n : Objects). insert after k (Many n)) made
      ∙ ap (λ (t : Option Table). insert after k (Many (insert (objects_or_none t) id v))) (sym are)

  pub taken_again : (more : Changed) (m os : Objects) (j : Ids) (id : List ℕ)
      → get c k ≡ Some (Many m) → get after k ≡ Some (Many os) → more ≡ insert changed k j
      → over_ids m j ≡ remove os id → with_all_ids more c ≡ without_id after k id (get after k)
  taken_again more m os j id held are put made =
      changed_again more m j held put
      ∙ ap (λ (n : Objects). insert after k (Many n)) made
      ∙ ap (λ (t : Option Table). without_id after k id t) (sym are)

  pub take_done : {A E : Type 0} (more : Changed) (m : Objects) (i j : Ids) (id : List ℕ)
      → get c k ≡ Some (Many m) → get changed k ≡ Some i → more ≡ insert changed k j
      → (r : Result A E) → OnOk r (over_ids m j ≡ remove (over_ids m i) id)
      → OnOk r (with_all_ids more c ≡ without_id after k id (get after k))
  take_done more m i j id held there put (Ok a) made =
      taken_again more m (over_ids m i) j id held (held_after m i held there) put made
  take_done more m i j id held there put (Err e) made = tt

  -- where no collection is held
  no_objects_of : (o : Option Table) (i : Option Ids) → collection_of o ≡ None
      → objects_or_none (merged_at o i) ≡ no_objects
  no_objects_of None i none = refl
  no_objects_of (Some (One object)) None none = refl
  no_objects_of (Some (One object)) (Some ids) none = refl
  no_objects_of (Some (Many objects)) i none = cc

  pub begun : (more : Changed) (d : Contents) (j : Ids) (id v : List ℕ)
      → collection_of (get c k) ≡ None → more ≡ insert changed k j
      → d ≡ insert c k (Many no_objects) → over_ids no_objects j ≡ insert no_objects id v
      → with_all_ids more d ≡ with_object after k id v
  begun more d j id v none put made set = same_gets _ _ (λ q.
      get-changed more d q
      ∙ ap (λ (m : Contents). merged_at (get m q) (get more q)) made
      ∙ ap (λ (n : Changed). merged_at (get (insert c k (Many no_objects)) q) (get n q)) put
      ∙ ap (λ (o : Option Table). merged_at o (get (insert changed k j) q))
      (get-insert total c k (Many no_objects) q)
      ∙ ap (λ (i : Option Ids).
      merged_at (cond (eq_by_cmp byte_order q k) (Some (Many no_objects)) (get c q)) i)
      (get-insert total changed k j q)
      ∙ elim (eq_by_cmp byte_order q k) as (λ b.
      merged_at (cond b (Some (Many no_objects)) (get c q)) (cond b (Some j) (get changed q))
      ≡ cond b (Some (Many (over_ids no_objects j))) (merged_at (get c q) (get changed q))) [
        | true ↦ refl
        | false ↦ refl
      ]
      ∙ ap (λ (n : Objects).
      cond (eq_by_cmp byte_order q k) (Some (Many n)) (merged_at (get c q) (get changed q))) set
      ∙ ap (λ (n : Objects).
      cond (eq_by_cmp byte_order q k) (Some (Many (insert n id v))) (merged_at (get c q) (get changed q)))
      (sym (ap objects_or_none (get-changed changed c k) ∙ no_objects_of (get c k) (get changed k) none))
      ∙ ap (λ (o : Option Table).
      cond (eq_by_cmp byte_order q k) (Some (Many (insert (objects_or_none (get after k)) id v))) o)
      (sym (get-changed changed c q))
      ∙ sym (get-insert total after k (Many (insert (objects_or_none (get after k)) id v)) q))

  nothing_taken : (d : Contents) (o : Option Table) (i : Option Ids) (id : List ℕ)
      → collection_of o ≡ None → d ≡ without_id d k id (merged_at o i)
  nothing_taken d None i id none = refl
  nothing_taken d (Some (One object)) None id none = refl
  nothing_taken d (Some (One object)) (Some ids) id none = refl
  nothing_taken d (Some (Many objects)) i id none = cc

  pub taken_nowhere : (id : List ℕ) → collection_of (get c k) ≡ None
      → after ≡ without_id after k id (get after k)
  taken_nowhere id none =
      nothing_taken after (get c k) (get changed k) id none
      ∙ ap (λ (t : Option Table). without_id after k id t) (sym (get-changed changed c k))

-- the types of contents stay where objects change
held_key : (c : Contents) (k : List ℕ) (t : Table) → get c k ≡ Some t → contains_key c k ≡ true
held_key c k t is = ap is_some is

len-step : (c : Contents) (e : List ℕ × Ids) → len (step c e) ≡ len c
len-step c e =
    elim (get c e.0) as (λ o. get c e.0 ≡ o → len (with_ids c e.0 e.1 o) ≡ len c) [
      | None ↦ λ is. refl
      | Some table ↦ λ is.
          len-insert total c e.0 (merged table e.1)
          ∙ ap (λ (b : Bool). cond b (len c) (len c + 1)) (held_key c e.0 table is)
    ] refl

len-fold_step : (es : List (List ℕ × Ids)) (c : Contents) → len (fold step c es) ≡ len c
len-fold_step [] c = refl
len-fold_step (e ∷ es) c = len-fold_step es (step c e) ∙ len-step c e

still_less : (b : Bool) (t : Option Table) (i : Option Ids)
    → cond b None (merged_at t i) ≡ merged_at (cond b None t) i
still_less true t i = refl
still_less false t i = refl

pub len-changed_less : {V : Type 0} (names : FinMap byte_order V) (changed : Changed) (c : Contents)
    → len (map_less names (with_all_ids changed c)) ≡ len (map_less names c)
len-changed_less {V} names changed c =
    ap len (same_gets _ _ (λ q.
    get-map_less names (with_all_ids changed c) q
    ∙ ap (λ (t : Option Table). cond (is_some (get names q)) None t) (get-changed changed c q)
    ∙ still_less (is_some (get names q)) (get c q) (get changed q)
    ∙ ap (λ (t : Option Table). merged_at t (get changed q)) (sym (get-map_less names c q))
    ∙ sym (get-changed changed (map_less names c) q)))
    ∙ len-fold_step (entries changed) (map_less names c)

-- the first one changed, and then the rest
pub changed_first : (c : Contents) (m n : Changed) (e : List ℕ × Ids) → entries m ≡ e ∷ entries n
    → with_all_ids m c ≡ with_all_ids n (step c e)
changed_first c m n e is = ap (λ (es : List (List ℕ × Ids)). fold step c es) is

pub changed_none : (c : Contents) (m : Changed) → entries m ≡ [] → with_all_ids m c ≡ c
changed_none c m is = ap (λ (es : List (List ℕ × Ids)). fold step c es) is

fewer : (m n : Changed) (e : List ℕ × Ids) → entries m ≡ e ∷ entries n → len n < len m
fewer m n e is = omega (arith, len-entries m, len-entries n, ap length is)

pub fewer_taken : (m n : Changed) (r : Option (Box (Fork Ids) Global)) (node : Box (Fork Ids) Global)
    → r ≡ Some node → TakesFirst m n r → len n < len m
fewer_taken m n r node is t =
    fewer m n (node.value.id, node.value.item)
    (subst (λ (o : Option (Box (Fork Ids) Global)). TakesFirst m n o) is t)
