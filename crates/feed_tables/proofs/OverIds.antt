-- The objects of a collection over which some change.
use Rattle.std.proofs.Common.{Bool, true, false, cond, ◌≡◌, ℕ, List, Option, None, Some, sym, ap, ◌∙◌, refl}
use Rattle.std.specs.Option.{option_or, is_some}
use Rattle.std.specs.Ordering.{eq_by_cmp}
use Rattle.std.specs.FinMap.{empty, get, insert, remove, get-empty, get-insert, get-remove}
use Rattle.feed_tables.specs.Bytes.{byte_order}
use Rattle.feed_tables.specs.Map.{map_over, map_less}
use Rattle.feed_tables.specs.Tables.{Objects}
use Rattle.feed_changes.proofs.Order.{total}
use Rattle.feed_tables.proofs.MapsOver.{get-map_over, get-map_less, same_gets}
use Rattle.feed_tables.proofs.Patching.{Gone, tied}

-- what is found where the objects that are put in and those that are gone say so
abbrev pub found : Option (List ℕ) → Option (Unit {0}) → Option (List ℕ) → Option (List ℕ)
found set gone held = option_or set (cond (is_some gone) None held)

abbrev pub over : Objects → Gone → Objects → Objects
over sets gone m = map_over sets (map_less gone m)

pub get-over : (sets : Objects) (gone : Gone) (m : Objects) (q : List ℕ)
    → get (over sets gone m) q ≡ found (get sets q) (get gone q) (get m q)
get-over sets gone m q =
    get-map_over sets (map_less gone m) q
    ∙ ap (λ (o : Option (List ℕ)). option_or (get sets q) o) (get-map_less gone m q)

pub over_none : (m sets : Objects) (gone : Gone) → sets ≡ empty → gone ≡ empty
    → over sets gone m ≡ m
over_none m sets gone no_sets none_gone = same_gets _ _ (λ q.
    let set : get sets q ≡ None = ap (λ (s : Objects). get s q) no_sets ∙ get-empty byte_order q in
    let left : get gone q ≡ None = ap (λ (n : Gone). get n q) none_gone ∙ get-empty byte_order q in
    get-over sets gone m q
    ∙ ap (λ (o : Option (List ℕ)). found o (get gone q) (get m q)) set
    ∙ ap (λ (o : Option (Unit {0})). found None o (get m q)) left)

set_found : (b : Bool) (v : List ℕ) (s : Option (List ℕ)) (g : Option (Unit {0})) (h : Option (List ℕ))
    → found (cond b (Some v) s) g h ≡ cond b (Some v) (found s g h)
set_found true v s g h = refl
set_found false v s g h = refl

pub over_set : (m sets more : Objects) (gone : Gone) (k v : List ℕ) → more ≡ insert sets k v
    → over more gone m ≡ insert (over sets gone m) k v
over_set m sets more gone k v made = same_gets _ _ (λ q.
    get-over more gone m q
    ∙ ap (λ (s : Objects). found (get s q) (get gone q) (get m q)) made
    ∙ ap (λ (o : Option (List ℕ)). found o (get gone q) (get m q)) (get-insert total sets k v q)
    ∙ set_found (eq_by_cmp byte_order q k) v (get sets q) (get gone q) (get m q)
    ∙ ap (λ (o : Option (List ℕ)). cond (eq_by_cmp byte_order q k) (Some v) o) (sym (get-over sets gone m q))
    ∙ sym (get-insert total (over sets gone m) k v q))

taken_found : (b : Bool) (x : Unit {0}) (s : Option (List ℕ)) (g : Option (Unit {0})) (h : Option (List ℕ))
    → found (cond b None s) (cond b (Some x) g) h ≡ cond b None (found s g h)
taken_found true x s g h = refl
taken_found false x s g h = refl

pub over_taken : (m sets fewer : Objects) (gone more : Gone) (k : List ℕ) (x : Unit {0})
    → fewer ≡ remove sets k → more ≡ insert gone k x
    → over fewer more m ≡ remove (over sets gone m) k
over_taken m sets fewer gone more k x taken made = same_gets _ _ (λ q.
    get-over fewer more m q
    ∙ ap (λ (s : Objects). found (get s q) (get more q) (get m q)) taken
    ∙ ap (λ (n : Gone). found (get (remove sets k) q) (get n q) (get m q)) made
    ∙ ap (λ (o : Option (List ℕ)). found o (get (insert gone k x) q) (get m q)) (get-remove total sets k q)
    ∙ ap (λ (o : Option (Unit {0})). found (cond (eq_by_cmp byte_order q k) None (get sets q)) o (get m q))
    (get-insert total gone k x q)
    ∙ taken_found (eq_by_cmp byte_order q k) x (get sets q) (get gone q) (get m q)
    ∙ ap (λ (o : Option (List ℕ)). cond (eq_by_cmp byte_order q k) None o) (sym (get-over sets gone m q))
    ∙ sym (get-remove total (over sets gone m) k q))

-- an object that the collection hasn't
never : (g : Option (Unit {0})) → cond {A = Option (List ℕ)} (is_some g) None None ≡ None
never None = refl
never (Some x) = refl

pub over_unheld : (m sets fewer : Objects) (gone : Gone) (k : List ℕ) → get m k ≡ None
    → fewer ≡ remove sets k → over fewer gone m ≡ remove (over sets gone m) k
over_unheld m sets fewer gone k none taken = same_gets _ _ (λ q.
    get-over fewer gone m q
    ∙ ap (λ (s : Objects). found (get s q) (get gone q) (get m q)) taken
    ∙ ap (λ (o : Option (List ℕ)). found o (get gone q) (get m q)) (get-remove total sets k q)
    ∙ elim (eq_by_cmp byte_order q k) as (λ b. eq_by_cmp byte_order q k ≡ b
    → found (cond b None (get sets q)) (get gone q) (get m q)
    ≡ cond b None (found (get sets q) (get gone q) (get m q))) [
      | true ↦ λ t. ap (λ (o : Option (List ℕ)). found None (get gone q) o) (tied m q k t ∙ none)
          ∙ never (get gone q)
      | false ↦ λ t. refl
    ] refl
    ∙ ap (λ (o : Option (List ℕ)). cond (eq_by_cmp byte_order q k) None o) (sym (get-over sets gone m q))
    ∙ sym (get-remove total (over sets gone m) k q))
