-- What a patch makes of tables after one more change was staged in it.
use Rattle.std.proofs.Common.{Bor, Bool, true, false, cond, ◌≡◌, ℕ, List, Option, None, Some, Ok, sym, ap, ◌∙◌, refl, subst}
use Rattle.std.specs.Option.{option_or, option_copied, option_and_then, is_some}
use Rattle.std.specs.Ordering.{eq_by_cmp}
use Rattle.std.specs.FinMap.{FinMap, empty, get, insert, remove, get-empty, get-insert, get-remove, get_tied}
use Rattle.feed_tables.specs.AtType.{less_object}
use Rattle.feed_tables.specs.Bytes.{byte_order}
use Rattle.feed_tables.specs.Map.{TakesThePlace, map_over, map_less}
use Rattle.feed_tables.specs.Tables.{Contents, object_of, object_at, without_id}
use Rattle.feed_tables.specs.declared.table.Table.{Table}
use Rattle.feed_tables.specs.declared.table.Table.TheVariants.{One, Many}
use Rattle.feed_changes.proofs.Order.{total}
use Rattle.feed_tables.proofs.Entries.{equal}
use Rattle.feed_tables.proofs.Maps.{remove_absent}
use Rattle.feed_tables.proofs.MapsOver.{get-map_over, get-map_less, same_gets, put_back, exchanged_some}
use Rattle.feed_tables.proofs.TablesLaws.{taken}

abbrev pub Gone : Type 0
Gone = FinMap byte_order (Unit {0})

-- what is held of a type by what is put in, what is taken away, and what was held
abbrev pub found : Option Table → Option (Unit {0}) → Option Table → Option Table
found put gone held = option_or put (cond (is_some gone) None held)

pub tied : {V : Type 0} (m : FinMap byte_order V) (q k : List ℕ) → eq_by_cmp byte_order q k ≡ true
    → get m q ≡ get m k
tied m q k t = sym (get_tied total m q k (equal _ t))

-- whether something is held under a name
pub copied : {A : Type 0} (r : Option (Bor A)) → is_some (option_copied r) ≡ is_some r
copied None = refl
copied (Some x) = refl

pub asked : {V : Type 0} (m : FinMap byte_order V) (q k : List ℕ) (r : Option (Bor V)) (b : Bool)
    → q ≡ k → option_copied r ≡ get m q → b ≡ is_some r → is_some (get m k) ≡ b
asked {V} m q k r b same is there =
    ap (λ (x : List ℕ). is_some (get m x)) (sym same) ∙ ap is_some (sym is) ∙ copied r ∙ sym there

pub none_copied : {A : Type 0} (o : Option (Bor A)) → is_some o ≡ false → option_copied o ≡ None
none_copied None is = refl
none_copied (Some x) is = cc

pub less_none : {V W : Type 0} (names : FinMap byte_order V) (m : FinMap byte_order W)
    → names ≡ empty → map_less names m ≡ m
less_none {V} {W} names m none = same_gets _ _ (λ q.
    get-map_less names m q
    ∙ ap (λ (n : FinMap byte_order V). cond {A = Option W} (is_some (get n q)) None (get m q)) none
    ∙ ap (λ (o : Option V). cond {A = Option W} (is_some o) None (get m q)) (get-empty byte_order q))

pub over_empty : {V : Type 0} (m c : FinMap byte_order V) → m ≡ empty → map_over m c ≡ c
over_empty {V} m c none = same_gets _ _ (λ q.
    get-map_over m c q
    ∙ ap (λ (n : FinMap byte_order V). option_or (get n q) (get c q)) none
    ∙ ap (λ (o : Option V). option_or o (get c q)) (get-empty byte_order q))

module _ (c : Contents) where
  abbrev pub over_of : Gone → Contents → Contents
  over_of gone tables = map_over tables (map_less gone c)

  pub over_nothing : (gone : Gone) (tables : Contents) → gone ≡ empty → tables ≡ empty
      → over_of gone tables ≡ c
  over_nothing gone tables none no_tables =
      over_empty tables (map_less gone c) no_tables ∙ less_none gone c none

  module _ (gone : Gone) (tables : Contents) where
    pub get-over : (q : List ℕ)
        → get (over_of gone tables) q ≡ found (get tables q) (get gone q) (get c q)
    get-over q =
        get-map_over tables (map_less gone c) q
        ∙ ap (λ (o : Option Table). option_or (get tables q) o) (get-map_less gone c q)

    -- a table that is put in
    put_found : (b : Bool) (t : Table) (w : Option Table) (g : Option (Unit {0})) (h : Option Table)
        → found (cond b (Some t) w) g h ≡ cond b (Some t) (found w g h)
    put_found true t w g h = refl
    put_found false t w g h = refl

    pub over_put : (more : Contents) (k : List ℕ) (t : Table) → more ≡ insert tables k t
        → over_of gone more ≡ insert (over_of gone tables) k t
    over_put more k t made = ap (over_of gone) made ∙ same_gets _ _ (λ q.
        get-map_over (insert tables k t) (map_less gone c) q
        ∙ ap (λ (o : Option Table). option_or (get (insert tables k t) q) o) (get-map_less gone c q)
        ∙ ap (λ (o : Option Table). found o (get gone q) (get c q)) (get-insert total tables k t q)
        ∙ put_found (eq_by_cmp byte_order q k) t (get tables q) (get gone q) (get c q)
        ∙ ap (λ (o : Option Table). cond (eq_by_cmp byte_order q k) (Some t) o) (sym (get-over q))
        ∙ sym (get-insert total (over_of gone tables) k t q))

    -- a type that is taken away
    gone_found : (b : Bool) (w : Option Table) (g : Option (Unit {0})) (x : Unit {0})
        (h : Option Table)
        → found (cond b None w) (cond b (Some x) g) h ≡ cond b None (found w g h)
    gone_found true w g x h = refl
    gone_found false w g x h = refl

    pub over_gone : (fewer : Contents) (more : Gone) (k : List ℕ) (x : Unit {0})
        → fewer ≡ remove tables k → more ≡ insert gone k x
        → over_of more fewer ≡ remove (over_of gone tables) k
    over_gone fewer more k x less made =
        ap (λ (m : Contents). over_of more m) less
        ∙ ap (λ (g : Gone). over_of g (remove tables k)) made
        ∙ same_gets _ _ (λ q.
        get-map_over (remove tables k) (map_less (insert gone k x) c) q
        ∙ ap (λ (o : Option Table). option_or (get (remove tables k) q) o)
        (get-map_less (insert gone k x) c q)
        ∙ ap (λ (o : Option Table). found o (get (insert gone k x) q) (get c q))
        (get-remove total tables k q)
        ∙ ap (λ (o : Option (Unit {0})).
        found (cond (eq_by_cmp byte_order q k) None (get tables q)) o (get c q))
        (get-insert total gone k x q)
        ∙ gone_found (eq_by_cmp byte_order q k) (get tables q) (get gone q) x (get c q)
        ∙ ap (λ (o : Option Table). cond (eq_by_cmp byte_order q k) None o) (sym (get-over q))
        ∙ sym (get-remove total (over_of gone tables) k q))

    -- a type that is taken away, where the tables haven't it
    never : (g : Option (Unit {0})) → cond {A = Option Table} (is_some g) None None ≡ None
    never None = refl
    never (Some x) = refl

    pub over_unheld : (fewer : Contents) (k : List ℕ) → get c k ≡ None → fewer ≡ remove tables k
        → over_of gone fewer ≡ remove (over_of gone tables) k
    over_unheld fewer k none less = ap (over_of gone) less ∙ same_gets _ _ (λ q.
        get-map_over (remove tables k) (map_less gone c) q
        ∙ ap (λ (o : Option Table). option_or (get (remove tables k) q) o) (get-map_less gone c q)
        ∙ ap (λ (o : Option Table). found o (get gone q) (get c q)) (get-remove total tables k q)
        ∙ elim (eq_by_cmp byte_order q k) as (λ b. eq_by_cmp byte_order q k ≡ b
        → found (cond b None (get tables q)) (get gone q) (get c q)
        ≡ cond b None (found (get tables q) (get gone q) (get c q))) [
          | true ↦ λ t. ap (λ (o : Option Table). found None (get gone q) o) (tied c q k t ∙ none)
              ∙ never (get gone q)
          | false ↦ λ t. refl
        ] refl
        ∙ ap (λ (o : Option Table). cond (eq_by_cmp byte_order q k) None o) (sym (get-over q))
        ∙ sym (get-remove total (over_of gone tables) k q))

-- to put what is there changes nothing
pub insert_same : {V : Type 0} (m : FinMap byte_order V) (k : List ℕ) (v : V)
    → get m k ≡ Some v → insert m k v ≡ m
insert_same {V} m k v is = same_gets _ _ (λ q.
    get-insert total m k v q
    ∙ elim (eq_by_cmp byte_order q k) as (λ b. eq_by_cmp byte_order q k ≡ b
    → cond b (Some v) (get m q) ≡ get m q) [
      | true ↦ λ t. sym (tied m q k t ∙ is)
      | false ↦ λ t. refl
    ] refl)

-- an exchange under another name for the same
renamed : {V : Type 0} (q k : List ℕ) (m n : FinMap byte_order V) (old new : V) (b : Bool)
    → q ≡ k → TakesThePlace q m n old new b → TakesThePlace k m n old new b
renamed q k m n old new b is e = subst (λ (x : List ℕ). TakesThePlace x m n old new b) is e

-- an item that was taken out, changed and put back
pub exchanged_twice : {V : Type 0} (q1 q2 k : List ℕ) (m n o : FinMap byte_order V)
    (p held now other : V) (a b : Bool) → q1 ≡ k → q2 ≡ k → a ≡ true
    → TakesThePlace q1 m n p held a → TakesThePlace q2 n o now other b
    → (get m k ≡ Some held) × (o ≡ insert m k now)
exchanged_twice q1 q2 k m n o p held now other a b is1 is2 there e1 e2 =
    let first = exchanged_some k m n p held a there (renamed q1 k m n p held a is1 e1) in
    (first.0, put_back m n o k p now other b first.1 (renamed q2 k n o now other b is2 e2))

-- an exchange that found nothing
pub exchanged_none : {V : Type 0} (q k : List ℕ) (m n : FinMap byte_order V) (old new : V) (b : Bool)
    → q ≡ k → b ≡ false → TakesThePlace q m n old new b → (get m k ≡ None) × (n ≡ m) × (new ≡ old)
exchanged_none q k m n old new true is none e = cc
exchanged_none q k m n old new false is none e = renamed q k m n old new false is e

-- what is taken out where nothing is held, and where the object isn't there
pub take_nothing : (m : Contents) (k id : List ℕ) → get m k ≡ None
    → m ≡ without_id m k id (get m k)
take_nothing m k id none = ap (without_id m k id) (sym none)

less_absent : (t : Table) (id : List ℕ) → object_of id t ≡ None → less_object t id ≡ t
less_absent (One o) id none = refl
less_absent (Many os) id none = ap Many (remove_absent os id none)

pub take_absent : (m : Contents) (k id : List ℕ) (t : Table) → get m k ≡ Some t
    → object_of id t ≡ None → m ≡ without_id m k id (get m k)
take_absent m k id t held none =
    let same : m ≡ insert m k (less_object t id) =
    sym (ap (insert m k) (less_absent t id none) ∙ insert_same m k t held) in
    taken {A = Unit {0}} {E = Unit {0}} m m k id t (less_object t id) (sym held) same (Ok tt) refl

pub remove_nothing : (m : Contents) (k id : List ℕ) → object_at m k id ≡ None
    → m ≡ without_id m k id (get m k)
remove_nothing m k id none =
    elim (get m k) as (λ o. get m k ≡ o → option_and_then (object_of id) o ≡ None
    → m ≡ without_id m k id (get m k)) [
      | None ↦ λ is absent. take_nothing m k id is
      | Some t ↦ λ is absent. take_absent m k id t is absent
    ] refl none

-- the types that come to the tables
fresh : (w : Option Table) (g : Option (Unit {0})) (h : Option Table)
    → cond {A = Option Table} (is_some h) None (found w g h) ≡ cond (is_some h) None w
fresh w g (Some x) = refl
fresh None None None = refl
fresh None (Some x) None = refl
fresh (Some y) g None = refl

pub added_are : (c : Contents) (gone : Gone) (tables : Contents)
    → map_less c (over_of c gone tables) ≡ map_less c tables
added_are c gone tables = same_gets _ _ (λ q.
    get-map_less c (over_of c gone tables) q
    ∙ ap (λ (o : Option Table). cond {A = Option Table} (is_some (get c q)) None o)
    (get-over c gone tables q)
    ∙ fresh (get tables q) (get gone q) (get c q)
    ∙ sym (get-map_less c tables q))
