-- The changes of a snapshot by their places, and where two snapshots part.
use Rattle.std.proofs.lemmas.List.{take-append-drop}
use Rattle.std.proofs.Math.Seq.{drop-cons, take-suc}
use Rattle.std.specs.List.{slice_get}
use Rattle.std.proofs.Common.{◌<◌, ◌≤◌, ◌+◌, suc, arith, take, drop, get_or, length-drop, add-one, ◌≡◌, ◌≢◌, refl, sym, ap, ◌∙◌, subst, ℕ, Bool, true, false, cond, T, List, [], ◌∷◌, ◌++◌, map, flat_map, length, Option, None, Some, is_some}
use Rattle.std.specs.Option.{option_cmp, option_and_then}
use Rattle.std.specs.Ordering.{eq_by_cmp, is_eq, ordering_then, on}
use Rattle.std.specs.Cmp.{IsTotalOrder, on_total, then_total}
use Rattle.std.specs.Cmp.Lexicographic.{options_total}
use Rattle.std.specs.declared.cmp.Ordering.{Ordering}
use Rattle.std.specs.declared.cmp.Ordering.TheVariants.{Less, Equal, Greater}
use Rattle.std.specs.FinMap.{entries, entries_sorted, find, get-entries, is_sorted}
use Rattle.std.specs.FinMap.Entries.{below_all}
use Rattle.std.proofs.lemmas.Cmp.{tied_itself}
use Rattle.feed_tables.specs.Bytes.{byte_order}
use Rattle.feed_changes.specs.Changes.{sets}
use Rattle.feed_tables.specs.Tables.{Contents, listed, listing, or_clear, as_singleton, object_of, collection_of}
use Rattle.feed_changes.specs.declared.change.Change.{Change}
use Rattle.feed_changes.specs.declared.change.Change.TheVariants.{Set, Remove, Empty, Single, Clear}
use Rattle.feed_tables.specs.declared.table.Table.{Table}
use Rattle.feed_tables.specs.declared.table.Table.TheVariants.{One, Many}
use Rattle.feed_tables.proofs.Entries.{first, second, less, equal, earlier, find_below, find_skip, find_stop, find_here, find_before, below_right, below_trans, both, is_less}
use Rattle.feed_changes.proofs.Order.{total}
use Rattle.feed_tables.proofs.Maps.{byte_order_antisymmetric}
use Rattle.feed_audit.specs.Differences.{object_side, type_side, side_at, DifferFirst}
use Rattle.feed_audit.specs.Places.{PlaceAt, place_order, place_changed, put_by, BeginsFirst, IsFirstOf, PartAt}
use Rattle.feed_audit.specs.declared.difference.Side.{Side}
use Rattle.feed_audit.specs.declared.difference.Side.TheVariants.{Nothing, Object, Collection}

-- ---- the order of places

pub places_total : IsTotalOrder place_order
places_total = then_total {R = on (λ (p : PlaceAt). p.0) byte_order} {S = on (λ (p : PlaceAt). p.1) (option_cmp byte_order)}
    (on_total (λ (p : PlaceAt). p.0) total) (on_total (λ (p : PlaceAt). p.1) (options_total total))

then_equal : (r s : Ordering) → ordering_then r s ≡ Equal → (r ≡ Equal) × (s ≡ Equal)
then_equal Less s e = absurd (cc)
then_equal Equal s e = (refl, e)
then_equal Greater s e = absurd (cc)

same_id : (id other : Option (List ℕ)) → option_cmp byte_order id other ≡ Equal → id ≡ other
same_id None None e = refl
same_id None (Some j) e = absurd (cc)
same_id (Some i) None e = absurd (cc)
same_id (Some i) (Some j) e = ap Some (byte_order_antisymmetric i j e)

-- two changes at one place that put the same are the same
same_there : (x y : Change) → (place_changed x).0 ≡ (place_changed y).0 → (place_changed x).1 ≡ (place_changed y).1 → put_by x ≡ put_by y → x ≡ y
same_there (Set k i o) (Set l j p) e f g = cc
same_there (Set k i o) (Remove l j) e f g = cc
same_there (Set k i o) (Empty l) e f g = cc
same_there (Set k i o) (Single l p) e f g = cc
same_there (Set k i o) (Clear l) e f g = cc
same_there (Remove k i) (Set l j p) e f g = cc
same_there (Remove k i) (Remove l j) e f g = cc
same_there (Remove k i) (Empty l) e f g = cc
same_there (Remove k i) (Single l p) e f g = cc
same_there (Remove k i) (Clear l) e f g = cc
same_there (Empty k) (Set l j p) e f g = cc
same_there (Empty k) (Remove l j) e f g = cc
same_there (Empty k) (Empty l) e f g = cc
same_there (Empty k) (Single l p) e f g = cc
same_there (Empty k) (Clear l) e f g = cc
same_there (Single k o) (Set l j p) e f g = cc
same_there (Single k o) (Remove l j) e f g = cc
same_there (Single k o) (Empty l) e f g = cc
same_there (Single k o) (Single l p) e f g = cc
same_there (Single k o) (Clear l) e f g = cc
same_there (Clear k) (Set l j p) e f g = cc
same_there (Clear k) (Remove l j) e f g = cc
same_there (Clear k) (Empty l) e f g = cc
same_there (Clear k) (Single l p) e f g = cc
same_there (Clear k) (Clear l) e f g = cc

pub same_change : (x y : Change) → place_order (place_changed x) (place_changed y) ≡ Equal → put_by x ≡ put_by y → x ≡ y
same_change x y e g =
    let parts = then_equal _ _ e in
    same_there x y (byte_order_antisymmetric _ _ parts.0) (same_id _ _ parts.1) g

-- ---- what changes put, by place

abbrev pub Puts : Type 0
Puts = List (PlaceAt × Side)

abbrev pub puts_of : List Change → Puts
puts_of changes = map (λ c. (place_changed c, put_by c)) changes

puts_of-append : (cs ds : List Change) → puts_of (cs ++ ds) ≡ puts_of cs ++ puts_of ds
puts_of-append [] ds = refl
puts_of-append (c ∷ cs) ds = ap (λ t. (place_changed c, put_by c) ∷ t) (puts_of-append cs ds)

abbrev pub said : Option Side → Side
said None = Nothing
said (Some side) = side

-- what a table has at its type, or at an id
table_side : Option Table → Option (List ℕ) → Side
table_side t None = type_side (option_and_then as_singleton t) (is_some (collection_of t))
table_side t (Some id) = object_side (option_and_then (object_of id) t)

side_of_table : (contents : Contents) (p : PlaceAt) → side_at contents p.0 p.1 ≡ table_side (find byte_order p.0 (entries contents)) p.1
unfolding table_side
side_of_table contents (kind, None) = ap (λ t. type_side (option_and_then as_singleton t) (is_some (collection_of t))) (get-entries contents kind)
side_of_table contents (kind, Some id) = ap (λ t. object_side (option_and_then (object_of id) t)) (get-entries contents kind)

-- ---- their order

order-at : (kind : List ℕ) (id other : Option (List ℕ)) → place_order (kind, id) (kind, other) ≡ option_cmp byte_order id other
order-at kind id other = ap (λ r. ordering_then r (option_cmp byte_order id other)) (tied_itself total kind)

-- all of these are of types behind this one
AreBehind : List ℕ → Puts → Type 0
AreBehind kind [] = Unit {0}
AreBehind kind (e ∷ es) = (byte_order kind e.0.0 ≡ Less) × AreBehind kind es

behind_below : (kind : List ℕ) (id : Option (List ℕ)) (es : Puts) → AreBehind kind es → T (below_all place_order (kind, id) es)
unfolding AreBehind
behind_below kind id [] h = tt
behind_below kind id (e ∷ es) h =
    both _ _ (is_less _ (ap (λ r. ordering_then r (option_cmp byte_order id e.0.1)) h.0)) (behind_below kind id es h.1)

sets_behind : (kind here : List ℕ) (os : List (List ℕ × List ℕ)) (es : Puts) → byte_order kind here ≡ Less → AreBehind kind es
    → AreBehind kind (puts_of (sets here os) ++ es)
unfolding AreBehind
sets_behind kind here [] es less h = h
sets_behind kind here (o ∷ os) es less h = (less, sets_behind kind here os es less h)

listed_behind : (kind here : List ℕ) (table : Table) (es : Puts) → byte_order kind here ≡ Less → AreBehind kind es
    → AreBehind kind (puts_of (listed (here, table)) ++ es)
unfolding AreBehind
listed_behind kind here (One object) es less h = (less, h)
listed_behind kind here (Many objects) es less h = (less, sets_behind kind here (entries objects) es less h)

all_behind : (kind : List ℕ) (types : List (List ℕ × Table)) → T (below_all byte_order kind types)
    → AreBehind kind (puts_of (flat_map listed types))
unfolding AreBehind
all_behind kind [] h = tt
all_behind kind (e ∷ types) h =
    subst (AreBehind kind) (sym (puts_of-append (listed e) (flat_map listed types)))
    (listed_behind kind e.0 e.1 (puts_of (flat_map listed types)) (less _ (first _ _ h)) (all_behind kind types (second _ _ h)))

below_sets : (kind id : List ℕ) (os : List (List ℕ × List ℕ)) (es : Puts) → T (below_all byte_order id os) → AreBehind kind es
    → T (below_all place_order (kind, Some id) (puts_of (sets kind os) ++ es))
below_sets kind id [] es h b = behind_below kind (Some id) es b
below_sets kind id (o ∷ os) es h b =
    both _ _ (is_less _ (order-at kind (Some id) (Some o.0) ∙ less _ (first _ _ h))) (below_sets kind id os es (second _ _ h) b)

below_ids : (kind : List ℕ) (os : List (List ℕ × List ℕ)) (es : Puts) → AreBehind kind es
    → T (below_all place_order (kind, None) (puts_of (sets kind os) ++ es))
below_ids kind [] es b = behind_below kind None es b
below_ids kind (o ∷ os) es b = both _ _ (is_less _ (order-at kind None (Some o.0))) (below_ids kind os es b)

sorted_sets : (kind : List ℕ) (os : List (List ℕ × List ℕ)) (es : Puts) → T (is_sorted byte_order os) → AreBehind kind es
    → T (is_sorted place_order es) → T (is_sorted place_order (puts_of (sets kind os) ++ es))
sorted_sets kind [] es h b s = s
sorted_sets kind (o ∷ os) es h b s =
    both _ _ (below_sets kind o.0 os es (first _ _ h) b) (sorted_sets kind os es (second _ _ h) b s)

sorted_listed : (kind : List ℕ) (table : Table) (es : Puts) → AreBehind kind es → T (is_sorted place_order es)
    → T (is_sorted place_order (puts_of (listed (kind, table)) ++ es))
sorted_listed kind (One object) es b s = both _ _ (behind_below kind None es b) s
sorted_listed kind (Many objects) es b s =
    both _ _ (below_ids kind (entries objects) es b) (sorted_sets kind (entries objects) es (entries_sorted objects) b s)

sorted_types : (types : List (List ℕ × Table)) → T (is_sorted byte_order types) → T (is_sorted place_order (puts_of (flat_map listed types)))
sorted_types [] h = tt
sorted_types (e ∷ types) h =
    subst (λ es. T (is_sorted place_order es)) (sym (puts_of-append (listed e) (flat_map listed types)))
    (sorted_listed e.0 e.1 (puts_of (flat_map listed types)) (all_behind e.0 types (first _ _ h)) (sorted_types types (second _ _ h)))

-- the changes of a snapshot strictly rise by their places
pub sorted_listing : (contents : Contents) → T (is_sorted place_order (puts_of (flat_map listed (entries contents))))
sorted_listing contents = sorted_types (entries contents) (entries_sorted contents)

-- ---- what is found at a place

not_equal : (q k : List ℕ) (id other : Option (List ℕ)) → eq_by_cmp byte_order q k ≡ false → eq_by_cmp place_order (q, id) (k, other) ≡ false
not_equal q k id other = by (byte_order q k)
  where
    by : (r : Ordering) → is_eq r ≡ false → is_eq (ordering_then r (option_cmp byte_order id other)) ≡ false
    by Less e = refl
    by Equal e = absurd (cc)
    by Greater e = refl

skip : {X : Type 0} (b : Bool) (x y z : X) → b ≡ false → y ≡ z → cond b x y ≡ z
skip true x y z e f = absurd (cc)
skip false x y z e f = f

none_sets : (q : PlaceAt) (kind : List ℕ) (os : List (List ℕ × List ℕ)) → eq_by_cmp byte_order q.0 kind ≡ false
    → find place_order q (puts_of (sets kind os)) ≡ None
none_sets q kind [] e = refl
none_sets q kind (o ∷ os) e = skip _ _ _ _ (not_equal q.0 kind q.1 (Some o.0) e) (none_sets q kind os e)

none_listed : (q : PlaceAt) (kind : List ℕ) (table : Table) → eq_by_cmp byte_order q.0 kind ≡ false
    → find place_order q (puts_of (listed (kind, table))) ≡ None
none_listed q kind (One object) e = skip _ _ _ _ (not_equal q.0 kind q.1 None e) refl
none_listed q kind (Many objects) e = skip _ _ _ _ (not_equal q.0 kind q.1 None e) (none_sets q kind (entries objects) e)

found : {X : Type 0} (o p : Ordering) (x y z : X) → o ≡ p → cond (is_eq p) x y ≡ z → cond (is_eq o) x y ≡ z
found o p x y z e f = ap (λ r. cond (is_eq r) x y) e ∙ f

step : (b : Bool) (s : List ℕ) (x : Option Side) (y : Option (List ℕ)) → said x ≡ object_side y
    → said (cond b (Some (Object s)) x) ≡ object_side (cond b (Some s) y)
step true s x y e = refl
step false s x y e = e

find_sets : (kind id : List ℕ) (os : List (List ℕ × List ℕ))
    → said (find place_order (kind, Some id) (puts_of (sets kind os))) ≡ object_side (find byte_order id os)
find_sets kind id [] = refl
find_sets kind id (o ∷ os) =
    ap (λ r. said (cond (is_eq r) (Some (Object o.1)) (find place_order (kind, Some id) (puts_of (sets kind os))))) (order-at kind (Some id) (Some o.0))
    ∙ step (eq_by_cmp byte_order id o.0) o.1 _ _ (find_sets kind id os)

find_listed : (kind : List ℕ) (id : Option (List ℕ)) (table : Table)
    → said (find place_order (kind, id) (puts_of (listed (kind, table)))) ≡ table_side (Some table) id
unfolding table_side
find_listed kind None (One object) = ap (λ r. said (cond (is_eq r) (Some (Object object)) None)) (order-at kind None None)
find_listed kind (Some id) (One object) = ap (λ r. said (cond (is_eq r) (Some (Object object)) None)) (order-at kind (Some id) None)
find_listed kind None (Many objects) =
    ap (λ r. said (cond (is_eq r) (Some Collection) (find place_order (kind, None) (puts_of (sets kind (entries objects)))))) (order-at kind None None)
find_listed kind (Some id) (Many objects) =
    ap (λ r. said (cond (is_eq r) (Some Collection) (find place_order (kind, Some id) (puts_of (sets kind (entries objects)))))) (order-at kind (Some id) None)
    ∙ find_sets kind id (entries objects) ∙ ap object_side (sym (get-entries objects id))

at_kind : (q : PlaceAt) (kind : List ℕ) (table : Table) → q.0 ≡ kind
    → said (find place_order q (puts_of (listed (kind, table)))) ≡ table_side (Some table) q.1
at_kind q kind table e =
    subst (λ k. said (find place_order q (puts_of (listed (k, table)))) ≡ table_side (Some table) q.1) e (find_listed q.0 q.1 table)

one_type : (q : PlaceAt) (e : List ℕ × Table) (es : Puts) (rest : Option Table) → AreBehind e.0 es
    → said (find place_order q es) ≡ table_side rest q.1 → (b : Bool) → eq_by_cmp byte_order q.0 e.0 ≡ b
    → said (find place_order q (puts_of (listed e) ++ es)) ≡ table_side (cond b (Some e.1) rest) q.1
one_type q e es rest behind more true is =
    let same = byte_order_antisymmetric q.0 e.0 (equal _ is) in
    let none = find_below place_order places_total q es (behind_below q.0 q.1 es (subst (λ k. AreBehind k es) (sym same) behind)) in
    ap said (find_stop place_order q (puts_of (listed e)) es none) ∙ at_kind q e.0 e.1 same
one_type q e es rest behind more false is =
    ap said (find_skip place_order q (puts_of (listed e)) es (none_listed q e.0 e.1 is)) ∙ more

find_types : (q : PlaceAt) (types : List (List ℕ × Table)) → T (is_sorted byte_order types)
    → said (find place_order q (puts_of (flat_map listed types))) ≡ table_side (find byte_order q.0 types) q.1
unfolding table_side
find_types (kind, None) [] h = refl
find_types (kind, Some id) [] h = refl
find_types q (e ∷ types) h =
    ap (λ es. said (find place_order q es)) (puts_of-append (listed e) (flat_map listed types))
    ∙ one_type q e (puts_of (flat_map listed types)) (find byte_order q.0 types) (all_behind e.0 types (first _ _ h))
    (find_types q types (second _ _ h)) (eq_by_cmp byte_order q.0 e.0) refl

-- what tables have at a place is what their snapshot puts there
pub side_is_put : (contents : Contents) (q : PlaceAt) → side_at contents q.0 q.1 ≡ said (find place_order q (puts_of (flat_map listed (entries contents))))
side_is_put contents q = side_of_table contents q ∙ sym (find_types q (entries contents) (entries_sorted contents))

-- ---- where two lists part

-- of two lists that begin alike, one goes on with this entry, and the other behind it
module _ (same es fs : Puts) (e : PlaceAt × Side) (sorted : T (is_sorted place_order (same ++ e ∷ es))) where
  entry_below : (q : PlaceAt) → place_order q e.0 ≡ Less → T (below_all place_order q (e ∷ es))
  entry_below q h = both _ _ (is_less _ h) (below_trans place_order places_total q e.0 es h (below_right place_order same e es sorted))

  find_same : (q : PlaceAt) → place_order q e.0 ≡ Less → find place_order q (same ++ e ∷ es) ≡ find place_order q same
  find_same q h = find_stop place_order q same (e ∷ es) (find_below place_order places_total q (e ∷ es) (entry_below q h))

  not_before : find place_order e.0 same ≡ None
  not_before = find_before place_order places_total e.0 same e es sorted (λ h. let tied = tied_itself places_total e.0 in cc)

  find_its : find place_order e.0 (same ++ e ∷ es) ≡ Some e.1
  find_its = find_here place_order places_total e.0 same e es sorted (tied_itself places_total e.0)

  find_other : T (below_all place_order e.0 fs) → (q : PlaceAt) → place_order q e.0 ≡ Less → find place_order q (same ++ fs) ≡ find place_order q same
  find_other behind q h = find_stop place_order q same fs (find_below place_order places_total q fs (below_trans place_order places_total q e.0 fs h behind))

  find_missing : T (below_all place_order e.0 fs) → find place_order e.0 (same ++ fs) ≡ None
  find_missing behind = find_stop place_order e.0 same fs (find_below place_order places_total e.0 fs behind) ∙ not_before

-- ---- where tables differ first

IsPut : Change → Type 0
IsPut c = put_by c ≢ Nothing

AllPut : List Change → Type 0
AllPut [] = Unit {0}
AllPut (c ∷ cs) = IsPut c × AllPut cs

put_sets : (kind : List ℕ) (os : List (List ℕ × List ℕ)) (cs : List Change) → AllPut cs → AllPut (sets kind os ++ cs)
unfolding AllPut IsPut
put_sets kind [] cs h = h
put_sets kind (o ∷ os) cs h = (λ e. absurd (cc), put_sets kind os cs h)

put_listed : (types : List (List ℕ × Table)) → AllPut (flat_map listed types)
unfolding AllPut IsPut
put_listed [] = tt
put_listed ((kind, One object) ∷ types) = (λ e. absurd (cc), put_listed types)
put_listed ((kind, Many objects) ∷ types) = (λ e. absurd (cc), put_sets kind (entries objects) (flat_map listed types) (put_listed types))

put_within : (same : List Change) (c : Change) (cs : List Change) → AllPut (same ++ c ∷ cs) → IsPut c
unfolding AllPut
put_within [] c cs h = h.0
put_within (s ∷ same) c cs h = put_within same c cs h.1

puts_at : (contents : Contents) (same : List Change) (c : Change) (cs : List Change) → flat_map listed (entries contents) ≡ same ++ c ∷ cs
    → puts_of (flat_map listed (entries contents)) ≡ puts_of same ++ (place_changed c, put_by c) ∷ puts_of cs
puts_at contents same c cs e = ap puts_of e ∙ puts_of-append same (c ∷ cs)

module _ (contents others : Contents) (same : List Change) (x : Change) (xs : List Change)
    (ours : flat_map listed (entries contents) ≡ same ++ x ∷ xs) where
  ours_sorted : T (is_sorted place_order (puts_of same ++ (place_changed x, put_by x) ∷ puts_of xs))
  ours_sorted = subst (λ es. T (is_sorted place_order es)) (puts_at contents same x xs ours) (sorted_listing contents)

  our_side : (q : PlaceAt) → side_at contents q.0 q.1 ≡ said (find place_order q (puts_of same ++ (place_changed x, put_by x) ∷ puts_of xs))
  our_side q = side_is_put contents q ∙ ap (λ es. said (find place_order q es)) (puts_at contents same x xs ours)

  our_put : side_at contents (place_changed x).0 (place_changed x).1 ≡ put_by x
  our_put = our_side (place_changed x) ∙ ap said (find_its (puts_of same) (puts_of xs) [] (place_changed x, put_by x) ours_sorted)

  our_before : (q : PlaceAt) → place_order q (place_changed x) ≡ Less → side_at contents q.0 q.1 ≡ said (find place_order q (puts_of same))
  our_before q h = our_side q ∙ ap said (find_same (puts_of same) (puts_of xs) [] (place_changed x, put_by x) ours_sorted q h)

  -- the other list goes on behind this place
  ahead : (ys : List Change) → flat_map listed (entries others) ≡ same ++ ys → T (below_all place_order (place_changed x) (puts_of ys))
      → DifferFirst contents others (place_changed x)
  unfolding IsPut
  ahead ys theirs behind =
      let side = λ (q : PlaceAt). side_is_put others q ∙ ap (λ cs. said (find place_order q (puts_of cs))) theirs
      ∙ ap (λ es. said (find place_order q es)) (puts_of-append same ys) in
      let none = side (place_changed x) ∙ ap said (find_missing (puts_of same) (puts_of xs) (puts_of ys) (place_changed x, put_by x) ours_sorted behind) in
      record {
        differ = λ e. put_within same x xs (subst AllPut ours (put_listed (entries contents))) (sym our_put ∙ e ∙ none);
        first = λ q h. our_before q h
            ∙ sym (side q ∙ ap said (find_other (puts_of same) (puts_of xs) (puts_of ys) (place_changed x, put_by x) ours_sorted behind q h));
      }

same_place : (p q : PlaceAt) → place_order p q ≡ Equal → p ≡ q
same_place p q e =
    let parts = then_equal _ _ e in
    let kinds : p.0 ≡ q.0 = byte_order_antisymmetric _ _ parts.0 in
    let ids : p.1 ≡ q.1 = same_id _ _ parts.1 in
    λ i. (kinds i, ids i)

-- both go on at one place, with different things
at_once : (contents others : Contents) (same : List Change) (x y : Change) (xs ys : List Change)
    → flat_map listed (entries contents) ≡ same ++ x ∷ xs → flat_map listed (entries others) ≡ same ++ y ∷ ys
    → place_order (place_changed x) (place_changed y) ≡ Equal → put_by x ≢ put_by y → DifferFirst contents others (place_changed x)
at_once contents others same x y xs ys ours theirs tied apart =
    let e = same_place _ _ tied in
    record {
      differ = λ h. apart (sym (our_put contents contents same x xs ours) ∙ h
          ∙ ap (λ (p : PlaceAt). side_at others p.0 p.1) e ∙ our_put others others same y ys theirs);
      first = λ q h. our_before contents contents same x xs ours q h
          ∙ sym (our_before others others same y ys theirs q (subst (λ p. place_order q p ≡ Less) e h));
    }

differ_back : (contents others : Contents) (p : PlaceAt) → DifferFirst contents others p → DifferFirst others contents p
differ_back contents others p d = record { differ = λ e. d.differ (sym e); first = λ q h. sym (d.first q h) }

behind_all : (contents : Contents) (same : List Change) (q : PlaceAt) (y : Change) (ys : List Change) → flat_map listed (entries contents) ≡ same ++ y ∷ ys
    → place_order q (place_changed y) ≡ Less → T (below_all place_order q (puts_of (y ∷ ys)))
behind_all contents same q y ys e h =
    entry_below (puts_of same) (puts_of ys) [] (place_changed y, put_by y) (ours_sorted contents contents same y ys e) q h

both_go : (contents others : Contents) (same : List Change) (x y : Change) (xs ys : List Change) (c : Change)
    → flat_map listed (entries contents) ≡ same ++ x ∷ xs → flat_map listed (entries others) ≡ same ++ y ∷ ys
    → (r : Ordering) → place_order (place_changed x) (place_changed y) ≡ r → IsFirstOf r x y c → DifferFirst contents others (place_changed c)
both_go contents others same x y xs ys c ours theirs Less is f =
    subst (λ d. DifferFirst contents others (place_changed d)) (sym f)
    (ahead contents others same x xs ours (y ∷ ys) theirs (behind_all others same (place_changed x) y ys theirs is))
both_go contents others same x y xs ys c ours theirs Equal is f =
    subst (λ d. DifferFirst contents others (place_changed d)) (sym f.0) (at_once contents others same x y xs ys ours theirs is f.1)
both_go contents others same x y xs ys c ours theirs Greater is f =
    subst (λ d. DifferFirst contents others (place_changed d)) (sym f)
    (differ_back others contents (place_changed y)
    (ahead others contents same y ys theirs (x ∷ xs) ours (behind_all contents same (place_changed y) x xs ours (earlier places_total (place_changed x) (place_changed y) is))))

-- two snapshots part where their tables differ first
pub parts_first : (contents others : Contents) (same xs ys : List Change) (first : Change)
    → flat_map listed (entries contents) ≡ same ++ xs → flat_map listed (entries others) ≡ same ++ ys → BeginsFirst xs ys first
    → DifferFirst contents others (place_changed first)
parts_first contents others same [] [] c ours theirs h = absurd h
parts_first contents others same (x ∷ xs) [] c ours theirs h =
    subst (λ d. DifferFirst contents others (place_changed d)) (sym h) (ahead contents others same x xs ours [] theirs tt)
parts_first contents others same [] (y ∷ ys) c ours theirs h =
    subst (λ d. DifferFirst contents others (place_changed d)) (sym h)
    (differ_back others contents (place_changed y) (ahead others contents same y ys theirs [] ours tt))
parts_first contents others same (x ∷ xs) (y ∷ ys) c ours theirs h =
    both_go contents others same x y xs ys c ours theirs (place_order (place_changed x) (place_changed y)) refl h

pub part_first : (contents others : Contents) (ours theirs : List Change) (first : Change) → ours ≡ flat_map listed (entries contents)
    → theirs ≡ flat_map listed (entries others) → PartAt ours theirs first → DifferFirst contents others (place_changed first)
part_first contents others ours theirs first is also p =
    parts_first contents others p.same p.rest p.other_rest first (sym is ∙ p.ours) (sym also ∙ p.theirs) p.begins

all_dropped : {X : Type 0} (xs : List X) (i : ℕ) → length xs ≤ i → drop i xs ≡ []
all_dropped xs i h = none_of (drop i xs) (let l = length-drop i xs in omega arith)
  where
    none_of : {X : Type 0} (xs : List X) → length xs ≡ 0 → xs ≡ []
    none_of [] e = refl
    none_of (x ∷ xs) e = absurd (omega arith)

-- ---- a snapshot that begins with a Clear

first_item : (c d : Change) (cs : List Change) → Some c ≡ slice_get (d ∷ cs) 0 → c ≡ d
first_item c d cs e = cc

not_clear : (types : List (List ℕ × Table)) (c : Change) (kind : List ℕ) → Some c ≡ slice_get (or_clear (flat_map listed types)) 0 → c ≡ Clear kind → [] ≡ flat_map listed types
not_clear [] c kind e f = refl
not_clear ((k, One object) ∷ types) c kind e f = let g = first_item c (Single k object) (flat_map listed types) e in absurd (cc)
not_clear ((k, Many objects) ∷ types) c kind e f = let g = first_item c (Empty k) (sets k (entries objects) ++ flat_map listed types) e in absurd (cc)

pub no_clear : (contents : Contents) (changes : List Change) (c : Change) (kind : List ℕ) → changes ≡ listing contents → Some c ≡ slice_get changes 0 → c ≡ Clear kind
    → [] ≡ flat_map listed (entries contents)
no_clear contents changes c kind is e f = not_clear (entries contents) c kind (e ∙ ap (λ cs. slice_get cs 0) is) f

-- ---- where two lists part, by index

module _ (ours theirs : List Change) (i : ℕ) (same : take i ours ≡ take i theirs) where
  from_here : (cs : List Change) (c : Change) → i < length cs → c ≡ get_or cs i c → cs ≡ take i cs ++ c ∷ drop (suc i) cs
  from_here cs c h e =
      sym (take-append-drop i cs) ∙ ap (λ t. take i cs ++ t) (drop-cons cs i c h ∙ ap (λ d. d ∷ drop (suc i) cs) (sym e))

  theirs_from : (cs : List Change) → theirs ≡ take i theirs ++ cs → theirs ≡ take i ours ++ cs
  theirs_from cs e = e ∙ ap (λ t. t ++ cs) (sym same)

  pub part_both : (x y f : Change) → i < length ours → i < length theirs → x ≡ get_or ours i x → y ≡ get_or theirs i y
      → IsFirstOf (place_order (place_changed x) (place_changed y)) x y f → PartAt ours theirs f
  part_both x y f h k e g is = record {
    same = take i ours;
    rest = x ∷ drop (suc i) ours;
    other_rest = y ∷ drop (suc i) theirs;
    ours = from_here ours x h e;
    theirs = theirs_from _ (from_here theirs y k g);
    begins = is;
  }

  pub part_ours : (x : Change) → i < length ours → i ≡ length theirs → x ≡ get_or ours i x → PartAt ours theirs x
  part_ours x h k e = record {
    same = take i ours;
    rest = x ∷ drop (suc i) ours;
    other_rest = [];
    ours = from_here ours x h e;
    theirs = theirs_from [] (sym (take-append-drop i theirs) ∙ ap (λ t. take i theirs ++ t) (all_dropped theirs i (omega arith)));
    begins = refl;
  }

  pub part_theirs : (y : Change) → i ≡ length ours → i < length theirs → y ≡ get_or theirs i y → PartAt ours theirs y
  part_theirs y k h e = record {
    same = take i ours;
    rest = [];
    other_rest = y ∷ drop (suc i) theirs;
    ours = sym (take-append-drop i ours) ∙ ap (λ t. take i ours ++ t) (all_dropped ours i (omega arith));
    theirs = theirs_from _ (from_here theirs y h e);
    begins = refl;
  }

pub same_on : (ours theirs : List Change) (i : ℕ) (x y : Change) → take i ours ≡ take i theirs → i < length ours → i < length theirs
    → x ≡ get_or ours i x → y ≡ get_or theirs i y → x ≡ y → take (i + 1) ours ≡ take (i + 1) theirs
same_on ours theirs i x y same h k e f is =
    let one = take-suc ours i x h in
    let two = take-suc theirs i y k in
    rw add-one (one ∙ ap (λ c. take i ours ++ c ∷ []) (sym e ∙ is ∙ f) ∙ ap (λ t. t ++ get_or theirs i y ∷ []) same ∙ sym two)
