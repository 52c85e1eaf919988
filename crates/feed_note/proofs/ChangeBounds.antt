-- A line tells no more changes than it has bytes.
use Rattle.std.proofs.Common.{◌≡◌, ap, ℕ, ◌+◌, ◌-◌, ◌≤◌, List, [], ◌∷◌, ◌++◌, length, Option, Some, None, arith, length-append}
use Rattle.std.specs.Prelude.{IfSome, option_map, reverse, codes, unwrap_or}
use Rattle.std.specs.List.{AllByRecursion}
use Rattle.std.proofs.lemmas.List.{length-map}
use Rattle.feed_text.specs.Json.{Value, Elements, Members, Member, kind_of, print, print_elements, print_members, elements_list, members_list, items_of, members_of, HoldsObject, null_literal, true_literal, false_literal, number, string, empty_array, array, empty_object, object, last_element, element, last_member, member}
use Rattle.feed_text.specs.declared.Kind.TheVariants.{Object}
use Rattle.feed_text.specs.Strings.{says, last_member_named}
use Rattle.feed_changes.specs.declared.change.Change.TheVariants.{Set}
use Rattle.feed_note.specs.Meaning.{Content, one_object, all_objects, nothing, content_of, identified, told, notification, changes_of, member_text, Means}
use Rattle.feed_note.specs.Notes.{changes_in}
use Rattle.feed_note.specs.declared.line.Line.{Line}
use Rattle.feed_note.specs.declared.line.Line.TheVariants.{KeepAlive, Note}
use Rattle.feed_text.proofs.Lists.{all-reverse, find_all}

-- ---- the items of an array

elements_short : (es : Elements) → length (elements_list es) ≤ length (print_elements es)
elements_short (last_element w v x) =
    let e = length-append w (print v ++ (x ++ 93 ∷ [])) in
    let f = length-append (print v) (x ++ 93 ∷ []) in
    let g = length-append x (93 ∷ []) in
    omega arith
elements_short (element w v x es) =
    let e = length-append w (print v ++ (x ++ 44 ∷ print_elements es)) in
    let f = length-append (print v) (x ++ 44 ∷ print_elements es) in
    let g = length-append x (44 ∷ print_elements es) in
    let others = elements_short es in
    omega arith

items_short : (v : Value) → length (items_of v) ≤ length (print v)
items_short null_literal = omega arith
items_short true_literal = omega arith
items_short false_literal = omega arith
items_short (number n) = omega arith
items_short (string s) = omega arith
items_short (empty_array w) = omega arith
items_short (array es) = let inside = elements_short es in omega arith
items_short (empty_object w) = omega arith
items_short (object ms) = omega arith

-- ---- the value of a member

-- the value has so few items
abbrev HasItems : ℕ → Member → Type 0
HasItems n m = length (items_of m.value) ≤ n

weaker : (m n : ℕ) (ms : List Member) → m ≤ n → AllByRecursion (HasItems m) ms → AllByRecursion (HasItems n) ms
weaker m n [] h k = tt
weaker m n (x ∷ xs) h k = (let first : length (items_of x.value) ≤ m = k.0 in omega arith, weaker m n xs h k.1)

value_inside : (w k x y t : List ℕ) (v : Value) → length (items_of v) + length t ≤ length (w ++ (k ++ (x ++ 58 ∷ (y ++ (print v ++ t)))))
value_inside w k x y t v =
    let a = length-append w (k ++ (x ++ 58 ∷ (y ++ (print v ++ t)))) in
    let b = length-append k (x ++ 58 ∷ (y ++ (print v ++ t))) in
    let c = length-append x (58 ∷ (y ++ (print v ++ t))) in
    let d = length-append y (print v ++ t) in
    let e = length-append (print v) t in
    let items = items_short v in
    omega arith

members_short : (ms : Members) → AllByRecursion (HasItems (length (print_members ms))) (members_list ms)
members_short (last_member w k x y v z) = (let inside = value_inside w k x y (z ++ 125 ∷ []) v in omega arith, tt)
members_short (member w k x y v z ms) =
    let inside = value_inside w k x y (z ++ 44 ∷ print_members ms) v in
    let behind = length-append z (44 ∷ print_members ms) in
    (omega arith, weaker (length (print_members ms)) (length (print_members (member w k x y v z ms))) (members_list ms) (omega arith) (members_short ms))

-- with a byte to spare for the brace
members_of_short : (v : Value) (n : ℕ) → length (print v) ≤ n + 1 → AllByRecursion (HasItems n) (members_of v)
members_of_short null_literal n h = tt
members_of_short true_literal n h = tt
members_of_short false_literal n h = tt
members_of_short (number t) n h = tt
members_of_short (string s) n h = tt
members_of_short (empty_array w) n h = tt
members_of_short (array es) n h = tt
members_of_short (empty_object w) n h = tt
members_of_short (object ms) n h = weaker (length (print_members ms)) n (members_list ms) (omega arith) (members_short ms)

-- ---- the member that counts

-- the items of a value that may be absent
abbrev items_in : Option Value → List Value
items_in None = []
items_in (Some v) = items_of v

named_items : (n : ℕ) (found : Option Member) → IfSome found (HasItems n) → length (items_in (option_map (λ m. m.value) found)) ≤ n
named_items n None h = omega arith
named_items n (Some m) h = h

content_short : (v : Value) (n : ℕ) → length (print v) ≤ n + 1 → length (items_in ((notification v).content)) ≤ n
content_short v n h =
    named_items n (last_member_named (codes "data") (members_of v))
    (find_all (HasItems n) (λ m. says m.name (codes "data")) (reverse (members_of v)) (all-reverse (HasItems n) (members_of v) (members_of_short v n h)))

-- ---- the changes

abbrev count_in : Content → ℕ
count_in (one_object o) = 0
count_in (all_objects es) = length es
count_in nothing = 0

told_short : (t : List ℕ) (i : Option (List ℕ)) (c : Content) → length (told t i c) ≤ count_in c + 1
told_short t (Some i) (one_object o) = omega arith
told_short t (Some i) nothing = omega arith
told_short t (Some i) (all_objects es) = omega arith
told_short t None (all_objects es) = omega (arith, length-map es (λ e. Set t e.0 e.1))
told_short t None (one_object o) = omega arith
told_short t None nothing = omega arith

content_items : (m : Option Value) → count_in (content_of m) ≤ length (items_in m)
content_items None = omega arith
content_items (Some null_literal) = omega arith
content_items (Some true_literal) = omega arith
content_items (Some false_literal) = omega arith
content_items (Some (number t)) = omega arith
content_items (Some (string s)) = omega arith
content_items (Some (empty_array w)) = omega arith
content_items (Some (array es)) = omega (arith, length-map (items_of (array es)) identified)
content_items (Some (empty_object w)) = omega arith
content_items (Some (object ms)) = omega arith

changes_short : (v : Value) (n : ℕ) → length (print v) ≤ n + 1 → length (changes_of v) ≤ n + 1
changes_short v n h =
    let few = told_short (unwrap_or (member_text (notification v).kind) []) (member_text (notification v).id) (content_of (notification v).content) in
    let items = content_items (notification v).content in
    let inside = content_short v n h in
    omega arith

-- an object has a byte at least
some_byte : (x : List ℕ) (v : Value) → HoldsObject x v → 1 ≤ length (print v)
some_byte x v h = by v h.kind
  where
    by : (v : Value) → kind_of v ≡ Object → 1 ≤ length (print v)
    by null_literal e = cc
    by true_literal e = cc
    by false_literal e = cc
    by (number t) e = cc
    by (string s) e = cc
    by (empty_array w) e = cc
    by (array es) e = cc
    by (empty_object w) e = omega arith
    by (object ms) e = omega arith

pub changes-le-bytes : (x : List ℕ) (note : Line) → Means x note → length (changes_in note) ≤ length x
changes-le-bytes x KeepAlive h = omega arith
changes-le-bytes x (Note cs t) h =
    let v : Value = h.0 in
    let holds : HoldsObject x v = h.1.2 in
    let long : 1 ≤ length (print v) = some_byte x v holds in
    let text = ap length holds.text in
    let prefix = length-append holds.before (print v ++ holds.after) in
    let back = length-append (print v) holds.after in
    let few = changes_short v (length (print v) - 1) (omega arith) in
    let same = ap length h.3 in
    omega arith
