-- A valid value is determined by its text, and a text holds one object at most.
use Rattle.std.proofs.Common.{◌≡◌, ℕ, suc, ◌+◌, ◌≤◌, List, [], ◌∷◌, ◌++◌, drop, Some, refl, sym, ap, ◌∙◌, arith}
use Rattle.std.proofs.lemmas.Option.{same_Some}
use Rattle.feed_text.specs.Ascii.{right_brace, right_bracket}
use Rattle.feed_text.specs.declared.Kind.TheVariants as kind
use Rattle.feed_text.specs.Reading.{Item, print_item, Pair, print_pair, Contents, empty, parts, print_contents, print_object, contents_at, item_at, pair_at, value_at}
use Rattle.feed_text.proofs.Grammar.{AreContents, IsItem, IsPair, IsJson}
use Rattle.feed_text.specs.Json.{Value, Elements, Members, null_literal, true_literal, false_literal, number, string, empty_array, array, empty_object, object, last_element, element, last_member, member, print, IsValue, AreElements, AreMembers, kind_of, depth, TextDeterminesValue, TextDeterminesObject}
use Rattle.feed_text.specs.Members.{Spelling}
use Rattle.feed_text.proofs.Depths.{reads_value, starts_at, items_reads, members_reads}
use Rattle.feed_text.proofs.Lines.{line_complete}
use Rattle.feed_text.proofs.Trees.{item_between, first_item, other_items, pair_between, first_pair, other_pairs, elements_printed, members_printed, value_text, elements_text, members_text, line_of_object}
use Rattle.feed_text.proofs.TreeScalars.{white_text}

-- ---- a reader finds one kind, and one list of items or members

read_back : (d : ℕ) (v : Value) → IsValue v → depth v ≤ d → value_at d (print v ++ []) ≡ Some ((print v, kind_of v), [])
read_back d v ok le = (reads_value d).complete (print v, kind_of v) [] (value_text v d ok le) ((refl, omega arith), refl)

same_kind : (u v : Value) → IsValue u → IsValue v → print u ≡ print v → kind_of v ≡ kind_of u
same_kind u v ok ok' e =
    let d = depth u + depth v in
    let same = sym (read_back d v ok' (omega arith)) ∙ ap (λ (t : List ℕ). value_at d (t ++ [])) (sym e) ∙ read_back d u ok (omega arith) in
    ap (λ (y : Spelling × List ℕ). y.0.1) (same_Some _ _ same)

module _ (d : ℕ) where
  same_items : (c c' : Contents Item) → AreContents (IsItem (IsJson d)) c → AreContents (IsItem (IsJson d)) c' → print_contents print_item c ++ right_bracket ∷ [] ≡ print_contents print_item c' ++ right_bracket ∷ [] → c ≡ c'
  same_items c c' h h' e =
      let reads = items_reads (IsJson d) (value_at d) (reads_value d) (starts_at d) in
      let same = sym (reads.complete c [] h tt) ∙ ap (λ (t : List ℕ). contents_at right_bracket (item_at (value_at d)) (t ++ [])) e ∙ reads.complete c' [] h' tt in
      ap (λ (y : Contents Item × List ℕ). y.0) (same_Some _ _ same)

  same_pairs : (c c' : Contents Pair) → AreContents (IsPair (IsJson d)) c → AreContents (IsPair (IsJson d)) c' → print_contents print_pair c ++ right_brace ∷ [] ≡ print_contents print_pair c' ++ right_brace ∷ [] → c ≡ c'
  same_pairs c c' h h' e =
      let reads = members_reads (IsJson d) (value_at d) (reads_value d) (starts_at d) in
      let same = sym (reads.complete c [] h tt) ∙ ap (λ (t : List ℕ). contents_at right_brace (pair_at (value_at d)) (t ++ [])) e ∙ reads.complete c' [] h' tt in
      ap (λ (y : Contents Pair × List ℕ). y.0) (same_Some _ _ same)

-- ---- a value of a kind

null_is : (v : Value) → kind_of v ≡ kind.Null → null_literal ≡ v
null_is null_literal k = refl
null_is true_literal k = absurd cc
null_is false_literal k = absurd cc
null_is (number m) k = absurd cc
null_is (string t) k = absurd cc
null_is (empty_array w') k = absurd cc
null_is (array es') k = absurd cc
null_is (empty_object w') k = absurd cc
null_is (object ms') k = absurd cc

true_is : (v : Value) → kind_of v ≡ kind.True → true_literal ≡ v
true_is null_literal k = absurd cc
true_is true_literal k = refl
true_is false_literal k = absurd cc
true_is (number m) k = absurd cc
true_is (string t) k = absurd cc
true_is (empty_array w') k = absurd cc
true_is (array es') k = absurd cc
true_is (empty_object w') k = absurd cc
true_is (object ms') k = absurd cc

false_is : (v : Value) → kind_of v ≡ kind.False → false_literal ≡ v
false_is null_literal k = absurd cc
false_is true_literal k = absurd cc
false_is false_literal k = refl
false_is (number m) k = absurd cc
false_is (string t) k = absurd cc
false_is (empty_array w') k = absurd cc
false_is (array es') k = absurd cc
false_is (empty_object w') k = absurd cc
false_is (object ms') k = absurd cc

number_is : (n : List ℕ) (v : Value) → kind_of v ≡ kind.Num → n ≡ print v → number n ≡ v
number_is n null_literal k e = absurd cc
number_is n true_literal k e = absurd cc
number_is n false_literal k e = absurd cc
number_is n (number m) k e = ap number e
number_is n (string t) k e = absurd cc
number_is n (empty_array w') k e = absurd cc
number_is n (array es') k e = absurd cc
number_is n (empty_object w') k e = absurd cc
number_is n (object ms') k e = absurd cc

string_is : (s : List ℕ) (v : Value) → kind_of v ≡ kind.Str → s ≡ print v → string s ≡ v
string_is s null_literal k e = absurd cc
string_is s true_literal k e = absurd cc
string_is s false_literal k e = absurd cc
string_is s (number m) k e = absurd cc
string_is s (string t) k e = ap string e
string_is s (empty_array w') k e = absurd cc
string_is s (array es') k e = absurd cc
string_is s (empty_object w') k e = absurd cc
string_is s (object ms') k e = absurd cc

module _ (d : ℕ) (w : List ℕ) (ok : IsValue (empty_array w)) where
  empty_array_is : (v : Value) → IsValue v → depth v ≤ suc d → kind_of v ≡ kind.Array → print (empty_array w) ≡ print v → empty_array w ≡ v
  empty_array_is null_literal ok' le k e = absurd cc
  empty_array_is true_literal ok' le k e = absurd cc
  empty_array_is false_literal ok' le k e = absurd cc
  empty_array_is (number m) ok' le k e = absurd cc
  empty_array_is (string t) ok' le k e = absurd cc
  empty_array_is (empty_array w') ok' le k e = let s : empty w ≡ empty w' = same_items d (empty w) (empty w') (white_text w ok) (white_text w' ok') (ap (drop 1) e) in ap empty_array cc
  empty_array_is (array es') ok' le k e = let s : empty w ≡ parts (first_item es') (other_items es') = same_items d (empty w) (parts (first_item es') (other_items es')) (white_text w ok) (elements_text es' d ok' (omega arith)) (ap (drop 1) e ∙ elements_printed es') in absurd cc
  empty_array_is (empty_object w') ok' le k e = absurd cc
  empty_array_is (object ms') ok' le k e = absurd cc

module _ (d : ℕ) (es : Elements) (ok : AreElements es) (small : depth (array es) ≤ suc d) (same : (es' : Elements) → AreElements es' → parts (first_item es) (other_items es) ≡ parts (first_item es') (other_items es') → es ≡ es') where
  array_is : (v : Value) → IsValue v → depth v ≤ suc d → kind_of v ≡ kind.Array → print (array es) ≡ print v → array es ≡ v
  array_is null_literal ok' le k e = absurd cc
  array_is true_literal ok' le k e = absurd cc
  array_is false_literal ok' le k e = absurd cc
  array_is (number m) ok' le k e = absurd cc
  array_is (string t) ok' le k e = absurd cc
  array_is (empty_array w') ok' le k e = let s : parts (first_item es) (other_items es) ≡ empty w' = same_items d (parts (first_item es) (other_items es)) (empty w') (elements_text es d ok (omega arith)) (white_text w' ok') (sym (elements_printed es) ∙ ap (drop 1) e) in absurd cc
  array_is (array es') ok' le k e = ap array (same es' ok' (same_items d (parts (first_item es) (other_items es)) (parts (first_item es') (other_items es')) (elements_text es d ok (omega arith)) (elements_text es' d ok' (omega arith)) (sym (elements_printed es) ∙ ap (drop 1) e ∙ elements_printed es')))
  array_is (empty_object w') ok' le k e = absurd cc
  array_is (object ms') ok' le k e = absurd cc

module _ (d : ℕ) (w : List ℕ) (ok : IsValue (empty_object w)) where
  empty_object_is : (v : Value) → IsValue v → depth v ≤ suc d → kind_of v ≡ kind.Object → print (empty_object w) ≡ print v → empty_object w ≡ v
  empty_object_is null_literal ok' le k e = absurd cc
  empty_object_is true_literal ok' le k e = absurd cc
  empty_object_is false_literal ok' le k e = absurd cc
  empty_object_is (number m) ok' le k e = absurd cc
  empty_object_is (string t) ok' le k e = absurd cc
  empty_object_is (empty_array w') ok' le k e = absurd cc
  empty_object_is (array es') ok' le k e = absurd cc
  empty_object_is (empty_object w') ok' le k e = let s : empty w ≡ empty w' = same_pairs d (empty w) (empty w') (white_text w ok) (white_text w' ok') (ap (drop 1) e) in ap empty_object cc
  empty_object_is (object ms') ok' le k e = let s : empty w ≡ parts (first_pair ms') (other_pairs ms') = same_pairs d (empty w) (parts (first_pair ms') (other_pairs ms')) (white_text w ok) (members_text ms' d ok' (omega arith)) (ap (drop 1) e ∙ members_printed ms') in absurd cc

module _ (d : ℕ) (ms : Members) (ok : AreMembers ms) (small : depth (object ms) ≤ suc d) (same : (ms' : Members) → AreMembers ms' → parts (first_pair ms) (other_pairs ms) ≡ parts (first_pair ms') (other_pairs ms') → ms ≡ ms') where
  object_is : (v : Value) → IsValue v → depth v ≤ suc d → kind_of v ≡ kind.Object → print (object ms) ≡ print v → object ms ≡ v
  object_is null_literal ok' le k e = absurd cc
  object_is true_literal ok' le k e = absurd cc
  object_is false_literal ok' le k e = absurd cc
  object_is (number m) ok' le k e = absurd cc
  object_is (string t) ok' le k e = absurd cc
  object_is (empty_array w') ok' le k e = absurd cc
  object_is (array es') ok' le k e = absurd cc
  object_is (empty_object w') ok' le k e = let s : parts (first_pair ms) (other_pairs ms) ≡ empty w' = same_pairs d (parts (first_pair ms) (other_pairs ms)) (empty w') (members_text ms d ok (omega arith)) (white_text w' ok') (sym (members_printed ms) ∙ ap (drop 1) e) in absurd cc
  object_is (object ms') ok' le k e = ap object (same ms' ok' (same_pairs d (parts (first_pair ms) (other_pairs ms)) (parts (first_pair ms') (other_pairs ms')) (members_text ms d ok (omega arith)) (members_text ms' d ok' (omega arith)) (sym (members_printed ms) ∙ ap (drop 1) e ∙ members_printed ms')))

-- ---- the whole

mutual
  pub same_value : (u v : Value) → IsValue u → IsValue v → print u ≡ print v → u ≡ v
  same_value null_literal v ok ok' e = null_is v (same_kind null_literal v ok ok' e)
  same_value true_literal v ok ok' e = true_is v (same_kind true_literal v ok ok' e)
  same_value false_literal v ok ok' e = false_is v (same_kind false_literal v ok ok' e)
  same_value (number n) v ok ok' e = number_is n v (same_kind (number n) v ok ok' e) e
  same_value (string s) v ok ok' e = string_is s v (same_kind (string s) v ok ok' e) e
  same_value (empty_array w) v ok ok' e = empty_array_is (depth v) w ok v ok' (omega arith) (same_kind (empty_array w) v ok ok' e) e
  same_value (array es) v ok ok' e = array_is (depth (array es) + depth v) es ok (omega arith) (λ es' oks s. same_elements es es' ok oks s) v ok' (omega arith) (same_kind (array es) v ok ok' e) e
  same_value (empty_object w) v ok ok' e = empty_object_is (depth v) w ok v ok' (omega arith) (same_kind (empty_object w) v ok ok' e) e
  same_value (object ms) v ok ok' e = object_is (depth (object ms) + depth v) ms ok (omega arith) (λ ms' oks s. same_members ms ms' ok oks s) v ok' (omega arith) (same_kind (object ms) v ok ok' e) e

  same_elements : (es es' : Elements) → AreElements es → AreElements es' → parts (first_item es) (other_items es) ≡ parts (first_item es') (other_items es') → es ≡ es'
  same_elements (last_element w v x) (last_element w' v' x') ok ok' s =
      let i : item_between w v x ≡ item_between w' v' x' = cc in
      let value = same_value v v' ok.1 ok'.1 (ap (λ (n : Item). n.text) i) in
      λ j. last_element (i j).before (value j) (i j).after
  same_elements (last_element w v x) (element w' v' x' es') ok ok' s = absurd cc
  same_elements (element w v x es) (last_element w' v' x') ok ok' s = absurd cc
  same_elements (element w v x es) (element w' v' x' es') ok ok' s =
      let i : item_between w v x ≡ item_between w' v' x' = cc in
      let value = same_value v v' ok.1 ok'.1 (ap (λ (n : Item). n.text) i) in
      let others = same_elements es es' ok.3 ok'.3 cc in
      λ j. element (i j).before (value j) (i j).after (others j)

  same_members : (ms ms' : Members) → AreMembers ms → AreMembers ms' → parts (first_pair ms) (other_pairs ms) ≡ parts (first_pair ms') (other_pairs ms') → ms ≡ ms'
  same_members (last_member w k x y v z) (last_member w' k' x' y' v' z') ok ok' s =
      let p : pair_between w k x y v z ≡ pair_between w' k' x' y' v' z' = cc in
      let value = same_value v v' ok.4 ok'.4 (ap (λ (n : Pair). n.item.text) p) in
      λ j. last_member (p j).before (p j).key (p j).after (p j).item.before (value j) (p j).item.after
  same_members (last_member w k x y v z) (member w' k' x' y' v' z' ms') ok ok' s = absurd cc
  same_members (member w k x y v z ms) (last_member w' k' x' y' v' z') ok ok' s = absurd cc
  same_members (member w k x y v z ms) (member w' k' x' y' v' z' ms') ok ok' s =
      let p : pair_between w k x y v z ≡ pair_between w' k' x' y' v' z' = cc in
      let value = same_value v v' ok.4 ok'.4 (ap (λ (n : Pair). n.item.text) p) in
      let others = same_members ms ms' ok.6 ok'.6 cc in
      λ j. member (p j).before (p j).key (p j).after (p j).item.before (value j) (p j).item.after (others j)

pub text_determines_value : TextDeterminesValue
text_determines_value u v ok ok' e = same_value u v ok ok' e

pub text_determines_object : TextDeterminesObject
text_determines_object x u v h k =
    let d = depth u + depth v in
    let l = line_of_object d x u h (omega arith) in
    let r = line_of_object d x v k (omega arith) in
    let one : l.members ≡ r.members = same_Some _ _ (sym (line_complete d x l.members l.line) ∙ line_complete d x r.members r.line) in
    same_value u v h.valid k.valid (l.printed ∙ ap print_object one ∙ sym r.printed)
