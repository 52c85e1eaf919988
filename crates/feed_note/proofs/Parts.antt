-- The parts of a value that stands in a line stand in it too.
use Rattle.std.proofs.Common.{◌≡◌, refl, sym, ap, ◌∙◌, subst, ℕ, suc, ◌≤◌, List, [], ◌∷◌, ◌++◌, Option, Some, None, reverse, arith}
use Rattle.std.specs.Prelude.{IsUtf8, IfSome, option_map}
use Rattle.std.specs.List.{AllByRecursion}
use Rattle.std.proofs.lemmas.List.Folds.{list_all-append}
use Rattle.feed_text.specs.Json.{Value, AreElements, AreMembers, Elements, Members, Member, print, print_elements, print_members, depth_of_elements, depth_of_members, items_of, members_of, elements_list, members_list, null_literal, true_literal, false_literal, number, string, empty_array, array, empty_object, object, last_element, element, last_member, member, TextDeterminesValue}
use Rattle.feed_text.specs.Members.{Spelling, spelling_of, IsSpelling, member_spelling, member_spellings, LastSpeltIsLastNamed}
use Rattle.feed_text.specs.Strings.{says, last_named, last_member_named}
use Rattle.feed_note.specs.Lines.{HasNoLineFeed}
use Rattle.feed_note.specs.Reading.{IsPart, IsReadable, last_value_spelt}
use Rattle.feed_text.proofs.Lists.{all-reverse, find_all}
use Rattle.feed_text.proofs.Choices.{first_true, second_true}

-- a text without line feeds has none in its prefix and none in its rest
pub prefix : (x y : List ℕ) → HasNoLineFeed (x ++ y) → HasNoLineFeed x
prefix x y h = first_true _ _ (sym (list_all-append _ x y) ∙ h)

pub behind : (x y : List ℕ) → HasNoLineFeed (x ++ y) → HasNoLineFeed y
behind x y h = second_true _ _ (sym (list_all-append _ x y) ∙ h)

behind_byte : (b : ℕ) (y : List ℕ) → HasNoLineFeed (b ∷ y) → HasNoLineFeed y
behind_byte b y h = behind (b ∷ []) y h

pub part_of : (n : ℕ) (v : Value) → IsReadable n v → IsPart n v
part_of n v h = record { valid = h.valid; unbroken = h.unbroken; nesting = h.nesting }

elements_parts : (n : ℕ) (es : Elements) → AreElements es → HasNoLineFeed (print_elements es) → depth_of_elements es ≤ n → AllByRecursion (IsPart n) (elements_list es)
elements_parts n (last_element w v x) ok h d =
    let rest : List ℕ = x ++ 93 ∷ [] in
    (record { valid = ok.1; unbroken = prefix (print v) rest (behind w (print v ++ rest) h); nesting = d }, tt)
elements_parts n (element w v x es) ok h d =
    let more : List ℕ = 44 ∷ print_elements es in
    let from_value : HasNoLineFeed (print v ++ (x ++ more)) = behind w (print v ++ (x ++ more)) h in (
      record { valid = ok.1; unbroken = prefix (print v) (x ++ more) from_value; nesting = omega arith },
      elements_parts n es ok.3 (behind_byte 44 (print_elements es) (behind x more (behind (print v) (x ++ more) from_value))) (omega arith),
    )

-- the elements of an array
pub items_parts : (n : ℕ) (v : Value) → IsPart (suc n) v → AllByRecursion (IsPart n) (items_of v)
items_parts n null_literal h = tt
items_parts n true_literal h = tt
items_parts n false_literal h = tt
items_parts n (number t) h = tt
items_parts n (string s) h = tt
items_parts n (empty_array w) h = tt
items_parts n (array es) h = elements_parts n es h.valid (behind_byte 91 (print_elements es) h.unbroken) (let d = h.nesting in omega arith)
items_parts n (empty_object w) h = tt
items_parts n (object ms) h = tt

behind_key : (w k x y t : List ℕ) → HasNoLineFeed (w ++ (k ++ (x ++ 58 ∷ (y ++ t)))) → HasNoLineFeed t
behind_key w k x y t h = behind y t (behind_byte 58 (y ++ t) (behind x (58 ∷ (y ++ t)) (behind k (x ++ 58 ∷ (y ++ t)) (behind w (k ++ (x ++ 58 ∷ (y ++ t))) h))))

members_parts : (n : ℕ) (ms : Members) → AreMembers ms → HasNoLineFeed (print_members ms) → depth_of_members ms ≤ n → AllByRecursion (λ m. IsPart n m.value) (members_list ms)
members_parts n (last_member w k x y v z) ok h d =
    let rest : List ℕ = z ++ 125 ∷ [] in
    (record { valid = ok.4; unbroken = prefix (print v) rest (behind_key w k x y (print v ++ rest) h); nesting = d }, tt)
members_parts n (member w k x y v z ms) ok h d =
    let more : List ℕ = 44 ∷ print_members ms in
    let from_value : HasNoLineFeed (print v ++ (z ++ more)) = behind_key w k x y (print v ++ (z ++ more)) h in (
      record { valid = ok.4; unbroken = prefix (print v) (z ++ more) from_value; nesting = omega arith },
      members_parts n ms ok.6 (behind_byte 44 (print_members ms) (behind z more (behind (print v) (z ++ more) from_value))) (omega arith),
    )

-- the values of the members of an object
pub members_of_parts : (n : ℕ) (v : Value) → IsPart (suc n) v → AllByRecursion (λ m. IsPart n m.value) (members_of v)
members_of_parts n null_literal h = tt
members_of_parts n true_literal h = tt
members_of_parts n false_literal h = tt
members_of_parts n (number t) h = tt
members_of_parts n (string s) h = tt
members_of_parts n (empty_array w) h = tt
members_of_parts n (array es) h = tt
members_of_parts n (empty_object w) h = tt
members_of_parts n (object ms) h = members_parts n ms h.valid (behind_byte 123 (print_members ms) h.unbroken) (let d = h.nesting in omega arith)

-- ---- what holds of each element holds of the one that is found

map_holds : {A B : Type 0} (f : A → B) (P : B → Type 0) (found : Option A) → IfSome found (λ a. P (f a)) → IfSome (option_map f found) P
map_holds f P None h = tt
map_holds f P (Some a) h = h

-- the last member of a name is a part
pub last_named_part : (n : ℕ) (v : Value) (w : List ℕ) → IsPart (suc n) v → IfSome (last_named w (members_of v)) (IsPart n)
last_named_part n v w h =
    map_holds (λ m. m.value) (IsPart n) (last_member_named w (members_of v))
    (find_all (λ m. IsPart n m.value) (λ m. says m.name w) (reverse (members_of v)) (all-reverse (λ m. IsPart n m.value) (members_of v) (members_of_parts n v h)))

-- ---- spellings

value_of_spelling : (found : Option Member) → option_map (λ m. m.1) (option_map member_spelling found) ≡ option_map spelling_of (option_map (λ m. m.value) found)
value_of_spelling None = refl
value_of_spelling (Some m) = refl

-- the value of the last member of a name, by the texts and in the tree
pub last_value_is_last_named : LastSpeltIsLastNamed → (w : List ℕ) (ms : List Member) → last_value_spelt w (member_spellings ms) ≡ option_map spelling_of (last_named w ms)
last_value_is_last_named law w ms = ap (option_map (λ m. m.1)) (law w ms) ∙ value_of_spelling (last_member_named w ms)

-- a text is that of one value
pub same_value : TextDeterminesValue → (n m : ℕ) (u v : Value) → IsReadable n u → IsReadable m v → print u ≡ print v → u ≡ v
same_value law n m u v h k e = law u v h.valid k.valid e

-- the spelling of a part in UTF-8
pub readable_spelling : (n : ℕ) (s : Spelling) (v : Value) → IsPart n v → IsSpelling s → s ≡ spelling_of v → IsReadable n v
readable_spelling n s v h k e = record { valid = h.valid; encoding = subst IsUtf8 (ap (λ x. x.0) e) (k.spelt).encoding; unbroken = h.unbroken; nesting = h.nesting }
