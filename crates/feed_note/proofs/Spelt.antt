-- Values and members by their spellings, and the same in the tree.
use Rattle.std.proofs.Common.{◌≡◌, refl, sym, ap, ◌∙◌, subst, ℕ, ◌≤◌, ◌<◌, Bool, true, false, not, ◌||◌, cond, List, [], ◌∷◌, length, Option, Some, None, arith, append-nil}
use Rattle.std.specs.Prelude.{IsTrue, IsUtf8, option_map, is_some, nat_lt, ◌↔◌}
use Rattle.feed_text.specs.Json.{Value, print, kind_of, depth, members_of, HoldsObject, null_literal, true_literal, false_literal, number, string, empty_array, array, empty_object, object, TextDeterminesObject}
use Rattle.feed_text.specs.Members.{Spelling, spelling_of, MemberSpelling, LastSpeltIsLastNamed}
use Rattle.feed_text.specs.Nesting.{NestsTo, ObjectNestsToItsDepth}
use Rattle.feed_text.specs.Scan.{HoldsMembers}
use Rattle.feed_text.specs.Strings.{last_named}
use Rattle.feed_text.specs.declared.Kind.TheVariants.{Object}
use Rattle.feed_note.specs.Meaning.{text_of, member_text, member_kind, is_null, is_text_or_null, element_id}
use Rattle.feed_note.specs.Naming.{spelled_text, spelled_or_null, naming_of}
use Rattle.feed_note.specs.Reading.{IsReadable, last_value_spelt, naming_or_null, is_too_large}
use Rattle.feed_note.specs.declared.naming.Naming.TheVariants.{Is, Long}
use Rattle.feed_note.specs.Naming.{is_unreadable, is_unreadable_or_null}
use Rattle.feed_note.proofs.Parts.{last_value_is_last_named}
use Rattle.feed_note.proofs.Sizes.{two_for_each}

pub spelled_text-spelling_of : (v : Value) → spelled_text (spelling_of v) ≡ text_of v
spelled_text-spelling_of null_literal = refl
spelled_text-spelling_of true_literal = refl
spelled_text-spelling_of false_literal = refl
spelled_text-spelling_of (number n) = refl
spelled_text-spelling_of (string s) = refl
spelled_text-spelling_of (empty_array w) = refl
spelled_text-spelling_of (array es) = refl
spelled_text-spelling_of (empty_object w) = refl
spelled_text-spelling_of (object ms) = refl

-- a member's text, where there is a member
pub text_of_member : (m : Option Value) (s : Spelling) → Some s ≡ option_map spelling_of m → spelled_text s ≡ member_text m
text_of_member None s e = absurd cc
text_of_member (Some v) s e = let same : s ≡ spelling_of v = cc in ap spelled_text same ∙ spelled_text-spelling_of v

pub no_member : (m : Option Value) → None ≡ option_map spelling_of m → m ≡ None
no_member None e = refl
no_member (Some v) e = absurd cc

-- what a member names that may be null
pub spelled_or_null-spelling_of : (m : Option Value) → spelled_or_null (option_map spelling_of m) ≡ naming_or_null m
spelled_or_null-spelling_of None = refl
spelled_or_null-spelling_of (Some v) = ap (λ t. cond (is_null (kind_of v)) None (Some (naming_of t))) (spelled_text-spelling_of v)

pub naming_of_member : (m : Option Value) (x : Option Spelling) → x ≡ option_map spelling_of m → spelled_or_null x ≡ naming_or_null m
naming_of_member m x e = ap spelled_or_null e ∙ spelled_or_null-spelling_of m

-- ---- members that name nothing

pub unreadable-naming_of : (o : Option (List ℕ)) → is_unreadable (naming_of o) ≡ not (is_some o)
unreadable-naming_of None = refl
unreadable-naming_of (Some w) = by (nat_lt 255 (length w))
  where
    by : (t : Bool) → is_unreadable (cond t Long (Is w)) ≡ false
    by true = refl
    by false = refl

pub unreadable-naming_or_null : (m : Option Value) → is_unreadable_or_null (naming_or_null m) ≡ not (is_text_or_null m)
unreadable-naming_or_null m = by (is_null (member_kind m))
  where
    by : (t : Bool) → is_unreadable_or_null (cond t None (Some (naming_of (member_text m)))) ≡ not (t || is_some (member_text m))
    by true = refl
    by false = unreadable-naming_of (member_text m)

-- ---- objects

-- the text of a readable object holds it
pub holds_object : (n : ℕ) (text : List ℕ) (v : Value) → IsReadable n v → kind_of v ≡ Object → text ≡ print v → HoldsObject text v
holds_object n text v h k e = record {
  encoding = subst IsUtf8 (sym e) h.encoding;
  valid = h.valid;
  kind = k;
  before = [];
  after = [];
  white_before = refl;
  white_after = refl;
  text = e ∙ sym (append-nil (print v));
}

-- the last members of an object that was read
pub last_value_of_object : TextDeterminesObject → LastSpeltIsLastNamed → (n : ℕ) (text : List ℕ) (members : List MemberSpelling) (v : Value) → IsReadable n v → kind_of v ≡ Object → text ≡ print v → HoldsMembers text members
    → (w : List ℕ) → last_value_spelt w members ≡ option_map spelling_of (last_named w (members_of v))
last_value_of_object one last n text members v h k e held w =
    let same : held.tree ≡ v = one text held.tree v held.holds (holds_object n text v h k e) in
    ap (last_value_spelt w) (held.spelt) ∙ last_value_is_last_named last w (members_of held.tree) ∙ ap (λ u. option_map spelling_of (last_named w (members_of u))) same

-- what the id of an object names, by the value that was read under it
pub id_found : TextDeterminesObject → LastSpeltIsLastNamed → (n : ℕ) (text : List ℕ) (members : List MemberSpelling) (v : Value) → IsReadable n v → kind_of v ≡ Object → text ≡ print v → HoldsMembers text members
    → (s : Spelling) → Some s ≡ last_value_spelt (105 ∷ 100 ∷ []) members → naming_of (spelled_text s) ≡ naming_of (element_id v)
id_found one last n text members v h k e held s found =
    ap naming_of (text_of_member (last_named (105 ∷ 100 ∷ []) (members_of v)) s (found ∙ last_value_of_object one last n text members v h k e held (105 ∷ 100 ∷ [])))

pub no_id_found : TextDeterminesObject → LastSpeltIsLastNamed → (n : ℕ) (text : List ℕ) (members : List MemberSpelling) (v : Value) → IsReadable n v → kind_of v ≡ Object → text ≡ print v → HoldsMembers text members
    → None ≡ last_value_spelt (105 ∷ 100 ∷ []) members → naming_of None ≡ naming_of (element_id v)
no_id_found one last n text members v h k e held none =
    ap (λ (m : Option Value). naming_of (member_text m)) (sym (no_member (last_named (105 ∷ 100 ∷ []) (members_of v)) (none ∙ last_value_of_object one last n text members v h k e held (105 ∷ 100 ∷ []))))

-- an object that is short enough is too large where it nests to 101
pub too_large_by_nesting : ObjectNestsToItsDepth → (n : ℕ) (text : List ℕ) (v : Value) → IsReadable n v → kind_of v ≡ Object → text ≡ print v → length text ≤ 1048576
    → (r : Bool) → (IsTrue r ↔ NestsTo text 101) → r ≡ is_too_large v
too_large_by_nesting law n text v h k e short r deep = by r deep
  where
    depths : NestsTo text 101 ↔ (101 ≤ depth v)
    depths = law text v 101 (holds_object n text v h k e)

    not_long : nat_lt 1048576 (length (print v)) ≡ false
    not_long = grind (arith, ap length e)

    by : (r : Bool) → (IsTrue r ↔ NestsTo text 101) → r ≡ is_too_large v
    by true d = let deep : 101 ≤ depth v = depths.0 (d.0 refl) in rw not_long (grind arith)
    by false d = rw not_long (grind (arith, d, depths))

-- an object of fewer than two bytes for each level that is too deep isn't too large
pub small_object : (text : List ℕ) (v : Value) → text ≡ print v → length text < 202 → false ≡ is_too_large v
small_object text v e short =
    let levels = two_for_each v in
    let size : length text ≡ length (print v) = ap length e in
    let not_long : nat_lt 1048576 (length (print v)) ≡ false = grind arith in
    let not_deep : nat_lt 100 (depth v) ≡ false = grind arith in
    rw (not_long, not_deep) refl
