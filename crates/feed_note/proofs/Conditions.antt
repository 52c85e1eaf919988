-- The conditions of a notification, one after the other.
use Rattle.std.proofs.Common.{◌≡◌, refl, sym, ap, ◌∙◌, subst, ℕ, Bool, true, false, not, ◌||◌, ◌&&◌, cond, true≢false, List, [], ◌∷◌, length, Option, Some, None, append-nil}
use Rattle.std.specs.Prelude.{MatchResult, Result, Ok, Err, is_none, nat_lt, option_map, option_and_then, option_to_list, flat_map}
use Rattle.std.specs.List.{list_any}
use Rattle.std.proofs.lemmas.Bool.{and_right, or_right, or_from as neither}
use Rattle.feed_text.specs.Json.{Value, kind_of, items_of, null_literal, true_literal, false_literal, number, string, empty_array, array, empty_object, object}
use Rattle.feed_text.specs.Members.{Spelling, spelling_of}
use Rattle.feed_text.specs.declared.Kind.{Kind}
use Rattle.feed_text.specs.declared.Kind.TheVariants.{Object, Array, Null}
use Rattle.feed_note.specs.Meaning.{Notification, conditions, first_fault, has_no_type, has_bad_member, has_bad_data, has_no_meaning, has_bad_element, has_long_name, has_big_object, is_object, is_array, is_null, is_string, is_text, is_text_or_null, member_kind, member_text, element_id, elements_of}
use Rattle.feed_note.specs.Naming.{naming_of}
use Rattle.feed_note.specs.Reading.{naming_or_null, IsNamed, IsContentOf, IsFirstFault, HoldsElements, Collects, element_of, gathered, kept, identified_by}
use Rattle.feed_note.specs.Naming.{is_unreadable, is_unreadable_or_null}
use Rattle.feed_note.specs.declared.content.Content.{Content}
use Rattle.feed_note.specs.declared.content.Content.TheVariants as content
use Rattle.feed_note.specs.declared.content.Element.{Element}
use Rattle.feed_note.specs.declared.naming.Naming.{Naming}
use Rattle.feed_note.specs.declared.naming.Naming.TheVariants.{Is, Long}
use Rattle.feed_note.specs.declared.line.LineFault.{LineFault}
use Rattle.feed_note.specs.declared.line.LineFault.TheVariants as fault
use Rattle.feed_note.proofs.Spelt.{unreadable-naming_of, unreadable-naming_or_null}

-- ---- the first row that holds

pub skip : (b : Bool) (f : LineFault) (rows : List (Bool × LineFault)) → b ≡ false → first_fault ((b, f) ∷ rows) ≡ first_fault rows
skip true f rows e = absurd (true≢false e)
skip false f rows e = refl

pub first : (b : Bool) (f : LineFault) (rows : List (Bool × LineFault)) → b ≡ true → first_fault ((b, f) ∷ rows) ≡ Some f
first true f rows e = refl
first false f rows e = absurd (true≢false (sym e))

module _ (n : Notification) where
  abbrev from_big : List (Bool × LineFault)
  from_big = (has_big_object n, fault.BigObject) ∷ []

  abbrev from_long : List (Bool × LineFault)
  from_long = (has_long_name n, fault.LongName) ∷ from_big

  abbrev from_element : List (Bool × LineFault)
  from_element = (has_bad_element n, fault.BadElement) ∷ from_long

  abbrev from_meaning : List (Bool × LineFault)
  from_meaning = (has_no_meaning n, fault.NoMeaning) ∷ from_element

  abbrev from_data : List (Bool × LineFault)
  from_data = (has_bad_data n, fault.BadData) ∷ from_meaning

  abbrev from_member : List (Bool × LineFault)
  from_member = (has_bad_member n, fault.BadMember) ∷ from_data

  pub no_type : has_no_type n ≡ true → first_fault (conditions n) ≡ Some fault.NoType
  no_type e = first (has_no_type n) fault.NoType from_member e

  pub bad_member : has_no_type n ≡ false → has_bad_member n ≡ true → first_fault (conditions n) ≡ Some fault.BadMember
  bad_member t e = skip (has_no_type n) fault.NoType from_member t ∙ first (has_bad_member n) fault.BadMember from_data e

  past_members : has_no_type n ≡ false → has_bad_member n ≡ false → first_fault (conditions n) ≡ first_fault from_data
  past_members t m = skip (has_no_type n) fault.NoType from_member t ∙ skip (has_bad_member n) fault.BadMember from_data m

  pub bad_data : has_no_type n ≡ false → has_bad_member n ≡ false → has_bad_data n ≡ true → first_fault (conditions n) ≡ Some fault.BadData
  bad_data t m e = past_members t m ∙ first (has_bad_data n) fault.BadData from_meaning e

  pub no_meaning : has_no_type n ≡ false → has_bad_member n ≡ false → has_bad_data n ≡ false → has_no_meaning n ≡ true → first_fault (conditions n) ≡ Some fault.NoMeaning
  no_meaning t m d e = past_members t m ∙ skip (has_bad_data n) fault.BadData from_meaning d ∙ first (has_no_meaning n) fault.NoMeaning from_element e

  pub bad_element : has_no_type n ≡ false → has_bad_member n ≡ false → has_bad_data n ≡ false → has_no_meaning n ≡ false → has_bad_element n ≡ true → first_fault (conditions n) ≡ Some fault.BadElement
  bad_element t m d o e = past_members t m ∙ skip (has_bad_data n) fault.BadData from_meaning d ∙ skip (has_no_meaning n) fault.NoMeaning from_element o ∙ first (has_bad_element n) fault.BadElement from_long e

  module _ (typed : has_no_type n ≡ false) (good : has_bad_member n ≡ false) (good_data : has_bad_data n ≡ false) (meaning : has_no_meaning n ≡ false) (good_elements : has_bad_element n ≡ false) where
    past_elements : first_fault (conditions n) ≡ first_fault from_long
    past_elements = past_members typed good ∙ skip (has_bad_data n) fault.BadData from_meaning good_data ∙ skip (has_no_meaning n) fault.NoMeaning from_element meaning ∙ skip (has_bad_element n) fault.BadElement from_long good_elements

    pub long_name : has_long_name n ≡ true → first_fault (conditions n) ≡ Some fault.LongName
    long_name e = past_elements ∙ first (has_long_name n) fault.LongName from_big e

    pub big_object : has_long_name n ≡ false → has_big_object n ≡ true → first_fault (conditions n) ≡ Some fault.BigObject
    big_object l e = past_elements ∙ skip (has_long_name n) fault.LongName from_big l ∙ first (has_big_object n) fault.BigObject [] e

    pub none_holds : has_long_name n ≡ false → has_big_object n ≡ false → first_fault (conditions n) ≡ None
    none_holds l b = past_elements ∙ skip (has_long_name n) fault.LongName from_big l ∙ skip (has_big_object n) fault.BigObject [] b

-- ---- members

pub typed : (m : Option Value) (s : Spelling) → Some s ≡ option_map spelling_of m → is_none m ≡ false
typed None s e = absurd cc
typed (Some v) s e = refl

-- whether one of the names is unreadable
pub any_unreadable : (n : Notification) (k : Naming) (i t : Option Naming) → k ≡ naming_of (member_text n.kind) → i ≡ naming_or_null n.id → t ≡ naming_or_null n.token
    → (is_unreadable k || is_unreadable_or_null i || is_unreadable_or_null t) ≡ has_bad_member n
any_unreadable n k i t ek ei et =
    ap (λ x. x || is_unreadable_or_null i || is_unreadable_or_null t) (ap is_unreadable ek ∙ unreadable-naming_of (member_text n.kind))
    ∙ ap (λ x. not (is_text n.kind) || x || is_unreadable_or_null t) (ap is_unreadable_or_null ei ∙ unreadable-naming_or_null n.id)
    ∙ ap (λ x. not (is_text n.kind) || not (is_text_or_null n.id) || x) (ap is_unreadable_or_null et ∙ unreadable-naming_or_null n.token)

-- ---- contents

pub content_found : (m : Option Value) (s : Spelling) → Some s ≡ option_map spelling_of m → (v : Value) × (m ≡ Some v) × (s ≡ spelling_of v)
content_found None s e = absurd cc
content_found (Some v) s e = (v, refl, cc)

pub no_items : (v : Value) → is_array (kind_of v) ≡ false → items_of v ≡ []
no_items null_literal e = refl
no_items true_literal e = refl
no_items false_literal e = refl
no_items (number t) e = refl
no_items (string s) e = refl
no_items (empty_array w) e = refl
no_items (array es) e = absurd (true≢false e)
no_items (empty_object w) e = refl
no_items (object ms) e = refl

kind_of_some : (m : Option Value) (v : Value) → m ≡ Some v → member_kind m ≡ kind_of v
kind_of_some m v e = ap member_kind e

module _ (n : Notification) where
  pub elements_are : (v : Value) → n.content ≡ Some v → elements_of n ≡ items_of v
  elements_are v e = ap (λ m. flat_map items_of (option_to_list m)) e ∙ append-nil (items_of v)

  -- a kind of content decides on it
  data_of_kind : (k : Kind) → member_kind n.content ≡ k → has_bad_data n ≡ not (is_object k || is_array k || is_null k)
  data_of_kind k e = ap (λ x. not (is_object x || is_array x || is_null x)) e

  meaning_of_kind : (k : Kind) → member_kind n.content ≡ k → has_no_meaning n ≡ (is_string (member_kind n.id) && is_array k)
  meaning_of_kind k e = ap (λ x. is_string (member_kind n.id) && is_array x) e

  -- no element of a content without elements is bad
  pub no_elements : elements_of n ≡ [] → has_bad_element n ≡ false
  no_elements e = ap (λ vs. list_any (λ v. not (is_object (kind_of v)) || is_none (element_id v)) vs) e

  pub object_content : (v : Value) (object : Option (List ℕ)) → n.content ≡ Some v → kind_of v ≡ Object → object ≡ kept v → IsContentOf (content.Object object) n
  object_content v o e k is =
      let kind : member_kind n.content ≡ Object = kind_of_some n.content v e ∙ k in
      record {
        holds = (v, e, k, is);
        good_data = data_of_kind Object kind;
        meaning = meaning_of_kind Object kind ∙ and_right (is_string (member_kind n.id)) false refl;
        good_elements = no_elements (elements_are v e ∙ no_items v (ap is_array k));
      }

  pub null_content : member_kind n.content ≡ Null → elements_of n ≡ [] → IsContentOf content.Nothing n
  null_content kind none = record {
    holds = ap is_null kind;
    good_data = data_of_kind Null kind;
    meaning = meaning_of_kind Null kind ∙ and_right (is_string (member_kind n.id)) false refl;
    good_elements = no_elements none;
  }

  pub absent_content : n.content ≡ None → IsContentOf content.Nothing n
  absent_content e = null_content (ap member_kind e) (ap (λ m. flat_map items_of (option_to_list m)) e)

  pub literal_content : (v : Value) → n.content ≡ Some v → kind_of v ≡ Null → IsContentOf content.Nothing n
  literal_content v e k = null_content (kind_of_some n.content v e ∙ k) (elements_are v e ∙ no_items v (ap is_array k))

  pub scalar_content : (has_id : Bool) → IsNamed n has_id → (v : Value) → n.content ≡ Some v → (is_object (kind_of v) || is_array (kind_of v) || is_null (kind_of v)) ≡ false → IsFirstFault n fault.BadData
  scalar_content has_id named v e k = λ other. bad_data n named.typed named.good (data_of_kind (kind_of v) (kind_of_some n.content v e) ∙ ap not k)

-- ---- elements

abbrev is_bad : Value → Bool
is_bad v = not (is_object (kind_of v)) || is_none (element_id v)

bad_is_none : (v : Value) → is_none (element_of v) ≡ is_bad v
bad_is_none v = by (is_object (kind_of v)) (element_id v)
  where
    named : (t : Bool) (w : List ℕ) → is_none (identified_by (cond t Long (Is w)) (kept v)) ≡ false
    named true w = refl
    named false w = refl

    by : (b : Bool) (o : Option (List ℕ)) → is_none (cond b (identified_by (naming_of o) (kept v)) None) ≡ (not b || is_none o)
    by false o = refl
    by true None = refl
    by true (Some w) = named (nat_lt 255 (length w)) w

-- what is gathered of some values is what is kept of the first one, and what is gathered of the
-- others
pub record Gathered (v : Value) (vs : List Value) (es : List Element) : Type 0 where
  pub first : Element
  pub others : List Element
  pub kept_first : element_of v ≡ Some first
  pub kept_others : gathered vs ≡ Some others
  pub are : es ≡ first ∷ others

pub gathered_both : (v : Value) (vs : List Value) (es : List Element) → gathered (v ∷ vs) ≡ Some es → Gathered v vs es
gathered_both v vs es e = by (element_of v) (gathered vs) refl refl e
  where
    by : (x : Option Element) (g : Option (List Element)) → element_of v ≡ x → gathered vs ≡ g → option_and_then (λ y. option_map (λ ys. y ∷ ys) g) x ≡ Some es → Gathered v vs es
    by None g a b e = absurd cc
    by (Some x) None a b e = absurd cc
    by (Some x) (Some xs) a b e = record { first = x; others = xs; kept_first = a; kept_others = b; are = cc }

pub some_bad : (vs : List Value) → gathered vs ≡ None → list_any is_bad vs ≡ true
some_bad [] e = absurd cc
some_bad (v ∷ vs) e = by (element_of v) (gathered vs) refl (some_bad vs) (bad_is_none v) e
  where
    by : (x : Option Element) (g : Option (List Element)) → element_of v ≡ x → (g ≡ None → list_any is_bad vs ≡ true) → is_none (element_of v) ≡ is_bad v → option_and_then (λ y. option_map (λ ys. y ∷ ys) g) x ≡ None → (is_bad v || list_any is_bad vs) ≡ true
    by None g a h b e = ap (λ t. t || list_any is_bad vs) (sym b ∙ ap is_none a)
    by (Some x) None a h b e = or_right (is_bad v) (list_any is_bad vs) (h refl)
    by (Some x) (Some xs) a h b e = absurd cc

pub none_bad : (vs : List Value) (es : List Element) → gathered vs ≡ Some es → list_any is_bad vs ≡ false
none_bad [] es e = refl
none_bad (v ∷ vs) es e =
    let g = gathered_both v vs es e in
    neither (is_bad v) (list_any is_bad vs) (sym (bad_is_none v) ∙ ap is_none g.kept_first) (none_bad vs g.others g.kept_others)

module _ (n : Notification) (has_id : Bool) (named : IsNamed n has_id) (v : Value) (is : n.content ≡ Some v) (k : kind_of v ≡ Array) where
  kind : member_kind n.content ≡ Array
  kind = kind_of_some n.content v is ∙ k

  no_bad_data : has_bad_data n ≡ false
  no_bad_data = data_of_kind n Array kind

  bad_elements : (b : Bool) → list_any is_bad (items_of v) ≡ b → has_bad_element n ≡ b
  bad_elements b e = ap (list_any is_bad) (elements_are n v is) ∙ e

  array_with_id : has_id ≡ true → IsFirstFault n fault.NoMeaning
  array_with_id e = λ other. no_meaning n named.typed named.good no_bad_data (meaning_of_kind n Array kind ∙ ap (λ b. b && true) (sym named.id ∙ e))

  array_has_meaning : has_id ≡ false → has_no_meaning n ≡ false
  array_has_meaning e = meaning_of_kind n Array kind ∙ ap (λ b. b && true) (sym named.id ∙ e)

  array_with_bad : has_id ≡ false → gathered (items_of v) ≡ None → IsFirstFault n fault.BadElement
  array_with_bad e none = λ other. bad_element n named.typed named.good no_bad_data (array_has_meaning e) (bad_elements true (some_bad (items_of v) none))

  array_content : has_id ≡ false → (elements : List Element) → gathered (items_of v) ≡ Some elements → (found : Content) → HoldsElements found elements → IsContentOf found n
  array_content e elements all content.Nothing h = absurd h
  array_content e elements all (content.Object o) h = absurd h
  array_content e elements all (content.Array es) h = record {
    holds = (v, is, k, all ∙ ap (λ (x : List Element). Some x) (sym h));
    good_data = no_bad_data;
    meaning = array_has_meaning e;
    good_elements = bad_elements false (none_bad (items_of v) elements all);
  }

  abbrev Reading : Result Content LineFault → Type 0
  Reading result = MatchResult result (λ found. IsContentOf found n) (IsFirstFault n)

  pub collected : (result : Result Content LineFault) → Collects has_id (gathered (items_of v)) result → Reading result
  collected result h = by has_id refl (gathered (items_of v)) refl result h
    where
      by : (b : Bool) → has_id ≡ b → (g : Option (List Element)) → gathered (items_of v) ≡ g → (result : Result Content LineFault) → Collects b g result → Reading result
      by true e g f result h = subst Reading (sym h) (array_with_id e)
      by false e None f (Ok found) h = absurd (true≢false (sym h.1))
      by false e None f (Err x) h = λ other. subst (IsFirstFault n) (sym (h.0 other)) (array_with_bad e f) other
      by false e (Some es) f (Ok found) h = array_content e es f found h
      by false e (Some es) f (Err x) h = λ other. absurd (other h)
