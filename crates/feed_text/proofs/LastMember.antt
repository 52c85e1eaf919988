-- The members of an object, one after the other, and the last one of a name.
use Rattle.std.proofs.Common.{◌≡◌, ◌<◌, ◌≤◌, ℕ, Bool, true, false, cond, eqb, List, [], ◌∷◌, ◌++◌, length, drop, Option, Some, None, refl, sym, ap, subst, ◌∙◌, arith, append_assoc}
use Rattle.std.specs.Prelude.{reverse, find}
use Rattle.std.proofs.lemmas.List.{reverse-append}
use Rattle.feed_text.specs.declared.Kind.TheVariants as kind
use Rattle.feed_text.specs.Ascii.{comma, colon, left_brace, right_brace}
use Rattle.feed_text.specs.Json as json
use Rattle.feed_text.specs.Json.{Members, null_literal, true_literal, false_literal, number, string, empty_array, array, empty_object, object, last_member, member, print, print_members, IsValue, IsString, AreMembers, is_white_space, IsWhiteSpace, depth, depth_of_members, members_of, members_list, kind_of}
use Rattle.feed_text.specs.Members.{MemberSpelling, spelling_of, member_spellings, IsMemberSpelling, AreMemberSpellings, last_spelt}
use Rattle.feed_text.specs.Objects.{SpellsObject}
use Rattle.feed_text.specs.Reading.{Prefix, print_pair, first, rest_while, pair_at, value_at, pair_and_rest, parts_left}
use Rattle.feed_text.specs.Scan.{HoldsMembers}
use Rattle.feed_text.specs.Strings.{says}
use Rattle.feed_text.proofs.Bounds.{drop_shorter}
use Rattle.feed_text.proofs.Depths.{pair_reads, reads_value, starts_at}
use Rattle.feed_text.proofs.Found.{object_holds, held_spelt}
use Rattle.feed_text.proofs.PrefixReaders.{while_rest}
use Rattle.feed_text.proofs.Grammar.{IsJson}
use Rattle.feed_text.proofs.Loops.{members_shorter, member_no_string}
use Rattle.feed_text.proofs.Remaining.{nothing_remains, nothing_of_nothing, one_and_others}
use Rattle.feed_text.proofs.Rests.{string_none}
use Rattle.feed_text.proofs.Sizes.{depth_within}
use Rattle.feed_text.proofs.Trees.{pair_between, value_text}
use Rattle.feed_text.proofs.TreeScalars.{white_text, string_text}
use Rattle.feed_text.proofs.Values.{EndsItem}

-- a member as the code shows it
abbrev shown : ℕ → List ℕ → Prefix MemberSpelling
shown levels text = pair_and_rest (pair_at (value_at levels) text)

-- the members at the start of a text, their values nested at most so deep
unfoldable pub members_left : ℕ → List ℕ → List MemberSpelling
members_left levels text = parts_left (shown levels) text

module _ (levels : ℕ) where
  left_of_nothing : members_left levels [] ≡ []
  unfolding members_left
  left_of_nothing = nothing_of_nothing (shown levels) (members_shorter levels)

  pub no_member_left : (text : List ℕ) → pair_and_rest (pair_at (value_at levels) text) ≡ None → members_left levels text ≡ []
  unfolding members_left
  no_member_left = nothing_remains (shown levels) (members_shorter levels)

  pub member_left : (text : List ℕ) (y : MemberSpelling) (rest : List ℕ) → pair_and_rest (pair_at (value_at levels) text) ≡ Some (y, rest) → members_left levels text ≡ y ∷ members_left levels (cond (eqb (first rest) comma) (drop 1 rest) [])
  unfolding members_left
  member_left = one_and_others (shown levels) (members_shorter levels)

  -- ---- the members of a tree

  pair_found : (w k x y : List ℕ) (v : json.Value) (z tail : List ℕ) → IsWhiteSpace w → IsString k → IsWhiteSpace x → IsWhiteSpace y → IsValue v → depth v ≤ levels → IsWhiteSpace z → EndsItem tail
      → pair_at (value_at levels) (w ++ (k ++ (x ++ colon ∷ (y ++ (print v ++ (z ++ tail)))))) ≡ Some (pair_between w k x y v z, tail)
  pair_found w k x y v z tail hw hk hx hy hv le hz ends =
      let regrouped : w ++ (k ++ (x ++ colon ∷ (y ++ (print v ++ (z ++ tail))))) ≡ print_pair (pair_between w k x y v z) ++ tail = simp append_assoc in
      ap (pair_at (value_at levels)) regrouped ∙ (pair_reads (IsJson levels) (value_at levels) (reads_value levels) (starts_at levels)).complete (pair_between w k x y v z) tail (white_text w hw, string_text k hk, white_text x hx, (white_text y hy, value_text v levels hv le, white_text z hz)) ends

  tree_members : (ms : Members) → AreMembers ms → depth_of_members ms ≤ levels → members_left levels (print_members ms) ≡ member_spellings (members_list ms)
  tree_members (last_member w k x y v z) ok le =
      member_left _ (k, spelling_of v) (right_brace ∷ []) (ap pair_and_rest (pair_found w k x y v z (right_brace ∷ []) ok.0 ok.1 ok.2 ok.3 ok.4 le ok.5 (((refl, omega arith), refl), refl)))
      ∙ ap (λ (ms : List MemberSpelling). (k, spelling_of v) ∷ ms) left_of_nothing
  tree_members (member w k x y v z ms) ok le =
      member_left _ (k, spelling_of v) (comma ∷ print_members ms) (ap pair_and_rest (pair_found w k x y v z (comma ∷ print_members ms) ok.0 ok.1 ok.2 ok.3 ok.4 (omega arith) ok.5 (((refl, omega arith), refl), refl)))
      ∙ ap (λ (ns : List MemberSpelling). (k, spelling_of v) ∷ ns) (tree_members ms ok.6 (omega arith))

  empty_left : (w : List ℕ) → IsWhiteSpace w → members_left levels (w ++ right_brace ∷ []) ≡ []
  empty_left w h =
      let skipped : rest_while is_white_space (w ++ right_brace ∷ []) ≡ right_brace ∷ [] = while_rest is_white_space w (right_brace ∷ []) (white_text w h) refl in
      no_member_left (w ++ right_brace ∷ []) (member_no_string levels (w ++ right_brace ∷ []) (rw skipped (string_none (right_brace ∷ []) (omega arith))))

  tree_left : (tree : json.Value) → IsValue tree → kind_of tree ≡ kind.Object → depth tree ≤ levels → members_left levels (drop 1 (print tree)) ≡ member_spellings (members_of tree)
  tree_left null_literal ok k le = absurd cc
  tree_left true_literal ok k le = absurd cc
  tree_left false_literal ok k le = absurd cc
  tree_left (number n) ok k le = absurd cc
  tree_left (string s) ok k le = absurd cc
  tree_left (empty_array w) ok k le = absurd cc
  tree_left (array es) ok k le = absurd cc
  tree_left (empty_object w) ok k le = empty_left w ok
  tree_left (object ms) ok k le = tree_members ms ok (omega arith)

tree_opens : (tree : json.Value) → kind_of tree ≡ kind.Object → first (print tree) ≡ left_brace
tree_opens null_literal k = absurd cc
tree_opens true_literal k = absurd cc
tree_opens false_literal k = absurd cc
tree_opens (number n) k = absurd cc
tree_opens (string s) k = absurd cc
tree_opens (empty_array w) k = absurd cc
tree_opens (array es) k = absurd cc
tree_opens (empty_object w) k = refl
tree_opens (object ms) k = refl

pub object_opens : (x : List ℕ) → SpellsObject x → first x ≡ left_brace
object_opens x h = ap first h.spelt.text ∙ tree_opens h.tree h.kind

-- behind its brace stand the members of the object
pub object_left : (x : List ℕ) → SpellsObject x → HoldsMembers x (members_left (length x) (drop 1 x))
object_left x h =
    let s = h.spelt in
    record {
      tree = h.tree;
      holds = object_holds x h;
      spelt = ap (λ (t : List ℕ). members_left (length x) (drop 1 t)) s.text ∙ tree_left (length x) h.tree s.valid h.kind (omega (arith, depth_within h.tree, ap length s.text));
    }

pub object_left_spelt : (x : List ℕ) → SpellsObject x → AreMemberSpellings (members_left (length x) (drop 1 x))
object_left_spelt x h = held_spelt x (members_left (length x) (drop 1 x)) (object_left x h)

-- ---- the last one of a name

-- the second where there is no first
abbrev pub or_else : {A : Type 0} → Option A → Option A → Option A
or_else None o = o
or_else (Some x) o = Some x

find_append : {A : Type 0} (test : A → Bool) (xs ys : List A) → find test (xs ++ ys) ≡ or_else (find test xs) (find test ys)
find_append test [] ys = refl
find_append test (x ∷ xs) ys = by (test x) (find_append test xs ys)
  where
    by : (t : Bool) → find test (xs ++ ys) ≡ or_else (find test xs) (find test ys) → cond t (Some x) (find test (xs ++ ys)) ≡ or_else (cond t (Some x) (find test xs)) (find test ys)
    by true e = refl
    by false e = e

pub or_else_none : {A : Type 0} (a : Option A) → or_else a None ≡ a
or_else_none None = refl
or_else_none (Some x) = refl

or_else_assoc : {A : Type 0} (a b c : Option A) → or_else (or_else a b) c ≡ or_else a (or_else b c)
or_else_assoc None b c = refl
or_else_assoc (Some x) b c = refl

one_found : (t : Bool) (m : MemberSpelling) (o : Option MemberSpelling) → or_else (cond t (Some m) None) o ≡ cond t (Some m) o
one_found true m o = refl
one_found false m o = refl

-- the last one among a member and others, where o was the last one before
pub last_of_more : (w : List ℕ) (m : MemberSpelling) (ms : List MemberSpelling) (o : Option MemberSpelling) → or_else (last_spelt w (m ∷ ms)) o ≡ or_else (last_spelt w ms) (cond (says m.0 w) (Some m) o)
last_of_more w m ms o =
    ap (λ (ns : List MemberSpelling). or_else (find (λ n. says n.0 w) ns) o) (reverse-append (m ∷ []) ms)
    ∙ ap (λ (p : Option MemberSpelling). or_else p o) (find_append (λ (n : MemberSpelling). says n.0 w) (reverse ms) (m ∷ []))
    ∙ or_else_assoc (last_spelt w ms) (cond (says m.0 w) (Some m) None) o
    ∙ ap (or_else (last_spelt w ms)) (one_found (says m.0 w) m o)

comma_shorter : (t : Bool) (rest : List ℕ) → length (cond t (drop 1 rest) []) ≤ length rest
comma_shorter true rest = drop_shorter rest
comma_shorter false rest = omega arith

-- ---- one step of the code: the member y, and what is behind it and a comma

module _ (levels : ℕ) (text rest behind : List ℕ) (y : MemberSpelling) (next : Some (y, rest) ≡ pair_and_rest (pair_at (value_at levels) text)) (after : behind ≡ cond (eqb (first rest) comma) (drop 1 rest) []) where
  members_are : members_left levels text ≡ y ∷ members_left levels behind
  members_are = member_left levels text y rest (sym next) ∙ ap (λ (t : List ℕ). y ∷ members_left levels t) (sym after)

  pub next_spelt : AreMemberSpellings (members_left levels text) → AreMemberSpellings (members_left levels behind)
  next_spelt h = (subst AreMemberSpellings members_are h).1

  pub next_shorter : length behind < length text
  next_shorter = omega (arith, members_shorter levels text y rest (sym next), ap length after, comma_shorter (eqb (first rest) comma) rest)

  pub next_same : (w : List ℕ) (o n last : Option MemberSpelling) → n ≡ cond (says y.0 w) (Some y) o → or_else (last_spelt w (members_left levels text)) o ≡ last → or_else (last_spelt w (members_left levels behind)) n ≡ last
  next_same w o n last e h =
      ap (or_else (last_spelt w (members_left levels behind))) e
      ∙ sym (last_of_more w y (members_left levels behind) o)
      ∙ ap (λ (ms : List MemberSpelling). or_else (last_spelt w ms) o) (sym members_are)
      ∙ h

-- a member that is there is spelt as one
pub this_spelt : (levels : ℕ) (text rest : List ℕ) (y : MemberSpelling) → Some (y, rest) ≡ pair_and_rest (pair_at (value_at levels) text) → AreMemberSpellings (members_left levels text) → IsMemberSpelling y
this_spelt levels text rest y next h = (subst AreMemberSpellings (member_left levels text y rest (sym next)) h).0

-- the end
pub last_found : (levels : ℕ) (w text : List ℕ) (o last : Option MemberSpelling) → pair_and_rest (pair_at (value_at levels) text) ≡ None → or_else (last_spelt w (members_left levels text)) o ≡ last → o ≡ last
last_found levels w text o last none h = ap (λ (ms : List MemberSpelling). or_else (last_spelt w ms) o) (sym (no_member_left levels text none)) ∙ h
