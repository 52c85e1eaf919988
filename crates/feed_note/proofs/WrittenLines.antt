-- A written line means its change and its token.
use Rattle.std.proofs.Common.{◌≡◌, ℕ, ◌+◌, ◌≤◌, Bool, true, false, ◌&&◌, ◌||◌, not, nat_lt, List, [], ◌∷◌, ◌++◌, length, map, Option, Some, None, refl, sym, ap, ◌∙◌, subst, arith, codes}
use Rattle.std.specs.Prelude.{flat_map, option_to_list, is_some, is_none, unwrap_or}
use Rattle.std.specs.List.{list_any}
use Rattle.std.proofs.lemmas.Bool.{le-ltb, false≢true}
use Rattle.std.proofs.Math.Bool.{and-false}
use Rattle.serde_json.proofs.OnLiterals.{serde_json_on_literals}
use Rattle.feed_text.specs.Json.{Value, null_literal, true_literal, false_literal, number, string, empty_array, array, empty_object, object, kind_of, depth, items_of, print}
use Rattle.feed_text.specs.Limits.{line_depth as most_depth, name_bytes, object_bytes, object_depth}
use Rattle.feed_text.specs.Nesting.{ObjectNestsToItsDepth}
use Rattle.feed_text.specs.Strings.{written_string, WrittenStringSays}
use Rattle.feed_text.specs.declared.Kind.TheVariants.{Object}
use Rattle.feed_changes.specs.Names.{IsName}
use Rattle.feed_changes.specs.declared.change.Change.{Change}
use Rattle.feed_changes.specs.declared.change.Change.TheVariants.{Set, Remove, Empty, Single, Clear}
use Rattle.feed_note.specs.declared.line.Line.TheVariants.{Note}
use Rattle.feed_note.specs.declared.line.LineFault.TheVariants.{NoType, BadMember, BadData, NoMeaning, BadElement, LongName, BigObject}
use Rattle.feed_note.specs.Meaning.{IsKeepAlive, NestsTooDeep, Notification, notification, member_text, element_id, is_string, is_object, is_array, is_text_or_null, is_big_object, fault_of, first_fault, conditions, content_of, one_object, told, changes_of, token_of}
use Rattle.feed_note.specs.Written.{IsToken, IsLineOf, WrittenLineMeans}
use Rattle.feed_note.proofs.WrittenTrees.{name_value, line_tree, line_text, IsContent, null_content, array_content, object_content, line_depth, line_holds, line_unbroken, line_length}

-- ---- what stands behind each name

abbrev token_value : Option (List ℕ) → Option Value
token_value None = None
token_value (Some w) = Some (string (written_string w))

abbrev line_members : List ℕ → Option (List ℕ) → Value → Option (List ℕ) → Notification
line_members kind id content token = record { kind = Some (string (written_string kind)); id = Some (name_value id); content = Some content; token = token_value token }

members_found : (kind : List ℕ) (id : Option (List ℕ)) (content : Value) (token : Option (List ℕ)) → notification (line_tree kind id content token) ≡ line_members kind id content token
unfolding serde_json_on_literals
members_found kind id content None = refl
members_found kind id content (Some w) = refl

object_told : (v : Value) → kind_of v ≡ Object → content_of (Some v) ≡ one_object (print v)
object_told null_literal e = absurd cc
object_told true_literal e = absurd cc
object_told false_literal e = absurd cc
object_told (number n) e = absurd cc
object_told (string s) e = absurd cc
object_told (empty_array w) e = absurd cc
object_told (array es) e = absurd cc
object_told (empty_object w) e = refl
object_told (object ms) e = refl

-- ---- names and objects within the limits

abbrev is_long : List ℕ → Bool
is_long w = nat_lt name_bytes (length w)

short_then : (name : Option (List ℕ)) (ws : List (List ℕ)) → IsToken name → list_any is_long ws ≡ false → list_any is_long (option_to_list name ++ ws) ≡ false
short_then None ws h e = e
short_then (Some w) ws h e = λ i. le-ltb name_bytes (length w) h.1 i || e i

small_object : (text : List ℕ) (content : Value) → IsContent text content → is_big_object content ≡ false
small_object text content fits =
    let size : length (print content) ≤ object_bytes = subst (λ x. length x ≤ object_bytes) fits.printed fits.size in
    (λ i. is_object (kind_of content) && (le-ltb object_bytes (length (print content)) size i || le-ltb object_depth (depth content) fits.nesting i)) ∙ and-false (is_object (kind_of content))

module _ (says : WrittenStringSays) where
  name_told : (name : Option (List ℕ)) → member_text (Some (name_value name)) ≡ name
  name_told None = refl
  name_told (Some w) = says w

  token_told : (token : Option (List ℕ)) → member_text (token_value token) ≡ token
  token_told None = refl
  token_told (Some w) = says w

  name_good : (name : Option (List ℕ)) → is_text_or_null (Some (name_value name)) ≡ true
  name_good None = refl
  name_good (Some w) = ap is_some (says w)

  token_good : (token : Option (List ℕ)) → is_text_or_null (token_value token) ≡ true
  token_good None = refl
  token_good (Some w) = ap is_some (says w)

  -- a line of a type, an id or null, a content, and a token or none
  module _ (kind : List ℕ) (id : Option (List ℕ)) (text : List ℕ) (content : Value) (token : Option (List ℕ)) (fits : IsContent text content) (hk : IsName kind) (hi : IsToken id) (ht : IsToken token) where
    no_bad_element : list_any (λ v. not (is_object (kind_of v)) || is_none (element_id v)) (items_of content ++ []) ≡ false
    no_bad_element = ap (λ vs. list_any (λ v. not (is_object (kind_of v)) || is_none (element_id v)) (vs ++ [])) fits.flat

    no_long_name : list_any is_long (flat_map option_to_list (member_text (Some (string (written_string kind))) ∷ member_text (Some (name_value id)) ∷ member_text (token_value token) ∷ map element_id (items_of content ++ []))) ≡ false
    no_long_name =
        (λ i. list_any is_long (flat_map option_to_list (says kind i ∷ name_told id i ∷ token_told token i ∷ map element_id (fits.flat i ++ []))))
        ∙ short_then (Some kind) (option_to_list id ++ (option_to_list token ++ [])) hk (short_then id (option_to_list token ++ []) hi (short_then token [] ht refl))

    no_big_object : list_any is_big_object (content ∷ (items_of content ++ [])) ≡ false
    no_big_object = λ i. small_object text content fits i || list_any is_big_object (fits.flat i ++ [])

    no_fault : (is_string (kind_of (name_value id)) && is_array (kind_of content)) ≡ false → fault_of (line_tree kind id content token) ≡ None
    no_fault apart =
        ap (λ n. first_fault (conditions n)) (members_found kind id content token)
        ∙ (λ i. first_fault (
        (false, NoType) ∷ (not (is_some (says kind i)) || not (name_good id i) || not (token_good token i), BadMember) ∷ (fits.kind i, BadData) ∷ (apart i, NoMeaning)
        ∷ (no_bad_element i, BadElement) ∷ (no_long_name i, LongName) ∷ (no_big_object i, BigObject) ∷ []
        ))

    line_changes : (c : Change) → told kind id (content_of (Some content)) ≡ c ∷ [] → changes_of (line_tree kind id content token) ≡ c ∷ []
    line_changes c e =
        ap (λ n. told (unwrap_or (member_text n.kind) []) (member_text n.id) (content_of n.content)) (members_found kind id content token)
        ∙ (λ i. told (unwrap_or (says kind i) []) (name_told id i) (content_of (Some content)))
        ∙ e

    line_token : token_of (line_tree kind id content token) ≡ token
    line_token = ap (λ n. member_text n.token) (members_found kind id content token) ∙ token_told token

    not_alive : ¬ (IsKeepAlive (line_text kind id text token))
    not_alive h = false≢true h

    not_deep : ObjectNestsToItsDepth → ¬ (NestsTooDeep (line_text kind id text token))
    not_deep nests d =
        let deep : most_depth + 1 ≤ depth (line_tree kind id content token) = (nests _ (line_tree kind id content token) (most_depth + 1) (line_holds kind id text content token fits hk hi ht)).0 d in
        absurd (omega (arith, deep, line_depth kind id content token, fits.nesting))

    is_line_of : ObjectNestsToItsDepth → (c : Change) → (is_string (kind_of (name_value id)) && is_array (kind_of content)) ≡ false → told kind id (content_of (Some content)) ≡ c ∷ []
        → IsLineOf (line_text kind id text token) (Note (c ∷ []) token)
    is_line_of nests c apart e = record {
      means = (line_tree kind id content token, (not_alive, not_deep nests, line_holds kind id text content token fits hk hi ht), no_fault apart, sym (line_changes c e), sym line_token);
      unbroken = line_unbroken kind id text content token fits hk hi ht;
      size = line_length kind id text content token fits hk hi ht;
    }

  pub written_line_means : ObjectNestsToItsDepth → WrittenLineMeans
  written_line_means nests (Set t i o) token h ht =
      is_line_of t (Some i) o h.2.tree token (object_content o h.2) h.0 h.1 ht nests (Set t i o)
      (ap is_array h.2.kind) (ap (told t (Some i)) (object_told h.2.tree h.2.kind ∙ ap one_object (sym h.2.spelt.text)))
  written_line_means nests (Remove t i) token h ht = is_line_of t (Some i) (codes "null") null_literal token null_content h.0 h.1 ht nests (Remove t i) refl refl
  written_line_means nests (Empty t) token h ht = is_line_of t None (codes "[]") (empty_array []) token array_content h tt ht nests (Empty t) refl refl
  written_line_means nests (Single t o) token h ht =
      is_line_of t None o h.1.tree token (object_content o h.1) h.0 tt ht nests (Single t o)
      refl (ap (told t None) (object_told h.1.tree h.1.kind ∙ ap one_object (sym h.1.spelt.text)))
  written_line_means nests (Clear t) token h ht = is_line_of t None (codes "null") null_literal token null_content h tt ht nests (Clear t) refl refl
