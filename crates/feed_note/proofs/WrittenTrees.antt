-- The tree of a written line: it is valid, and its text is the line.
use Rattle.std.proofs.Common.{◌≡◌, ℕ, ◌+◌, ◌*◌, ◌≤◌, false, ◌||◌, not, List, [], ◌++◌, length, map, Option, Some, None, IsUtf8, refl, sym, ap, ◌∙◌, arith, append_assoc, append-nil, length-append, codes}
use Rattle.std.proofs.lemmas.Str.{IsUtf8-append, IsUtf8-nil}
use Rattle.std.proofs.lemmas.List.Folds.{list_all-append}
use Rattle.feed_text.specs.Json.{Value, Members, null_literal, true_literal, false_literal, number, string, empty_array, array, empty_object, object, last_member, member, unescaped, IsString, IsValue, kind_of, depth, items_of, print, HoldsObject}
use Rattle.feed_text.specs.Limits.{line_bytes, name_bytes, object_bytes, object_depth}
use Rattle.feed_text.specs.Objects.{IsObjectText, IsUnbroken}
use Rattle.feed_text.specs.Strings.{written_string}
use Rattle.feed_text.specs.declared.Kind.TheVariants.{Object}
use Rattle.feed_changes.specs.Names.{IsName}
use Rattle.feed_note.specs.Meaning.{is_null, is_object, is_array}
use Rattle.feed_note.specs.Written.{written_members, written_name, written_token, IsToken}
use Rattle.feed_note.proofs.WrittenStrings.{written_is_string, written_unbroken, length-written, IsUtf8-written, IsUtf8-are_ascii}

abbrev pub name_value : Option (List ℕ) → Value
name_value None = null_literal
name_value (Some w) = string (written_string w)

abbrev last_members : Value → Option (List ℕ) → Members
last_members content None = last_member [] (codes "\"data\"") [] [] content []
last_members content (Some w) = member [] (codes "\"data\"") [] [] content [] (last_member [] (codes "\"token\"") [] [] (string (written_string w)) [])

abbrev pub line_tree : List ℕ → Option (List ℕ) → Value → Option (List ℕ) → Value
line_tree kind id content token = object (member [] (codes "\"type\"") [] [] (string (written_string kind)) [] (member [] (codes "\"id\"") [] [] (name_value id) [] (last_members content token)))

abbrev pub line_text : List ℕ → Option (List ℕ) → List ℕ → Option (List ℕ) → List ℕ
line_text kind id data_text token = written_members (written_string kind) (written_name id) data_text ++ written_token token ++ codes "}"

-- ---- the text of the tree

abbrev chain : List ℕ → List ℕ → List ℕ → List ℕ → List ℕ → List ℕ → List ℕ → List ℕ → List ℕ
chain a b c d e f g h = a ++ b ++ c ++ d ++ e ++ f ++ g ++ h

chain_regrouped : (a b c d e f g h : List ℕ) → chain a b c d e f g h ≡ a ++ (b ++ (c ++ (d ++ (e ++ (f ++ (g ++ h))))))
chain_regrouped a b c d e f g h = simp append_assoc

length-chain : (a b c d e f g h : List ℕ) → length (chain a b c d e f g h) ≡ length a + length b + length c + length d + length e + length f + length g + length h
length-chain a b c d e f g h = simp length-append

chain_keeps : (P : List ℕ → Type 0) → ((x y : List ℕ) → P x → P y → P (x ++ y)) → (a b c d e f g h : List ℕ) → P a → P b → P c → P d → P e → P f → P g → P h → P (chain a b c d e f g h)
chain_keeps P join a b c d e f g h pa pb pc pd pe pf pg ph = join _ h (join _ g (join _ f (join _ e (join _ d (join _ c (join a b pa pb) pc) pd) pe) pf) pg) ph

name_printed : (name : Option (List ℕ)) → written_name name ≡ print (name_value name)
name_printed None = refl
name_printed (Some w) = refl

pub line_printed : (kind : List ℕ) (id : Option (List ℕ)) (content : Value) (token : Option (List ℕ)) → line_text kind id (print content) token ≡ print (line_tree kind id content token)
line_printed kind id content token = ap (λ i. written_members (written_string kind) i (print content) ++ written_token token ++ codes "}") (name_printed id) ∙ by token
  where
    by : (token : Option (List ℕ)) → written_members (written_string kind) (print (name_value id)) (print content) ++ written_token token ++ codes "}" ≡ print (line_tree kind id content token)
    by None = chain_regrouped (codes "{\"type\":") (written_string kind) (codes ",\"id\":") (print (name_value id)) (codes ",\"data\":") (print content) [] (codes "}")
    by (Some w) = chain_regrouped (codes "{\"type\":") (written_string kind) (codes ",\"id\":") (print (name_value id)) (codes ",\"data\":") (print content) (codes ",\"token\":" ++ written_string w) (codes "}")

-- ---- what stands in `data`

pub record IsContent (text : List ℕ) (content : Value) : Type 0 where
  pub valid : IsValue content
  pub printed : text ≡ print content
  pub encoding : IsUtf8 text
  pub unbroken : IsUnbroken text
  pub size : length text ≤ object_bytes
  pub nesting : depth content ≤ object_depth
  pub kind : not (is_object (kind_of content) || is_array (kind_of content) || is_null (kind_of content)) ≡ false
  pub flat : items_of content ≡ []

pub null_content : IsContent (codes "null") null_literal
null_content = record { valid = tt; printed = refl; encoding = IsUtf8-are_ascii _ refl; unbroken = refl; size = omega arith; nesting = omega arith; kind = refl; flat = refl }

pub array_content : IsContent (codes "[]") (empty_array [])
array_content = record { valid = refl; printed = refl; encoding = IsUtf8-are_ascii _ refl; unbroken = refl; size = omega arith; nesting = omega arith; kind = refl; flat = refl }

object_flat : (v : Value) → kind_of v ≡ Object → items_of v ≡ []
object_flat null_literal e = refl
object_flat true_literal e = refl
object_flat false_literal e = refl
object_flat (number n) e = refl
object_flat (string s) e = refl
object_flat (empty_array w) e = refl
object_flat (array es) e = absurd cc
object_flat (empty_object w) e = refl
object_flat (object ms) e = refl

pub object_content : (text : List ℕ) (h : IsObjectText text) → IsContent text h.tree
object_content text h = record {
  valid = h.spelt.valid;
  printed = h.spelt.text;
  encoding = h.spelt.encoding;
  unbroken = h.unbroken;
  size = h.size;
  nesting = h.nesting;
  kind = ap (λ k. not (is_object k || is_array k || is_null k)) h.kind;
  flat = object_flat h.tree h.kind;
}

-- ---- the tree is valid, and nests one deeper than its content

names_valid : IsString (codes "\"type\"") × IsString (codes "\"id\"") × IsString (codes "\"data\"") × IsString (codes "\"token\"")
names_valid = (
  (map unescaped (codes "type"), refl, refl),
  (map unescaped (codes "id"), refl, refl),
  (map unescaped (codes "data"), refl, refl),
  (map unescaped (codes "token"), refl, refl),
)

name_valid : (name : Option (List ℕ)) → IsValue (name_value name)
name_valid None = tt
name_valid (Some w) = written_is_string w

line_valid : (kind : List ℕ) (id : Option (List ℕ)) (content : Value) (token : Option (List ℕ)) → IsValue content → IsValue (line_tree kind id content token)
line_valid kind id content None h =
    (refl, names_valid.0, refl, refl, written_is_string kind, refl, (refl, names_valid.1, refl, refl, name_valid id, refl, (refl, names_valid.2, refl, refl, h, refl)))
line_valid kind id content (Some w) h =
    (refl, names_valid.0, refl, refl, written_is_string kind, refl, (refl, names_valid.1, refl, refl, name_valid id, refl, (refl, names_valid.2, refl, refl, h, refl, (refl, names_valid.3, refl, refl, written_is_string w, refl))))

pub line_depth : (kind : List ℕ) (id : Option (List ℕ)) (content : Value) (token : Option (List ℕ)) → depth (line_tree kind id content token) ≤ depth content + 1
line_depth kind None content None = omega arith
line_depth kind None content (Some k) = omega arith
line_depth kind (Some w) content None = omega arith
line_depth kind (Some w) content (Some k) = omega arith

-- ---- UTF-8, line feeds and bytes

name_utf8 : (name : Option (List ℕ)) → IsToken name → IsUtf8 (written_name name)
name_utf8 None h = IsUtf8-are_ascii _ refl
name_utf8 (Some w) h = IsUtf8-written w h.0

token_utf8 : (token : Option (List ℕ)) → IsToken token → IsUtf8 (written_token token)
token_utf8 None h = IsUtf8-nil
token_utf8 (Some w) h = IsUtf8-append (codes ",\"token\":") _ (IsUtf8-are_ascii _ refl) (IsUtf8-written w h.0)

unbroken_append : (x y : List ℕ) → IsUnbroken x → IsUnbroken y → IsUnbroken (x ++ y)
unbroken_append x y hx hy = rw (list_all-append, hx) hy

name_unbroken : (name : Option (List ℕ)) → IsUnbroken (written_name name)
name_unbroken None = refl
name_unbroken (Some w) = written_unbroken w

token_unbroken : (token : Option (List ℕ)) → IsUnbroken (written_token token)
token_unbroken None = refl
token_unbroken (Some w) = unbroken_append (codes ",\"token\":") (written_string w) refl (written_unbroken w)

name_length : (name : Option (List ℕ)) → IsToken name → length (written_name name) ≤ 6 * name_bytes + 4
name_length None h = omega arith
name_length (Some w) h = omega (arith, length-written w, h.1)

token_length : (token : Option (List ℕ)) → IsToken token → length (written_token token) ≤ 6 * name_bytes + 16
token_length None h = omega arith
token_length (Some w) h = omega (arith, length-append (codes ",\"token\":") (written_string w), length-written w, h.1)

module _ (kind : List ℕ) (id : Option (List ℕ)) (text : List ℕ) (content : Value) (token : Option (List ℕ)) (fits : IsContent text content) (hk : IsName kind) (hi : IsToken id) (ht : IsToken token) where
  line_keeps : (P : List ℕ → Type 0) → ((x y : List ℕ) → P x → P y → P (x ++ y)) → P (codes "{\"type\":") → P (codes ",\"id\":") → P (codes ",\"data\":") → P (codes "}")
      → P (written_string kind) → P (written_name id) → P text → P (written_token token) → P (line_text kind id text token)
  line_keeps P join p1 p2 p3 p4 pk pi pt pl =
      chain_keeps P join (codes "{\"type\":") (written_string kind) (codes ",\"id\":") (written_name id) (codes ",\"data\":") text (written_token token) (codes "}") p1 pk p2 pi p3 pt pl p4

  line_utf8 : IsUtf8 (line_text kind id text token)
  line_utf8 =
      line_keeps IsUtf8 IsUtf8-append (IsUtf8-are_ascii _ refl) (IsUtf8-are_ascii _ refl) (IsUtf8-are_ascii _ refl) (IsUtf8-are_ascii _ refl) (IsUtf8-written kind hk.0) (name_utf8 id hi) fits.encoding
      (token_utf8 token ht)

  pub line_holds : HoldsObject (line_text kind id text token) (line_tree kind id content token)
  line_holds = record {
    encoding = line_utf8;
    valid = line_valid kind id content token fits.valid;
    kind = refl;
    before = [];
    after = [];
    white_before = refl;
    white_after = refl;
    text = ap (λ x. line_text kind id x token) fits.printed ∙ line_printed kind id content token ∙ sym (append-nil _);
  }

  pub line_unbroken : IsUnbroken (line_text kind id text token)
  line_unbroken = line_keeps IsUnbroken unbroken_append refl refl refl refl (written_unbroken kind) (name_unbroken id) fits.unbroken (token_unbroken token)

  pub line_length : length (line_text kind id text token) ≤ line_bytes
  line_length =
      omega (
        arith,
        length-chain (codes "{\"type\":") (written_string kind) (codes ",\"id\":") (written_name id) (codes ",\"data\":") text (written_token token) (codes "}"),
        length-written kind,
        hk.1,
        name_length id hi,
        fits.size,
        token_length token ht,
      )
