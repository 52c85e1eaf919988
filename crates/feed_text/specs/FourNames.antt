-- One pass over the members of a line, which keeps the last values of four names. Only the clauses
-- of private functions cite this file.
use Rattle.std.specs.Prelude.{◌≡◌, ⊤, ℕ, ◌&&◌, Bool, false, List, [], ◌∷◌, ◌++◌, Some, option_map, map, codes, IsTrue}
use Rattle.std.specs.Str.{bytes_eq}
use Rattle.std.specs.List.{list_all}
use Rattle.feed_text.specs.Ascii.{quotation_mark, colon, right_brace}
use Rattle.feed_text.specs.Json.{is_white_space}
use Rattle.feed_text.specs.Members.{MemberSpelling, IsPlainString, AreLastValues, ArePlain}
use Rattle.feed_text.specs.Reading.{is_unescaped, behind_first, rest_while, pair_at, value_at, contents_at, pair_and_rest, members_and_rest, line_at, pair_view, parts_of}
use Rattle.feed_text.specs.declared.named.Key.{Key}
use Rattle.feed_text.specs.declared.named.Key.TheVariants as key
use Rattle.feed_text.specs.declared.named.NamedMembers.{NamedMembers}
use Rattle.feed_text.specs.declared.value.Item as items

-- the name is the key's, or none of the four
abbrev pub IsNamed : Key → List ℕ → Type 0
IsNamed key.Kind name = name ≡ codes "type"
IsNamed key.Id name = name ≡ codes "id"
IsNamed key.Content name = name ≡ codes "data"
IsNamed key.Token name = name ≡ codes "token"
IsNamed key.Other name =
    (bytes_eq name (codes "type") ≡ false) × (bytes_eq name (codes "id") ≡ false)
    × (bytes_eq name (codes "data") ≡ false) × (bytes_eq name (codes "token") ≡ false)

-- the name of such a key stands behind a quotation mark, and behind its colon the value
pub record IsKeyAt (text : List ℕ) (kind : Key) (value : List ℕ) : Type 0 where
  pub name : List ℕ
  pub behind : List ℕ
  pub named : IsNamed kind name
  pub unescaped : IsTrue (list_all is_unescaped name)
  pub whole : text ≡ name ++ quotation_mark ∷ behind
  pub value_is : Some value ≡ behind_first colon (rest_while is_white_space behind)

-- a string without a backslash, under a type, an id and a token
abbrev pub IsPlainFor : Key → items.Item → Type 0
IsPlainFor key.Kind value = IsPlainString value
IsPlainFor key.Id value = IsPlainString value
IsPlainFor key.Content value = ⊤
IsPlainFor key.Token value = IsPlainString value
IsPlainFor key.Other value = ⊤

-- the same values, but for that of the key
abbrev pub with_value : Key → items.Item → Bool → NamedMembers → NamedMembers
with_value key.Kind value plain m = record {
  kind = Some value;
  id = m.id;
  content = m.content;
  token = m.token;
  are_plain = m.are_plain && plain;
}
with_value key.Id value plain m = record {
  kind = m.kind;
  id = Some value;
  content = m.content;
  token = m.token;
  are_plain = m.are_plain && plain;
}
with_value key.Content value plain m = record {
  kind = m.kind;
  id = m.id;
  content = Some value;
  token = m.token;
  are_plain = m.are_plain && plain;
}
with_value key.Token value plain m = record {
  kind = m.kind;
  id = m.id;
  content = m.content;
  token = Some value;
  are_plain = m.are_plain && plain;
}
with_value key.Other value plain m = record {
  kind = m.kind;
  id = m.id;
  content = m.content;
  token = m.token;
  are_plain = m.are_plain && plain;
}

-- where it is said that they are plain, they are
abbrev pub PlainIfSaid : NamedMembers → Type 0
PlainIfSaid found = IsTrue found.are_plain → ArePlain found

-- a member whose key stands behind a quotation mark was read, and what was found with it
pub record TakesMember (levels : ℕ) (text : List ℕ) (old new : NamedMembers) (rest : List ℕ)
    : Type 0 where
  pub member : MemberSpelling
  pub read : (whole : List ℕ) → rest_while is_white_space whole ≡ quotation_mark ∷ text →
      Some (member, rest) ≡ pair_and_rest (pair_at (value_at levels) whole)
  pub last : (members : List MemberSpelling) → AreLastValues members old →
      AreLastValues (members ++ member ∷ []) new
  pub plain : PlainIfSaid old → PlainIfSaid new

-- all members up to the closing brace were read, and what was found
pub record TakesAll (levels : ℕ) (text : List ℕ) (found : NamedMembers) (rest : List ℕ)
    : Type 0 where
  pub members : List MemberSpelling
  pub read : Some (members, rest)
      ≡ members_and_rest (contents_at right_brace (pair_at (value_at levels)) text)
  pub last : AreLastValues members found
  pub plain : PlainIfSaid found

-- the same of a line that is one object
pub record LineTakes (levels : ℕ) (line : List ℕ) (found : NamedMembers) : Type 0 where
  pub members : List MemberSpelling
  pub read : Some members ≡ option_map (λ c. map pair_view (parts_of c)) (line_at levels line)
  pub last : AreLastValues members found
  pub plain : PlainIfSaid found
