-- A written string is valid JSON, UTF-8 where its text is, and on one line; a byte takes up to six.
use Rattle.std.proofs.Common.{◌≡◌, ℕ, zero, suc, ◌+◌, ◌*◌, ◌/◌, ◌%◌, ◌<◌, ◌≤◌, Bool, true, false, ◌&&◌, not, nat_lt, nat_le, ◌==◌, List, [], ◌∷◌, ◌++◌, length, map, get_or, Option, Some, None, IsUtf8, inl, inr, refl, sym, ap, ◌∙◌, subst, arith, append-nil, length-append, le-leb}
use Rattle.std.specs.Prelude.{flat_map, if◌then◌else◌}
use Rattle.std.specs.List.{list_all}
use Rattle.std.specs.Char.{digit_char}
use Rattle.std.proofs.lemmas.Bool.{and_parts, cases_lt, cases_eq, ne_eqb, le-ltb, ltb-true, leb-true}
use Rattle.std.proofs.lemmas.List.Folds.{list_all-append}
use Rattle.std.proofs.lemmas.Grind.{flat_map-append}
use Rattle.std.proofs.lemmas.Str.{IsUtf8-append, IsUtf8-nil, IsUtf8-encode, encode_ascii, inside_one}
use lib.Utf8.{scalar, scalars, encode, encodes, low_scalar}
use Rattle.feed_text.specs.Ascii.{quotation_mark, space, line_feed}
use Rattle.feed_text.specs.Json.{Character, unescaped, escaped, unicode, print_character, is_character, IsString}
use Rattle.feed_text.specs.Objects.{IsUnbroken}
use Rattle.feed_text.specs.Strings.{short_escape, long_escape, escape_or, written_byte, written_string}

-- ---- one byte

-- the test holds of each number below n
abbrev each_below : (ℕ → Bool) → ℕ → Bool
each_below test zero = true
each_below test (suc n) = test n && each_below test n

below : (test : ℕ → Bool) (n : ℕ) → each_below test n ≡ true → (b : ℕ) → b < n → test b ≡ true
below test zero e b h = absurd (omega arith)
below test (suc n) e b h =
    let p = and_parts _ _ e in
    elim (cases_eq b n) [ inl same ↦ ap test same ∙ p.0 | inr other ↦ below test n p.1 b (omega arith) ]

-- the character that stands for a byte
abbrev long_character : ℕ → Character
long_character b = if nat_lt b space then unicode 48 48 (digit_char (b / 16)) (digit_char (b % 16)) else unescaped b

abbrev character_or : Character → Option ℕ → Character
character_or long None = long
character_or long (Some letter) = escaped letter

abbrev character_of : ℕ → Character
character_of b = character_or (long_character b) (short_escape b)

character_printed : (b : ℕ) → print_character (character_of b) ≡ written_byte b
character_printed b = by (short_escape b)
  where
    long : (t : Bool) → print_character (if t then unicode 48 48 (digit_char (b / 16)) (digit_char (b % 16)) else unescaped b) ≡ (if t then 92 ∷ 117 ∷ 48 ∷ 48 ∷ digit_char (b / 16) ∷ digit_char (b % 16) ∷ [] else b ∷ [])
    long true = refl
    long false = refl

    by : (o : Option ℕ) → print_character (character_or (long_character b) o) ≡ escape_or (long_escape b) o
    by None = long (nat_lt b space)
    by (Some letter) = refl

-- a byte of a character that is not ASCII stands for itself
no_short : (b : ℕ) → 128 ≤ b → short_escape b ≡ None
no_short b h =
    rw (ne_eqb b 34 (omega arith)) (rw (ne_eqb b 92 (omega arith)) (rw (ne_eqb b 8 (omega arith)) (rw (ne_eqb b 9 (omega arith)) (rw (ne_eqb b 10 (omega arith)) (rw (ne_eqb b 12 (omega arith)) (rw (ne_eqb b 13 (omega arith)) refl))))))

high_character : (b : ℕ) → 128 ≤ b → character_of b ≡ unescaped b
high_character b h = ap (character_or (long_character b)) (no_short b h) ∙ ap (λ t. if t then unicode 48 48 (digit_char (b / 16)) (digit_char (b % 16)) else unescaped b) (le-ltb b space (omega arith))

high_byte : (b : ℕ) → 128 ≤ b → written_byte b ≡ b ∷ []
high_byte b h = sym (character_printed b) ∙ ap print_character (high_character b h)

-- what holds of the escapes of ASCII, and of every other byte alone
each_byte : (test : List ℕ → Bool) → each_below (λ b. test (written_byte b)) 128 ≡ true → ((b : ℕ) → 128 ≤ b → test (b ∷ []) ≡ true) → (b : ℕ) → test (written_byte b) ≡ true
each_byte test low high b =
    elim (cases_lt b 128) [
      | inl small ↦ below (λ n. test (written_byte n)) 128 low b small
      | inr big ↦ ap test (high_byte b big) ∙ high b big
    ]

valid_character : (b : ℕ) → is_character (character_of b) ≡ true
valid_character b =
    elim (cases_lt b 128) [
      | inl small ↦ below (λ n. is_character (character_of n)) 128 refl b small
      | inr big ↦ ap is_character (high_character b big) ∙ plain big
    ]
  where
    plain : 128 ≤ b → is_character (unescaped b) ≡ true
    plain h = rw (le-leb space b (omega arith)) (rw (ne_eqb b 34 (omega arith)) (rw (ne_eqb b 92 (omega arith)) refl))

abbrev is_unbroken : List ℕ → Bool
is_unbroken x = list_all (λ b. not (b == line_feed)) x

unbroken_byte : (b : ℕ) → is_unbroken (written_byte b) ≡ true
unbroken_byte = each_byte is_unbroken refl (λ b h. rw (ne_eqb b 10 (omega arith)) refl)

short_byte : (b : ℕ) → length (written_byte b) ≤ 6
short_byte b = leb-true _ _ (each_byte (λ x. nat_le (length x) 6) refl (λ b h. refl) b)

-- ---- a string

characters_printed : (text : List ℕ) → flat_map print_character (map character_of text) ≡ flat_map written_byte text
characters_printed [] = refl
characters_printed (b ∷ text) = λ i. character_printed b i ++ characters_printed text i

characters_valid : (text : List ℕ) → list_all is_character (map character_of text) ≡ true
characters_valid [] = refl
characters_valid (b ∷ text) = rw (valid_character b) (characters_valid text)

pub written_is_string : (text : List ℕ) → IsString (written_string text)
unfolding written_string
written_is_string text = (map character_of text, characters_valid text, ap (λ s. quotation_mark ∷ (s ++ quotation_mark ∷ [])) (sym (characters_printed text)))

bytes_unbroken : (text : List ℕ) → is_unbroken (flat_map written_byte text) ≡ true
bytes_unbroken [] = refl
bytes_unbroken (b ∷ text) = list_all-append _ (written_byte b) (flat_map written_byte text) ∙ rw (unbroken_byte b) (bytes_unbroken text)

pub written_unbroken : (text : List ℕ) → IsUnbroken (written_string text)
unfolding written_string
written_unbroken text = list_all-append _ (flat_map written_byte text) (quotation_mark ∷ []) ∙ rw (bytes_unbroken text) refl

bytes_length : (text : List ℕ) → length (flat_map written_byte text) ≤ 6 * length text
bytes_length [] = omega arith
bytes_length (b ∷ text) = omega (arith, length-append (written_byte b) (flat_map written_byte text), short_byte b, bytes_length text)

pub length-written : (text : List ℕ) → length (written_string text) ≤ 6 * length text + 2
unfolding written_string
length-written text = omega (arith, length-append (flat_map written_byte text) (quotation_mark ∷ []), bytes_length text)

-- ---- UTF-8

pub ascii_then : (x : ℕ) (xs : List ℕ) → x < 128 → IsUtf8 xs → IsUtf8 (x ∷ xs)
ascii_then x xs small u = IsUtf8-append (x ∷ []) xs (subst IsUtf8 (encode_ascii x small) (IsUtf8-encode x (low_scalar x (omega arith)))) u

abbrev are_ascii : List ℕ → Bool
are_ascii xs = list_all (λ x. nat_lt x 128) xs

pub IsUtf8-are_ascii : (xs : List ℕ) → are_ascii xs ≡ true → IsUtf8 xs
IsUtf8-are_ascii [] e = IsUtf8-nil
IsUtf8-are_ascii (x ∷ xs) e = let p = and_parts _ _ e in ascii_then x xs (ltb-true _ _ p.0) (IsUtf8-are_ascii xs p.1)

low_ascii : (b : ℕ) → b < 128 → are_ascii (written_byte b) ≡ true
low_ascii = below (λ b. are_ascii (written_byte b)) 128 refl

high_bytes : (xs : List ℕ) → ((k : ℕ) → k < length xs → 128 ≤ get_or xs k 0) → flat_map written_byte xs ≡ xs
high_bytes [] h = refl
high_bytes (x ∷ xs) h = λ i. high_byte x (h 0 (omega arith)) i ++ high_bytes xs (λ k less. h (suc k) (omega arith)) i

one_utf8 : (c : ℕ) → scalar c ≡ true → IsUtf8 (flat_map written_byte (encode c))
one_utf8 c ok =
    elim (cases_lt c 128) [
      | inl small ↦ rw (encode_ascii c small, append-nil) (IsUtf8-are_ascii _ (low_ascii c small))
      | inr big ↦
          let high : (k : ℕ) → k < length (encode c) → 128 ≤ get_or (encode c) k 0 = λ k less. elim (cases_lt (get_or (encode c) k 0) 128) [
            | inl low ↦ absurd (omega (arith, inside_one c [] (encode c) k (sym (append-nil _)) less low))
            | inr h ↦ h
          ] in
          subst IsUtf8 (sym (high_bytes (encode c) high)) (IsUtf8-encode c ok)
    ]

all_utf8 : (cs : List ℕ) → scalars cs ≡ true → IsUtf8 (flat_map written_byte (encodes cs))
all_utf8 [] e = IsUtf8-nil
all_utf8 (c ∷ cs) e =
    let p = and_parts _ _ e in
    subst IsUtf8 (sym (flat_map-append written_byte (encode c) (encodes cs))) (IsUtf8-append _ _ (one_utf8 c p.0) (all_utf8 cs p.1))

pub IsUtf8-written : (text : List ℕ) → IsUtf8 text → IsUtf8 (written_string text)
unfolding written_string
IsUtf8-written text u = ascii_then quotation_mark _ (omega arith) (IsUtf8-append _ _ (subst (λ x. IsUtf8 (flat_map written_byte x)) u.1.1 (all_utf8 u.0 u.1.0)) (IsUtf8-are_ascii (quotation_mark ∷ []) refl))
