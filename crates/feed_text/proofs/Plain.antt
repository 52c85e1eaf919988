-- Strings whose bytes all stand for themselves: what is between their quotation marks is what they
-- say.
use Rattle.std.proofs.Common.{◌≡◌, ℕ, Bool, true, false, cond, inl, inr, List, [], ◌∷◌, ◌++◌, Option, Some, None, refl, sym, ap, subst, ◌∙◌, ◌<◌, ◌≤◌, ◌-◌, arith, leb, length, take, drop, eqb-true, length-append, append-nil}
use Rattle.std.proofs.Math.Seq.{take-append_seam}
use Rattle.std.specs.Prelude.{◌&&◌, ◌==◌, not, nat_lt, nat_eq, bytes_eq, IsUtf8}
use Rattle.std.specs.List.{list_all, flat_map}
use Rattle.std.specs.Cmp.Lexicographic.{pointwise}
use Rattle.std.specs.Option.{option_eq}
use Rattle.std.proofs.lemmas.Bool.{false≢true, leb-true, leb-false, lt-ltb, ne_eqb, le-ltb, and_cases, not-false, cond_both, and_from as both, and_parts as both_true}
use Rattle.std.proofs.lemmas.Option.{cond_some, none-some}
use Rattle.feed_text.specs.Ascii.{quotation_mark, backslash}
use Rattle.feed_text.specs.Reading.{is_unescaped, first, prefix_while, rest_while, plain_content}
use Rattle.feed_text.specs.declared.Kind.TheVariants as kind
use Rattle.feed_text.specs.Json.{Character, unescaped, escaped, unicode, is_character, print_character, IsString, Value, null_literal, true_literal, false_literal, number, string, empty_array, array, empty_object, object, print, kind_of, IsValue, TextOfStringIsString}
use Rattle.feed_text.proofs.PrefixReaders.{while_parts, while_passes, while_prefix, while_rest}
use Rattle.feed_text.proofs.Lines.{no_length}
use Rattle.feed_text.proofs.Parts.{with_first}
use Rattle.feed_text.proofs.Scalars.{same_bytes}
use Rattle.feed_text.specs.Strings.{Says, says, short_escape, long_escape, escape_or, written_byte, written_string, IsPlain}
use Rattle.feed_text.proofs.Strings.{unescaped_is}
use Rattle.feed_text.proofs.TreeScalars.{unescaped_test, all_bytes, bytes_all}
use Rattle.feed_text.proofs.Utf8.{utf8_behind, utf8_before}
use Rattle.feed_text.proofs.WrittenStrings.{written_string_says, written_is_quoted, written_says}

below_space : (b c : ℕ) → is_unescaped b ≡ true → c < 32 → (b == c) ≡ false
below_space b c h lt = ne_eqb b c (λ e. absurd (omega (arith, leb-true 32 b (both_true (leb 32 b) _ h).0)))

pub printable : (b : ℕ) → is_unescaped b ≡ true → nat_lt b 32 ≡ false
printable b h = le-ltb b 32 (leb-true 32 b (both_true (leb 32 b) _ h).0)

same_byte : (b : ℕ) → is_unescaped b ≡ true → written_byte b ≡ b ∷ []
same_byte b h =
    let i = unescaped_is b h in
    rw (i.0, i.1, below_space b 8 h (omega arith), below_space b 9 h (omega arith), below_space b 10 h (omega arith), below_space b 12 h (omega arith), below_space b 13 h (omega arith), printable b h) refl

written_bytes : (bytes : List ℕ) → list_all is_unescaped bytes ≡ true → flat_map written_byte bytes ≡ bytes
written_bytes [] h = refl
written_bytes (b ∷ bytes) h =
    let i = both_true (is_unescaped b) (list_all is_unescaped bytes) h in
    (λ j. same_byte b i.0 j ++ written_bytes bytes i.1 j)

-- s is the content between quotation marks, and each byte of it stands for itself
pub record Quotes (s content : List ℕ) : Type 0 where
  pub text : s ≡ quotation_mark ∷ (content ++ quotation_mark ∷ [])
  pub unescaped_bytes : list_all is_unescaped content ≡ true

pub content_quotes : (s content : List ℕ) → plain_content s ≡ Some content → Quotes s content
unfolding plain_content
content_quotes s content e =
    let inside = drop 1 s in
    let here = cond_some (first s == quotation_mark && pointwise nat_eq (rest_while is_unescaped inside) (quotation_mark ∷ [])) (prefix_while is_unescaped inside) content e in
    let i = both_true (first s == quotation_mark) _ here.0 in
    let opened : s ≡ quotation_mark ∷ inside = with_first quotation_mark s (omega arith) (eqb-true _ _ i.0) in
    let close : rest_while is_unescaped inside ≡ quotation_mark ∷ [] = same_bytes (rest_while is_unescaped inside) (quotation_mark ∷ []) i.1 in
    let whole : inside ≡ prefix_while is_unescaped inside ++ quotation_mark ∷ [] = while_parts is_unescaped inside ∙ ap (λ (t : List ℕ). prefix_while is_unescaped inside ++ t) close in
    let found : Quotes s (prefix_while is_unescaped inside) = record { text = opened ∙ ap (λ (t : List ℕ). quotation_mark ∷ t) whole; unescaped_bytes = bytes_all is_unescaped (prefix_while is_unescaped inside) (while_passes is_unescaped inside) } in
    subst (Quotes s) here.1 found

quotes_content : (s content : List ℕ) → Quotes s content → plain_content s ≡ Some content
unfolding plain_content
quotes_content s content h =
    let passes = all_bytes is_unescaped content h.unescaped_bytes in
    ap plain_content h.text ∙ rw (while_rest is_unescaped content (quotation_mark ∷ []) passes refl, while_prefix is_unescaped content (quotation_mark ∷ []) passes refl) refl

-- such a string is the written string of its content
pub quotes_says : (s content : List ℕ) → Quotes s content → Says s content
unfolding written_string
quotes_says s content h =
    let written : written_string content ≡ s = ap (λ (t : List ℕ). 34 ∷ (t ++ 34 ∷ [])) (written_bytes content h.unescaped_bytes) ∙ sym h.text in
    subst (λ (t : List ℕ). Says t content) written (written_string_says content)

-- a byte is written as one byte or more, and one that is escaped as two or more
long_least : (b : ℕ) → 1 ≤ length (long_escape b)
long_least b = cond_both (nat_lt b 32) _ (b ∷ []) (λ (x : List ℕ). 1 ≤ length x) (λ e. omega arith) (λ e. omega arith)

escape_least : (n : ℕ) (other : List ℕ) (letter : Option ℕ) → n ≤ 2 → n ≤ length other → n ≤ length (escape_or other letter)
escape_least n other None two h = h
escape_least n other (Some letter) two h = two

written_some : (b : ℕ) → 1 ≤ length (written_byte b)
written_some b = escape_least 1 (long_escape b) (short_escape b) (omega arith) (long_least b)

control_longer : (b : ℕ) → nat_lt b 32 ≡ true → 2 ≤ length (written_byte b)
control_longer b e =
    let long : 2 ≤ length (long_escape b) = rw e (omega arith) in
    escape_least 2 (long_escape b) (short_escape b) (omega arith) long

at_longer : (b c : ℕ) → 2 ≤ length (written_byte c) → b ≡ c → 2 ≤ length (written_byte b)
at_longer b c h e = subst (λ (x : ℕ). 2 ≤ length (written_byte x)) (sym e) h

escaped_longer : (b : ℕ) → is_unescaped b ≡ false → 2 ≤ length (written_byte b)
escaped_longer b h =
    elim (and_cases (leb 32 b) _ h) [
      | inl e ↦ control_longer b (lt-ltb b 32 (leb-false 32 b e))
      | inr e ↦ elim (and_cases (not (b == 34)) (not (b == 92)) e) [
        | inl e ↦ at_longer b 34 (omega arith) (eqb-true b 34 (not-false (b == 34) e))
        | inr e ↦ at_longer b 92 (omega arith) (eqb-true b 92 (not-false (b == 92) e))
      ]
    ]

written_long : (text : List ℕ) → length text ≤ length (flat_map written_byte text)
written_long [] = omega arith
written_long (b ∷ text) = omega (arith, length-append (written_byte b) (flat_map written_byte text), written_some b, written_long text)

tail_same : (b : ℕ) (xs ys : List ℕ) → (b ∷ xs) ≡ (b ∷ ys) → xs ≡ ys
tail_same b xs ys e = cc

-- a text that is written as it stands has no byte to escape
pub same_unescaped : (text : List ℕ) → flat_map written_byte text ≡ text → length (rest_while is_unescaped text) ≡ 0
same_unescaped [] e = refl
same_unescaped (b ∷ text) e = by (is_unescaped b) refl (same_unescaped text)
  where
    by : (v : Bool) → is_unescaped b ≡ v → (flat_map written_byte text ≡ text → length (rest_while is_unescaped text) ≡ 0) → length (cond v (rest_while is_unescaped text) (b ∷ text)) ≡ 0
    by true h others = others (tail_same b (flat_map written_byte text) text (ap (λ (t : List ℕ). t ++ flat_map written_byte text) (sym (same_byte b h)) ∙ e))
    by false h others = absurd (omega (arith, ap length e, length-append (written_byte b) (flat_map written_byte text), escaped_longer b h, written_long text))

rest_unescaped : (text : List ℕ) → length (rest_while is_unescaped text) ≡ 0 → list_all is_unescaped text ≡ true
rest_unescaped text e =
    let whole : prefix_while is_unescaped text ≡ text = sym (while_parts is_unescaped text ∙ ap (λ (t : List ℕ). prefix_while is_unescaped text ++ t) (no_length (rest_while is_unescaped text) e) ∙ append-nil (prefix_while is_unescaped text)) in
    subst (λ (t : List ℕ). list_all is_unescaped t ≡ true) whole (bytes_all is_unescaped (prefix_while is_unescaped text) (while_passes is_unescaped text))

pub unescaped_same : (text : List ℕ) → length (rest_while is_unescaped text) ≡ 0 → flat_map written_byte text ≡ text
unescaped_same text e = written_bytes text (rest_unescaped text e)

-- a text without a byte to escape is written as it stands
pub written_unescaped : (text : List ℕ) → length (rest_while is_unescaped text) ≡ 0 → written_string text ≡ quotation_mark ∷ (text ++ quotation_mark ∷ [])
unfolding written_string
written_unescaped text e =
    ap (λ (t : List ℕ). 34 ∷ (t ++ 34 ∷ [])) (unescaped_same text e)

pub content_says : (s content : List ℕ) → plain_content s ≡ Some content → Says s content
content_says s content e = quotes_says s content (content_quotes s content e)

pub says_content : (s content w : List ℕ) → plain_content s ≡ Some content → says s w ≡ bytes_eq content w
says_content s content w e = ap (λ (o : Option (List ℕ)). option_eq bytes_eq o (Some w)) (content_says s content e)

pub plain_tail : (bytes : List ℕ) → list_all is_unescaped bytes ≡ true → IsPlain (bytes ++ 34 ∷ [])
plain_tail [] h = refl
plain_tail (b ∷ bytes) h =
    let i = both_true (is_unescaped b) (list_all is_unescaped bytes) h in
    both (not (b == backslash)) _ (ap not (unescaped_is b i.0).1) (plain_tail bytes i.1)

pub content_text : (s content : List ℕ) → plain_content s ≡ Some content → s ≡ quotation_mark ∷ (content ++ quotation_mark ∷ [])
content_text s content e = (content_quotes s content e).text

pub content_plain : (s content : List ℕ) → plain_content s ≡ Some content → IsPlain s
content_plain s content e =
    let h = content_quotes s content e in
    subst IsPlain (sym h.text) (plain_tail content h.unescaped_bytes)

-- characters without a backslash stand for themselves
characters_plain : (cs : List Character) → list_all is_character cs ≡ true → IsPlain (flat_map print_character cs ++ 34 ∷ []) → list_all is_unescaped (flat_map print_character cs) ≡ true
characters_plain [] h plain = refl
characters_plain (unescaped b ∷ cs) h plain =
    let i = both_true (is_character (unescaped b)) (list_all is_character cs) h in
    let j = both_true (not (b == backslash)) _ plain in
    both (is_unescaped b) (list_all is_unescaped (flat_map print_character cs)) (sym (unescaped_test b) ∙ i.0) (characters_plain cs i.1 j.1)
characters_plain (escaped b ∷ cs) h plain = absurd (false≢true plain)
characters_plain (unicode a b c d ∷ cs) h plain = absurd (false≢true plain)

-- what a string without a backslash quotes
pub plain_quotes : (s : List ℕ) → IsString s → IsPlain s → (content : List ℕ) × Quotes s content
plain_quotes s (cs, h, e) plain =
    let tail : IsPlain (flat_map print_character cs ++ 34 ∷ []) = subst IsPlain e plain in
    (flat_map print_character cs, record { text = e; unescaped_bytes = characters_plain cs h tail })

pub not_plain : (s : List ℕ) → IsString s → plain_content s ≡ None → ¬ IsPlain s
not_plain s is none plain =
    let q = plain_quotes s is plain in
    absurd (none-some q.0 (sym none ∙ quotes_content s q.0 q.1))

between : (s content : List ℕ) → Quotes s content → take (length s - 1 - 1) (drop 1 s) ≡ content
between s content h =
    let size : length s - 1 - 1 ≡ length content = omega (arith, ap length h.text, length-append content (quotation_mark ∷ [])) in
    ap (λ (n : ℕ). take n (drop 1 s)) size ∙ ap (λ (t : List ℕ). take (length content) (drop 1 t)) h.text ∙ take-append_seam content (quotation_mark ∷ [])

pub between_says : (s : List ℕ) → IsString s → IsPlain s → Says s (take (length s - 1 - 1) (drop 1 s))
between_says s is plain =
    let q = plain_quotes s is plain in
    subst (Says s) (sym (between s q.0 q.1)) (quotes_says s q.0 q.1)

pub between_utf8 : (s : List ℕ) → IsString s → IsPlain s → IsUtf8 s → IsUtf8 (take (length s - 1 - 1) (drop 1 s))
between_utf8 s is plain utf8 =
    let q = plain_quotes s is plain in
    let inside : IsUtf8 (q.0 ++ quotation_mark ∷ []) = utf8_behind quotation_mark (q.0 ++ quotation_mark ∷ []) (omega arith) (subst IsUtf8 q.1.text utf8) in
    subst IsUtf8 (sym (between s q.0 q.1)) (utf8_before q.0 [] quotation_mark (omega arith) inside)

pub content_is_prefix : (text rest : List ℕ) → rest ≡ rest_while is_unescaped text → take (length text - length rest) text ≡ prefix_while is_unescaped text
content_is_prefix text rest e =
    let prefix = prefix_while is_unescaped text in
    let parts : text ≡ prefix ++ rest = while_parts is_unescaped text ∙ ap (λ (t : List ℕ). prefix ++ t) (sym e) in
    let size : length text - length rest ≡ length prefix = omega (arith, ap length parts, length-append prefix rest) in
    ap (λ (n : ℕ). take n text) size ∙ ap (take (length prefix)) parts ∙ take-append_seam prefix rest

-- what the code takes for the content
pub content_utf8 : (s inside end content : List ℕ) → IsUtf8 s → first s ≡ quotation_mark → inside ≡ drop 1 s → end ≡ rest_while is_unescaped inside → pointwise nat_eq end (quotation_mark ∷ []) ≡ true → content ≡ take (length inside - length end) inside → IsUtf8 content
content_utf8 s inside end content utf8 here behind rest closed cut =
    let close : end ≡ quotation_mark ∷ [] = same_bytes end (quotation_mark ∷ []) closed in
    let prefix = prefix_while is_unescaped inside in
    let opened : s ≡ quotation_mark ∷ inside = with_first quotation_mark s (omega arith) here ∙ ap (λ (t : List ℕ). quotation_mark ∷ t) (sym behind) in
    let parts : inside ≡ prefix ++ quotation_mark ∷ [] = while_parts is_unescaped inside ∙ ap (λ (t : List ℕ). prefix ++ t) (sym rest ∙ close) in
    let behind_mark : IsUtf8 inside = utf8_behind quotation_mark inside (omega arith) (subst IsUtf8 opened utf8) in
    let before_mark : IsUtf8 prefix = utf8_before prefix [] quotation_mark (omega arith) (subst IsUtf8 parts behind_mark) in
    subst IsUtf8 (sym (cut ∙ content_is_prefix inside end rest)) before_mark

-- ---- the text of a value that is a string

string_value : (v : Value) → IsValue v → kind_of v ≡ kind.Str → IsString (print v)
string_value null_literal ok e = absurd cc
string_value true_literal ok e = absurd cc
string_value false_literal ok e = absurd cc
string_value (number n) ok e = absurd cc
string_value (string s) ok e = ok
string_value (empty_array w) ok e = absurd cc
string_value (array es) ok e = absurd cc
string_value (empty_object w) ok e = absurd cc
string_value (object ms) ok e = absurd cc

pub string_text_is_string : TextOfStringIsString
string_text_is_string x v s e = subst IsString (sym s.text) (string_value v s.valid e)

pub ruleset plain_texts = (content_text, content_says, content_plain, not_plain)

pub ruleset texts = (content_utf8, content_is_prefix)

pub ruleset unescaped_texts = (unescaped_same, same_unescaped, written_unescaped)

pub ruleset written = (written_is_quoted, written_says)
