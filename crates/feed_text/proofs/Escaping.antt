-- What stands behind a backslash is read as `decoded` has it.
use Rattle.std.proofs.Common.{◌≡◌, ◌≢◌, ℕ, ◌-◌, ◌<◌, ◌≤◌, Bool, true, false, cond, ◌&&◌, ◌==◌, nat_lt, List, [], ◌∷◌, ◌++◌, length, take, drop, Option, Some, None, inl, inr, refl, sym, ap, subst, ◌∙◌, arith, append_assoc, append-nil, leb, length-drop}
use Rattle.std.specs.Prelude.{option_map, option_and_then, not}
use Rattle.std.proofs.lemmas.Bool.{and_right, false≢true, eqb-true, and_parts, and_cases, lt-ltb, leb-false, ne_eqb, not-false, and_parts as both_true}
use Rattle.std.proofs.lemmas.Option.{cond_some, none-some, same_Some}
use Rattle.std.proofs.lemmas.Str.{encode_ascii}
use Rattle.std.specs.Char.{is_digit, encode_utf8}
use Rattle.json.specs.Text.{code_unit, short_escape, is_high_surrogate, is_low_surrogate, surrogate_pair, plain, after_backslash, after_u, after_high, prepend, content}
use Rattle.json.specs.Json.{value, if_last}
use Rattle.serde_json.specs.Read.{of_json, max_depth}
use Rattle.feed_text.specs.Strings.{decoded, text_of_data}
use Rattle.json.specs.Word.{is_operator, is_space}
use Rattle.json.specs.Lex.{quote, backslash, operator, space, other, Mode, Lexeme, lex, lex_byte, in_string, in_escape, between, punctuate, fresh, string_token, token}
use Rattle.feed_text.specs.Reading.{first, is_unescaped, prefix_while, rest_while}
use Rattle.feed_text.specs.Escapes.{Read, unit_at, pair_of, low_half_at, character_of, escaped_at, ClosesBefore}
use Rattle.feed_text.proofs.Lines.{no_length}
use Rattle.feed_text.proofs.Parts.{with_first}
use Rattle.feed_text.proofs.Plain.{content_is_prefix, printable}
use Rattle.feed_text.proofs.PrefixReaders.{chosen, and_then_some, map_some}
use Rattle.feed_text.proofs.Strings.{unescaped_is}

prepend-prepend : (a b : List ℕ) (r : Option (List ℕ)) → prepend a (prepend b r) ≡ prepend (a ++ b) r
prepend-prepend a b None = refl
prepend-prepend a b (Some s) = ap Some (sym (append_assoc a b s))

prepend-nil : (r : Option (List ℕ)) → prepend [] r ≡ r
prepend-nil None = refl
prepend-nil (Some s) = refl

-- ---- the contents

-- what is meant by a character that was read
abbrev meant : Read → Option (List ℕ)
meant found = option_and_then (λ r. prepend (encode_utf8 r.0) (content plain r.1)) found

none_of : (b : Bool) (x : ℕ) → b ≡ false → cond b (Some x) None ≡ None
none_of true x e = absurd (false≢true (sym e))
none_of false x e = refl

no_unit : (a b c : ℕ) → code_unit a b c 0 ≡ None
unfolding code_unit
no_unit a b c = none_of (is_digit a 16 && is_digit b 16 && is_digit c 16 && false) _ (and_right (is_digit a 16 && is_digit b 16 && is_digit c 16) false refl)

cond_meant : (b : Bool) (x y : Option (List ℕ)) (r s : Read) → x ≡ meant r → y ≡ meant s → cond b x y ≡ meant (cond b r s)
cond_meant true x y r s p q = p
cond_meant false x y r s p q = q

short_ascii : (x c : ℕ) → short_escape x ≡ Some c → c < 128
unfolding short_escape
short_ascii x c e = grind arith

short_meant : (xs : List ℕ) (o : Option ℕ) → ((c : ℕ) → o ≡ Some c → c < 128) → option_and_then (λ c. prepend (c ∷ []) (content plain xs)) o ≡ meant (option_map (λ c. (c, xs)) o)
short_meant xs None small = refl
short_meant xs (Some c) small = ap (λ (t : List ℕ). prepend t (content plain xs)) (sym (encode_ascii c (small c refl)))

pair_meant : (h l : ℕ) (xs : List ℕ) → cond (is_low_surrogate l) (prepend (encode_utf8 (surrogate_pair h l)) (content plain xs)) None ≡ meant (pair_of h (l, xs))
pair_meant h l xs = cond_meant (is_low_surrogate l) _ None (Some (surrogate_pair h l, xs)) None refl refl

pairs_meant : (h : ℕ) (xs : List ℕ) (o : Option ℕ) → option_and_then (λ l. cond (is_low_surrogate l) (prepend (encode_utf8 (surrogate_pair h l)) (content plain xs)) None) o
    ≡ meant (option_and_then (pair_of h) (option_map (λ l. (l, xs)) o))
pairs_meant h xs None = refl
pairs_meant h xs (Some l) = pair_meant h l xs

none_meant : (b : Bool) (h : ℕ) (o : Option ℕ) (rest : List ℕ) → o ≡ None → None ≡ meant (cond b (option_and_then (pair_of h) (option_map (λ l. (l, rest)) o)) None)
none_meant true h o rest e = ap (λ (o : Option ℕ). meant (option_and_then (pair_of h) (option_map (λ l. (l, rest)) o))) (sym e)
none_meant false h o rest e = refl

high_meant : (h : ℕ) (text : List ℕ) → content (after_high h) text ≡ meant (low_half_at h text)
unfolding content low_half_at unit_at
high_meant h [] = refl
high_meant h (s ∷ []) = ap (λ (t : Bool). meant (cond t (option_and_then (pair_of h) (unit_at [])) None)) (sym (and_right (s == 92) false refl))
high_meant h (s ∷ u ∷ []) = none_meant _ h _ _ (no_unit 0 0 0)
high_meant h (s ∷ u ∷ a ∷ []) = none_meant _ h _ _ (no_unit a 0 0)
high_meant h (s ∷ u ∷ a ∷ b ∷ []) = none_meant _ h _ _ (no_unit a b 0)
high_meant h (s ∷ u ∷ a ∷ b ∷ c ∷ []) = none_meant _ h _ _ (no_unit a b c)
high_meant h (s ∷ u ∷ a ∷ b ∷ c ∷ d ∷ xs) =
    cond_meant ((s == 92) && (u == 117)) _ None (option_and_then (pair_of h) (option_map (λ l. (l, xs)) (code_unit a b c d))) None (pairs_meant h xs (code_unit a b c d)) refl

unit_meant : (xs : List ℕ) (o : Option ℕ)
    → option_and_then (λ u. cond (is_high_surrogate u) (content (after_high u) xs) (cond (is_low_surrogate u) None (prepend (encode_utf8 u) (content plain xs)))) o
    ≡ meant (option_and_then character_of (option_map (λ u. (u, xs)) o))
unit_meant xs None = refl
unit_meant xs (Some u) =
    cond_meant (is_high_surrogate u) _ _ (low_half_at u xs) (cond (is_low_surrogate u) None (Some (u, xs))) (high_meant u xs)
    (cond_meant (is_low_surrogate u) None _ None (Some (u, xs)) refl refl)

no_unit_meant : (o : Option ℕ) (rest : List ℕ) → o ≡ None → None ≡ meant (option_and_then character_of (option_map (λ u. (u, rest)) o))
no_unit_meant o rest e = ap (λ (o : Option ℕ). meant (option_and_then character_of (option_map (λ u. (u, rest)) o))) (sym e)

units_meant : (text : List ℕ) → content after_u text ≡ meant (option_and_then character_of (unit_at text))
unfolding content unit_at
units_meant [] = no_unit_meant _ _ (no_unit 0 0 0)
units_meant (a ∷ []) = no_unit_meant _ _ (no_unit a 0 0)
units_meant (a ∷ b ∷ []) = no_unit_meant _ _ (no_unit a b 0)
units_meant (a ∷ b ∷ c ∷ []) = no_unit_meant _ _ (no_unit a b c)
units_meant (a ∷ b ∷ c ∷ d ∷ xs) = unit_meant xs (code_unit a b c d)

pub escape_content : (text : List ℕ) → content after_backslash text ≡ meant (escaped_at text)
unfolding content escaped_at short_escape
escape_content [] = refl
escape_content (x ∷ xs) =
    cond_meant (x == 117) _ _ (option_and_then character_of (unit_at xs)) (option_map (λ c. (c, xs)) (short_escape x)) (units_meant xs)
    (short_meant xs (short_escape x) (short_ascii x))

-- ---- where the string ends

passes : (o s : Bool) (x : ℕ) (xs : List ℕ) (k : Mode → List Lexeme) → lex_byte in_string (cond o operator (cond s space other)) x xs k ≡ k in_string
passes true s x xs k = refl
passes false true x xs k = refl
passes false false x xs k = refl

lex_plain : (x : ℕ) (xs : List ℕ) → (x == 34) ≡ false → (x == 92) ≡ false → lex in_string (x ∷ xs) ≡ lex in_string xs
unfolding lex
lex_plain x xs q b =
    (λ i. lex_byte in_string (cond (q i) quote (cond (b i) backslash (cond (is_operator x) operator (cond (is_space x) space other)))) x xs (λ n. lex n xs))
    ∙ passes (is_operator x) (is_space x) x xs (λ n. lex n xs)

not_this : (c x : ℕ) (t : Bool) → (t ≡ true → x ≡ c) → is_digit c 16 ≡ false → is_digit x 16 ≡ true → t ≡ false
not_this c x false e never h = refl
not_this c x true e never h = absurd (false≢true (sym never ∙ ap (λ y. is_digit y 16) (sym (e refl)) ∙ h))

lex_hex : (x : ℕ) (xs : List ℕ) → is_digit x 16 ≡ true → lex in_string (x ∷ xs) ≡ lex in_string xs
lex_hex x xs h = lex_plain x xs (not_this 34 x (x == 34) (eqb-true x 34) refl h) (not_this 92 x (x == 92) (eqb-true x 92) refl h)

-- the string goes on behind what was read
record GoesOn (text rest : List ℕ) : Type 0 where
  lexed : lex in_string text ≡ lex in_string rest
  shorter : length rest ≤ length text

lex_unit : (a b c d u : ℕ) (xs : List ℕ) → code_unit a b c d ≡ Some u → GoesOn (a ∷ b ∷ c ∷ d ∷ xs) xs
unfolding code_unit
lex_unit a b c d u xs e =
    let h = (cond_some (is_digit a 16 && is_digit b 16 && is_digit c 16 && is_digit d 16) _ u e).0 in
    let p = and_parts (is_digit a 16 && is_digit b 16 && is_digit c 16) (is_digit d 16) h in
    let q = and_parts (is_digit a 16 && is_digit b 16) (is_digit c 16) p.0 in
    let r = and_parts (is_digit a 16) (is_digit b 16) q.0 in
    let all = lex_hex a (b ∷ c ∷ d ∷ xs) r.0 ∙ lex_hex b (c ∷ d ∷ xs) r.1 ∙ lex_hex c (d ∷ xs) q.1 ∙ lex_hex d xs p.1 in
    record { lexed = all; shorter = omega arith }

no_read : {P : Type 0} (o : Option ℕ) (xs : List ℕ) (r : ℕ × List ℕ) → o ≡ None → option_map (λ u. (u, xs)) o ≡ Some r → P
no_read o xs r none e = absurd (none-some r (sym (ap (option_map (λ u. (u, xs))) none) ∙ e))

goes_behind : (text : List ℕ) (r : ℕ × List ℕ) → unit_at text ≡ Some r → GoesOn text r.1
unfolding unit_at
goes_behind [] r e = no_read _ _ r (no_unit 0 0 0) e
goes_behind (a ∷ []) r e = no_read _ _ r (no_unit a 0 0) e
goes_behind (a ∷ b ∷ []) r e = no_read _ _ r (no_unit a b 0) e
goes_behind (a ∷ b ∷ c ∷ []) r e = no_read _ _ r (no_unit a b c) e
goes_behind (a ∷ b ∷ c ∷ d ∷ xs) r e =
    let m = map_some (λ u. (u, xs)) (code_unit a b c d) r e in
    subst (λ (r : ℕ × List ℕ). GoesOn (a ∷ b ∷ c ∷ d ∷ xs) r.1) m.2 (lex_unit a b c d m.0 xs m.1)

then_on : (x y z : List ℕ) → GoesOn x y → GoesOn y z → GoesOn x z
then_on x y z p q = record { lexed = p.lexed ∙ q.lexed; shorter = omega (arith, p.shorter, q.shorter) }

pair_rest : (h : ℕ) (low r : ℕ × List ℕ) → pair_of h low ≡ Some r → r.1 ≡ low.1
pair_rest h low r e = ap (λ (r : ℕ × List ℕ). r.1) (sym (cond_some (is_low_surrogate low.0) _ r e).1)

begins_escape : (s u : ℕ) (xs : List ℕ) → s ≡ 92 → GoesOn (s ∷ u ∷ xs) xs
unfolding lex
begins_escape s u xs e = subst (λ (s : ℕ). GoesOn (s ∷ u ∷ xs) xs) (sym e) (record { lexed = refl; shorter = omega arith })

goes_behind_pair : (h : ℕ) (text : List ℕ) (r : ℕ × List ℕ) → low_half_at h text ≡ Some r → GoesOn text r.1
unfolding low_half_at
goes_behind_pair h [] r e = absurd cc
goes_behind_pair h (s ∷ []) r e =
    elim (chosen ((s == 92) && false) _ _ _ e) [
      | inl t ↦ absurd (false≢true (both_true (s == 92) false t.0).1)
      | inr t ↦ absurd (none-some r t.1)
    ]
goes_behind_pair h (s ∷ u ∷ xs) r e =
    let b = chosen ((s == 92) && (u == 117)) _ _ _ e in
    elim b [
      | inl t ↦
          let low = and_then_some (pair_of h) (unit_at xs) r t.1 in
          let here = begins_escape s u xs (eqb-true s 92 (both_true (s == 92) _ t.0).0) in
          let rest = subst (λ (rest : List ℕ). GoesOn xs rest) (sym (pair_rest h low.0 r low.2)) (goes_behind xs low.0 low.1) in
          then_on (s ∷ u ∷ xs) xs r.1 here rest
      | inr t ↦ absurd (none-some r t.1)
    ]

goes_behind_character : (unit r : ℕ × List ℕ) → character_of unit ≡ Some r → GoesOn unit.1 r.1
goes_behind_character unit r e =
    elim (chosen (is_high_surrogate unit.0) _ _ _ e) [
      | inl t ↦ goes_behind_pair unit.0 unit.1 r t.1
      | inr t ↦ elim (chosen (is_low_surrogate unit.0) _ _ _ t.1) [
        | inl t ↦ absurd (none-some r t.1)
        | inr t ↦ subst (λ (r : ℕ × List ℕ). GoesOn unit.1 r.1) (same_Some _ _ t.1) (record { lexed = refl; shorter = omega arith })
      ]
    ]

-- an escape that was read, with its backslash
pub record Follows (text rest : List ℕ) : Type 0 where
  pub lexed : lex in_escape text ≡ lex in_string rest
  pub shorter : length rest < length text

follows : (x : ℕ) (xs rest : List ℕ) → GoesOn xs rest → Follows (x ∷ xs) rest
unfolding lex
follows x xs rest g = record { lexed = g.lexed; shorter = omega (arith, g.shorter) }

pub escape_follows : (text : List ℕ) (r : ℕ × List ℕ) → escaped_at text ≡ Some r → Follows text r.1
unfolding escaped_at short_escape
escape_follows [] r e = absurd cc
escape_follows (x ∷ xs) r e =
    elim (chosen (x == 117) _ _ _ e) [
      | inl t ↦
          let unit = and_then_some character_of (unit_at xs) r t.1 in
          follows x xs r.1 (then_on xs unit.0.1 r.1 (goes_behind xs unit.0 unit.1) (goes_behind_character unit.0 r unit.2))
      | inr t ↦
          let m = map_some (λ c. (c, xs)) (short_escape x) r t.1 in
          subst (λ (r : ℕ × List ℕ). Follows (x ∷ xs) r.1) m.2 (follows x xs xs (record { lexed = refl; shorter = omega arith }))
    ]

-- ---- bytes that stand for themselves

content_byte : (b : ℕ) (text : List ℕ) → is_unescaped b ≡ true → content plain (b ∷ text) ≡ prepend (b ∷ []) (content plain text)
unfolding content
content_byte b text h =
    let i = unescaped_is b h in
    λ j. cond (i.0 j) (Some []) (cond (i.1 j) (content after_backslash text) (cond (printable b h j) None (prepend (b ∷ []) (content plain text))))

pub run_content : (text : List ℕ) → content plain text ≡ prepend (prefix_while is_unescaped text) (content plain (rest_while is_unescaped text))
run_content [] = sym (prepend-nil _)
run_content (b ∷ text) = by (is_unescaped b) refl (run_content text)
  where
    by : (v : Bool) → is_unescaped b ≡ v → content plain text ≡ prepend (prefix_while is_unescaped text) (content plain (rest_while is_unescaped text))
        → content plain (b ∷ text) ≡ prepend (cond v (b ∷ prefix_while is_unescaped text) []) (content plain (cond v (rest_while is_unescaped text) (b ∷ text)))
    by true e others = content_byte b text e ∙ ap (prepend (b ∷ [])) others ∙ prepend-prepend (b ∷ []) _ _
    by false e others = sym (prepend-nil _)

pub run_lexed : (text : List ℕ) → lex in_string text ≡ lex in_string (rest_while is_unescaped text)
run_lexed [] = refl
run_lexed (b ∷ text) = by (is_unescaped b) refl (run_lexed text)
  where
    by : (v : Bool) → is_unescaped b ≡ v → lex in_string text ≡ lex in_string (rest_while is_unescaped text) → lex in_string (b ∷ text) ≡ lex in_string (cond v (rest_while is_unescaped text) (b ∷ text))
    by true e others = let i = unescaped_is b e in lex_plain b text i.0 i.1 ∙ others
    by false e others = refl

-- ---- as far as was read

-- text is what was read of inside, and rest is what is left of it
pub record SoFar (inside text rest : List ℕ) : Type 0 where
  pub read : content plain inside ≡ prepend text (content plain rest)
  pub lexed : lex in_string inside ≡ lex in_string rest

pub so_far_start : (inside : List ℕ) → SoFar inside [] inside
so_far_start inside = record { read = sym (prepend-nil _); lexed = refl }

pub so_far_run : (inside text rest stop run : List ℕ) → SoFar inside text rest → stop ≡ rest_while is_unescaped rest → run ≡ take (length rest - length stop) rest → SoFar inside (text ++ run) stop
so_far_run inside text rest stop run s here cut =
    let cut_here : prefix_while is_unescaped rest ≡ run = sym (cut ∙ content_is_prefix rest stop here) in
    let read = s.read ∙ ap (prepend text) (run_content rest) ∙ prepend-prepend text (prefix_while is_unescaped rest) (content plain (rest_while is_unescaped rest)) in
    let all : SoFar inside (text ++ prefix_while is_unescaped rest) (rest_while is_unescaped rest) = record { read = read; lexed = s.lexed ∙ run_lexed rest } in
    subst (λ (stop : List ℕ). SoFar inside (text ++ run) stop) (sym here) (subst (λ (run : List ℕ). SoFar inside (text ++ run) (rest_while is_unescaped rest)) cut_here all)

at_mark : (rest : List ℕ) → content plain (34 ∷ rest) ≡ Some []
unfolding content
at_mark rest = refl

lexed_mark : (rest : List ℕ) → lex in_string (34 ∷ rest) ≡ lex between rest
unfolding lex
lexed_mark rest = refl

at_backslash : (rest : List ℕ) → content plain (92 ∷ rest) ≡ content after_backslash rest
unfolding content
at_backslash rest = refl

lexed_backslash : (rest : List ℕ) → lex in_string (92 ∷ rest) ≡ lex in_escape rest
unfolding lex
lexed_backslash rest = refl

pub found_text : (inside text stop : List ℕ) → SoFar inside text stop → first stop ≡ 34 → content plain inside ≡ Some text
found_text inside text stop s here =
    let opened = with_first 34 stop (omega arith) here in
    s.read ∙ ap (prepend text) (ap (content plain) opened ∙ at_mark (drop 1 stop)) ∙ ap Some (append-nil text)

pub found_rest : (inside text stop : List ℕ) → SoFar inside text stop → first stop ≡ 34 → ClosesBefore inside (drop 1 stop)
found_rest inside text stop s here =
    let opened = with_first 34 stop (omega arith) here in
    s.lexed ∙ ap (lex in_string) opened ∙ lexed_mark (drop 1 stop)

no_content : (rest : List ℕ) → first (rest_while is_unescaped rest) ≢ 34 → first (rest_while is_unescaped rest) ≢ 92 → content plain (rest_while is_unescaped rest) ≡ None
unfolding content
no_content [] q b = refl
no_content (x ∷ rest) q b = by (is_unescaped x) refl (no_content rest) q b
  where
    other : (x : ℕ) → is_unescaped x ≡ false → x ≢ 34 → x ≢ 92 → content plain (x ∷ rest) ≡ None
    other x e q b =
        let mark = ne_eqb x 34 q in
        let slash = ne_eqb x 92 b in
        let low : nat_lt x 32 ≡ true = elim (and_cases (leb 32 x) _ e) [
          | inl e ↦ lt-ltb x 32 (leb-false 32 x e)
          | inr e ↦ elim (and_cases (not (x == 34)) (not (x == 92)) e) [
            | inl e ↦ absurd (q (eqb-true x 34 (not-false (x == 34) e)))
            | inr e ↦ absurd (b (eqb-true x 92 (not-false (x == 92) e)))
          ]
        ] in
        λ j. cond (mark j) (Some []) (cond (slash j) (content after_backslash rest) (cond (low j) None (prepend (x ∷ []) (content plain rest))))

    by : (v : Bool) → is_unescaped x ≡ v → (first (rest_while is_unescaped rest) ≢ 34 → first (rest_while is_unescaped rest) ≢ 92 → content plain (rest_while is_unescaped rest) ≡ None)
        → first (cond v (rest_while is_unescaped rest) (x ∷ rest)) ≢ 34 → first (cond v (rest_while is_unescaped rest) (x ∷ rest)) ≢ 92 → content plain (cond v (rest_while is_unescaped rest) (x ∷ rest)) ≡ None
    by true e others q b = others q b
    by false e others q b = other x e q b

nothing_more : (inside text stop : List ℕ) → SoFar inside text stop → content plain stop ≡ None → content plain inside ≡ None
nothing_more inside text stop s e = s.read ∙ ap (prepend text) e

pub found_stop : (inside text rest stop : List ℕ) → SoFar inside text stop → stop ≡ rest_while is_unescaped rest → first stop ≢ 34 → first stop ≢ 92 → content plain inside ≡ None
found_stop inside text rest stop s here q b =
    let none : content plain stop ≡ None = subst (λ (t : List ℕ). first t ≢ 34 → first t ≢ 92 → content plain t ≡ None) (sym here) (no_content rest) q b in
    nothing_more inside text stop s none

escape_here : (stop : List ℕ) → first stop ≡ 92 → content plain stop ≡ meant (escaped_at (drop 1 stop))
escape_here stop here =
    ap (content plain) (with_first 92 stop (omega arith) here) ∙ at_backslash (drop 1 stop) ∙ escape_content (drop 1 stop)

pub found_fault : (inside text stop : List ℕ) → SoFar inside text stop → first stop ≡ 92 → escaped_at (drop 1 stop) ≡ None → content plain inside ≡ None
found_fault inside text stop s here e = nothing_more inside text stop s (escape_here stop here ∙ ap meant e)

pub so_far_escape : (inside text stop rest : List ℕ) (c : ℕ) → SoFar inside text stop → first stop ≡ 92 → escaped_at (drop 1 stop) ≡ Some (c, rest) → SoFar inside (text ++ encode_utf8 c) rest
so_far_escape inside text stop rest c s here e =
    let f = escape_follows (drop 1 stop) (c, rest) e in
    let read = s.read ∙ ap (prepend text) (escape_here stop here ∙ ap meant e) ∙ prepend-prepend text (encode_utf8 c) (content plain rest) in
    let lexed = s.lexed ∙ ap (lex in_string) (with_first 92 stop (omega arith) here) ∙ lexed_backslash (drop 1 stop) ∙ f.lexed in
    record { read = read; lexed = lexed }

pub escape_shortens : (stop rest : List ℕ) (c : ℕ) → escaped_at (drop 1 stop) ≡ Some (c, rest) → length rest < length stop
escape_shortens stop rest c e =
    let f = escape_follows (drop 1 stop) (c, rest) e in
    omega (arith, f.shorter, length-drop 1 stop)

-- ---- texts that are too short

pub unit_short : (text : List ℕ) → length text < 4 → unit_at text ≡ None
unfolding unit_at
unit_short [] h = ap (option_map (λ (u : ℕ). (u, drop 4 []))) (no_unit 0 0 0)
unit_short (a ∷ []) h = ap (option_map (λ (u : ℕ). (u, drop 4 (a ∷ [])))) (no_unit a 0 0)
unit_short (a ∷ b ∷ []) h = ap (option_map (λ (u : ℕ). (u, drop 4 (a ∷ b ∷ [])))) (no_unit a b 0)
unit_short (a ∷ b ∷ c ∷ []) h = ap (option_map (λ (u : ℕ). (u, drop 4 (a ∷ b ∷ c ∷ [])))) (no_unit a b c)
unit_short (a ∷ b ∷ c ∷ d ∷ xs) h = absurd (omega arith)

pub escaped_short : (text : List ℕ) → length text < 1 → escaped_at text ≡ None
unfolding escaped_at short_escape
escaped_short [] h = refl
escaped_short (x ∷ xs) h = absurd (omega arith)

-- ---- the whole string

-- the string's text is what serde_json reads
pub whole_says : (inside text : List ℕ) → content plain inside ≡ Some text → ClosesBefore inside [] → decoded (34 ∷ inside) ≡ Some text
unfolding lex punctuate value
whole_says inside text read closed =
    λ i. option_and_then text_of_data (option_and_then of_json (option_and_then (λ p. if_last p.0 p.1) (value max_depth (punctuate fresh (token (string_token (read i)) ∷ closed i)))))

-- a string with a fault says nothing
pub fault_says : (inside : List ℕ) → content plain inside ≡ None → decoded (34 ∷ inside) ≡ None
unfolding lex punctuate value
fault_says inside read =
    λ i. option_and_then text_of_data (option_and_then of_json (option_and_then (λ p. if_last p.0 p.1) (value max_depth (punctuate fresh (token (string_token (read i)) ∷ lex in_string inside)))))

pub opened_says : (s text : List ℕ) → first s ≡ 34 → content plain (drop 1 s) ≡ Some text → ClosesBefore (drop 1 s) [] → decoded s ≡ Some text
opened_says s text here read closed = ap decoded (with_first 34 s (omega arith) here) ∙ whole_says (drop 1 s) text read closed

pub opened_faults : (s : List ℕ) → first s ≡ 34 → content plain (drop 1 s) ≡ None → decoded s ≡ None
opened_faults s here read = ap decoded (with_first 34 s (omega arith) here) ∙ fault_says (drop 1 s) read

pub closed_says : (s text rest : List ℕ) → first s ≡ 34 → content plain (drop 1 s) ≡ Some text → ClosesBefore (drop 1 s) rest → length rest ≡ 0 → decoded s ≡ Some text
closed_says s text rest here read closed none = opened_says s text here read (subst (ClosesBefore (drop 1 s)) (no_length rest none) closed)
