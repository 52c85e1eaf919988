-- Lemmas on the numbers of a line.
use Rattle.std.proofs.Common.{◌≡◌, refl, sym, ap, ◌∙◌, subst, ℕ, ◌+◌, ◌*◌, ◌^◌, ◌<◌, ◌≤◌, Bool, true, false, not, cond, ◌&&◌, true≢false, eqb-true, List, [], ◌∷◌, ◌++◌, length, take, get_or, Option, Some, None, option_map, arith, append_assoc, nat_le, leb-true}
use Rattle.std.specs.Option.{option_and_then}
use Rattle.std.specs.Char.{digit_value, is_ascii_digit}
use Rattle.std.specs.List.{list_all}
use Rattle.std.specs.Str.{all_ascii_digits}
use Rattle.std.specs.Str.Parse.{digits_value}
use Rattle.std.proofs.lemmas.Str.Parse.{IsNumeralModel, numerals_by_value, tells_all_ascii_digits, digits_value_short, digits_value-take-le, digit_at}
use Rattle.std.proofs.lemmas.Str.{digit_value_digit}
use Rattle.std.proofs.lemmas.Int.Digits.{digits_value_more}
use Rattle.std.proofs.lemmas.Bool.{and_from as both}
use Rattle.std.proofs.Math.Bool.{and-false as and_false}
use Rattle.feed_note.specs.Lines.{onto_first}
use Rattle.feed_play.specs.Script.{is_space, is_script_number, script_number, numbers_in, one_of, nodes_in, words}
use Rattle.feed_play.proofs.WordLemmas.{stays, one_word}
use Rattle.feed_text.proofs.Choices.{first_true, second_true}

-- ---- the value of digits

own : IsNumeralModel (λ ds. all_ascii_digits ds ≡ true) (digits_value 10)
own = numerals_by_value (λ ds. all_ascii_digits ds ≡ true) tells_all_ascii_digits

all_digits : (ds : List ℕ) → list_all is_ascii_digit ds ≡ all_ascii_digits ds
all_digits [] = refl
all_digits (d ∷ ds) = ap (λ t. is_ascii_digit d && t) (all_digits ds)

are_digits : (ds : List ℕ) → is_script_number ds ≡ true → all_ascii_digits ds ≡ true
are_digits ds e = sym (all_digits ds) ∙ second_true (nat_le 1 (length ds) && nat_le (length ds) 9) (list_all is_ascii_digit ds) e

few : (ds : List ℕ) → is_script_number ds ≡ true → length ds ≤ 9
few ds e = leb-true _ _ (second_true (nat_le 1 (length ds)) (nat_le (length ds) 9) (first_true (nat_le 1 (length ds) && nat_le (length ds) 9) (list_all is_ascii_digit ds) e))

-- a digit's byte
pub digit : (ds : List ℕ) (i : ℕ) → is_script_number ds ≡ true → i < length ds → digit_value (get_or ds i 0) + 48 ≡ get_or ds i 0
digit ds i e h = digit_value_digit (get_or ds i 0) (digit_at ds i (own.to ds (are_digits ds e)) h)

-- one digit more
pub value_more : (ds : List ℕ) (i : ℕ) → i < length ds → digits_value 10 (take (i + 1) ds) ≡ digits_value 10 (take i ds) * 10 + digit_value (get_or ds i 0)
value_more ds i h = digits_value_more 10 ds i h

-- it stays small
pub value_small : (ds : List ℕ) (i : ℕ) → is_script_number ds ≡ true → i < length ds → digits_value 10 (take i ds) * 10 + digit_value (get_or ds i 0) < 1000000000
value_small ds i e h =
    let whole : digits_value 10 ds < 10 ^ 9 = digits_value_short own ds 9 (are_digits ds e) (few ds e) in
    let part : digits_value 10 (take (i + 1) ds) ≤ digits_value 10 ds = digits_value-take-le 10 ds (i + 1) (omega arith) in
    let next : digits_value 10 (take (i + 1) ds) ≡ digits_value 10 (take i ds) * 10 + digit_value (get_or ds i 0) = value_more ds i h in
    omega arith

-- ---- the numbers of words

-- these numbers, and those behind them
abbrev pub behind : List ℕ → Option (List ℕ) → Option (List ℕ)
behind ns more = option_map (λ ms. ns ++ ms) more

pub starts : (o : Option (List ℕ)) → o ≡ behind [] o
starts None = refl
starts (Some ms) = refl

joins : (ns : List ℕ) (n : ℕ) (o : Option (List ℕ)) → behind ns (option_map (λ ms. n ∷ ms) o) ≡ behind (ns ++ n ∷ []) o
joins ns n None = refl
joins ns n (Some ms) = ap Some (sym (append_assoc ns (n ∷ []) ms))

-- one word more
pub numbers_more : (all : Option (List ℕ)) (ns left word more : List ℕ) (n : ℕ) → all ≡ behind ns (numbers_in (words left))
    → words left ≡ word ∷ words more → script_number word ≡ Some n → all ≡ behind (ns ++ n ∷ []) (numbers_in (words more))
numbers_more all ns left word more n e cut is =
    e ∙ ap (λ ws. behind ns (numbers_in ws)) cut ∙ ap (λ o. behind ns (option_and_then (λ k. option_map (λ ms. k ∷ ms) (numbers_in (words more))) o)) is
    ∙ joins ns n (numbers_in (words more))

-- the last word
pub numbers_last : (all : Option (List ℕ)) (ns left word : List ℕ) (n : ℕ) → all ≡ behind ns (numbers_in (words left))
    → words left ≡ word ∷ [] → script_number word ≡ Some n → all ≡ Some (ns ++ n ∷ [])
numbers_last all ns left word n e cut is =
    e ∙ ap (λ ws. behind ns (numbers_in ws)) cut ∙ ap (λ o. behind ns (option_and_then (λ k. option_map (λ ms. k ∷ ms) (Some [])) o)) is

-- a word that says no number
pub numbers_none : (all : Option (List ℕ)) (ns left word : List ℕ) (more : List (List ℕ)) → all ≡ behind ns (numbers_in (words left))
    → words left ≡ word ∷ more → script_number word ≡ None → all ≡ None
numbers_none all ns left word more e cut is =
    e ∙ ap (λ ws. behind ns (numbers_in ws)) cut ∙ ap (λ o. behind ns (option_and_then (λ k. option_map (λ ms. k ∷ ms) (numbers_in more)) o)) is

-- ---- a number is one word

digit_stays : (b : ℕ) → is_ascii_digit b ≡ true → stays b ≡ true
digit_stays b e = by (is_space b) refl
  where
    by : (t : Bool) → is_space b ≡ t → not t ≡ true
    by true is = absurd (true≢false (sym (subst (λ k. is_ascii_digit k ≡ true) (eqb-true b 32 is) e)))
    by false is = refl

digits_stay : (ds : List ℕ) → list_all is_ascii_digit ds ≡ true → list_all stays ds ≡ true
digits_stay [] e = refl
digits_stay (d ∷ ds) e =
    both (stays d) _ (digit_stays d (first_true (is_ascii_digit d) _ e)) (digits_stay ds (second_true (is_ascii_digit d) _ e))

-- a text with a space says no number
no_number : (t : List ℕ) → list_all stays t ≡ false → script_number t ≡ None
no_number t e = by (list_all is_ascii_digit t) refl
  where
    by : (d : Bool) → list_all is_ascii_digit t ≡ d → script_number t ≡ None
    by true is = absurd (true≢false (sym (digits_stay t is) ∙ e))
    by false is = rw is (rw (and_false (nat_le 1 (length t) && nat_le (length t) 9)) refl)

-- it has two words or more
some_words : (t : List ℕ) → (w : List ℕ) × (ws : List (List ℕ)) × (words t ≡ w ∷ ws)
unfolding words
some_words [] = ([], [], refl)
some_words (b ∷ t) = by (is_space b) refl (some_words t)
  where
    by : (s : Bool) → is_space b ≡ s → (w : List ℕ) × (ws : List (List ℕ)) × (words t ≡ w ∷ ws)
        → (w : List ℕ) × (ws : List (List ℕ)) × (cond s ([] ∷ words t) (onto_first b (words t)) ≡ w ∷ ws)
    by true is (w, ws, e) = ([], words t, refl)
    by false is (w, ws, e) = (b ∷ w, ws, ap (onto_first b) e)

-- more words are behind the word of a framing
pub nodes_long : (a b c d t : List ℕ) → nodes_in (a ∷ b ∷ c ∷ d ∷ words t) ≡ None
nodes_long a b c d t = let (w, ws, some) = some_words t in rw some refl

abbrev HasTwoWords : List (List ℕ) → Type 0
HasTwoWords ws = (w : List ℕ) × (v : List ℕ) × (more : List (List ℕ)) × (ws ≡ w ∷ v ∷ more)

two_words : (t : List ℕ) → list_all stays t ≡ false → HasTwoWords (words t)
unfolding words
two_words [] e = absurd (true≢false e)
two_words (b ∷ t) e = by (is_space b) refl e (λ h. two_words t h)
  where
    by : (s : Bool) → is_space b ≡ s → (not s && list_all stays t) ≡ false → (list_all stays t ≡ false → HasTwoWords (words t)) → HasTwoWords (cond s ([] ∷ words t) (onto_first b (words t)))
    by true is e two = let (w, ws, some) = some_words t in ([], w, ws, ap (λ l. [] ∷ l) some)
    by false is e two = let (w, v, more, some) = two e in (b ∷ w, v, more, ap (onto_first b) some)

none_of_two : (w v : List ℕ) (more : List (List ℕ)) → option_and_then one_of (numbers_in (w ∷ v ∷ more)) ≡ None
none_of_two w v more = by (script_number w) (script_number v) (numbers_in more)
  where
    by : (o p : Option ℕ) (ns : Option (List ℕ))
        → option_and_then one_of (option_and_then (λ n. option_map (λ ms. n ∷ ms) (option_and_then (λ m. option_map (λ ms. m ∷ ms) ns) p)) o) ≡ None
    by None p ns = refl
    by (Some n) None ns = refl
    by (Some n) (Some m) None = refl
    by (Some n) (Some m) (Some ms) = refl

alone : (o : Option ℕ) → o ≡ option_and_then one_of (option_and_then (λ n. option_map (λ ms. n ∷ ms) (Some [])) o)
alone None = refl
alone (Some n) = refl

-- what a text says that is one word, where its words say one number
pub one_number : (t : List ℕ) → script_number t ≡ option_and_then one_of (numbers_in (words t))
one_number t = by (list_all stays t) refl
  where
    by : (s : Bool) → list_all stays t ≡ s → script_number t ≡ option_and_then one_of (numbers_in (words t))
    by true is = alone (script_number t) ∙ sym (ap (λ ws. option_and_then one_of (numbers_in ws)) (one_word t is))
    by false is =
        let (w, v, more, some) = two_words t is in
        no_number t is ∙ sym (ap (λ ws. option_and_then one_of (numbers_in ws)) some ∙ none_of_two w v more)
