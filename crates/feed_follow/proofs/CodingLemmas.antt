-- How fields are read one by one.
use Rattle.std.proofs.Common.{◌≡◌, ℕ, ◌+◌, ◌-◌, ◌*◌, ◌^◌, ◌<◌, ◌≤◌, ◌&&◌, ◌||◌, Bool, true, false, not, List, [], ◌∷◌, ◌++◌, length, take, drop, get_or, map, refl, sym, ap, ◌∙◌, inl, inr, lit<, arith, add-one}
use Rattle.std.specs.Prelude.{◌==◌, nat_lt, nat_le, if◌then◌else◌, Result, Ok, Err, codes}
use Rattle.std.specs.List.{list_all}
use Rattle.std.specs.Char.{is_ascii_digit, digit_value}
use Rattle.std.specs.Str.Parse.{digits_value}
use Rattle.std.proofs.Math.Nat.{pow-le-pow_right, pow-succ'}
use Rattle.std.proofs.lemmas.Bool.{and_right, cases_Bool}
use Rattle.std.proofs.lemmas.Bool.Decides.{nat_tests}
use Rattle.std.proofs.lemmas.List.{take_more, drop_more, drop_all}
use Rattle.std.proofs.lemmas.List.Folds.{list_all_more, list_all_at}
use Rattle.httparse.specs.declared.borrowed.Header.{Header}
use Rattle.httparse.specs.Borrowed.{header_parts}
use Rattle.httparse.proofs.ChunkLemmas.{digits_value_after_push}
use Rattle.feed_follow.specs.declared.fault.FollowFault.{FollowFault}
use Rattle.feed_follow.specs.declared.fault.FollowFault.TheVariants.{BadCoding, BadLength}
use Rattle.feed_follow.specs.declared.coding.BodyFraming.{BodyFraming}
use Rattle.feed_follow.specs.declared.coding.BodyFraming.TheVariants.{ToEnd, Sized, InChunks}
use Rattle.feed_follow.specs.Fields.{by_length, by_coding}
use Rattle.feed_follow.specs.Coding.{is_word, values_of, is_length, says_length, framing_by_length, framing_by_transfer, body_framing}

-- ---- a length

pub decimal_room : (n length : ℕ) → length < 10 ^ n → n < 18 → length * 10 + 10 ≤ 2 ^ 64
decimal_room n length small few =
    let within : n ≤ 17 = omega arith in
    let wide : 10 ^ n ≤ 10 ^ 17 = pow-le-pow_right (lit< tt) within in
    omega arith

-- what a digit is worth
pub digit_is : (b : ℕ) → is_ascii_digit b ≡ true → 48 ≤ b → b ≤ 57 → digit_value b ≡ b - 48
digit_is b h low high = grind (arith, nat_tests)

-- the digits so far, and the number that they give
pub record AreDigits (text : List ℕ) (n number : ℕ) : Type 0 where
  pub digits : list_all is_ascii_digit (take n text) ≡ true
  pub value : number ≡ digits_value 10 (take n text)
  pub small : number < 10 ^ n

pub more_digits : (text : List ℕ) (n number digit : ℕ) (within : n < length text)
    → AreDigits text n number → is_ascii_digit (get_or text n 0) ≡ true
    → digit ≡ digit_value (get_or text n 0) → digit < 10
    → AreDigits text (n + 1) (number * 10 + digit)
more_digits text n number digit within so_far is worth few =
    let more : take (n + 1) text ≡ take n text ++ get_or text n 0 ∷ [] =
    take_more text n 0 within in
    let wide : 10 ^ (n + 1) ≡ 10 * 10 ^ n = ap (λ k. 10 ^ k) (add-one n) ∙ pow-succ' 10 n in
    let small = so_far.small in
    record {
      digits = list_all_more is_ascii_digit text n 0 within
          ∙ ap (λ b. b && is_ascii_digit (get_or text n 0)) so_far.digits ∙ is;
      value = ap (λ k. k * 10 + digit) so_far.value
          ∙ ap (λ k. digits_value 10 (take n text) * 10 + k) worth
          ∙ sym (digits_value_after_push 10 0 (take n text) (get_or text n 0))
          ∙ ap (digits_value 10) (sym more);
      small = omega arith;
    }

-- text with another byte is no length
pub other_byte : (text : List ℕ) (n : ℕ) → n < length text
    → is_ascii_digit (get_or text n 0) ≡ false → is_length text ≡ false
other_byte text n within h =
    let none : list_all is_ascii_digit text ≡ false = list_all_at is_ascii_digit text n 0 within
    h in
    rw none (and_right (nat_lt 0 (length text) && nat_le (length text) 18) false refl)

pub is_whole_length : (text : List ℕ) → 0 < length text → length text ≤ 18
    → list_all is_ascii_digit text ≡ true → is_length text ≡ true
is_whole_length text some few digits =
    let a : nat_lt 0 (length text) ≡ true = grind (arith, nat_tests) in
    let b : nat_le (length text) 18 ≡ true = grind (arith, nat_tests) in
    rw digits (rw a (rw b refl))

-- ---- the lengths of a head, one after the other

-- what a step says, and then the rest
abbrev pub and_then : {X Y : Type 0} → Result X FollowFault → (X → Result Y FollowFault)
    → Result Y FollowFault
and_then (Ok x) f = f x
and_then (Err fault) f = Err fault

-- the framing by these lengths behind earlier ones that gave this
abbrev pub by_lengths : BodyFraming → List (List ℕ) → Result BodyFraming FollowFault
by_lengths framing [] = Ok framing
by_lengths framing (text ∷ texts) = and_then (by_length framing text)
    (λ next. by_lengths next texts)

by_same : (n : ℕ) (values : List (List ℕ))
    → by_lengths (Sized n)
    values ≡ (if list_all (says_length n) values then Ok (Sized n) else Err BadLength)
by_same n [] = refl
by_same n (value ∷ values) =
    elim (cases_Bool (says_length n value)) [
      | inl h ↦ rw h (by_same n values)
      | inr h ↦ rw h refl
    ]

same_number : (n : ℕ) → (n == n) ≡ true
same_number n = grind (arith, nat_tests)

pub by_all : (values : List (List ℕ)) → framing_by_length values ≡ by_lengths ToEnd values
by_all [] = refl
by_all (value ∷ values) =
    elim (cases_Bool (is_length value)) [
      | inl h ↦ rw h (rw (same_number (digits_value 10 value))
          (sym (by_same (digits_value 10 value) values)))
      | inr h ↦ rw h refl
    ]

-- the same by fields
abbrev pub lengths_of : BodyFraming → List (List ℕ × List ℕ) → Result BodyFraming FollowFault
lengths_of framing fields = by_lengths framing (values_of (codes "content-length") fields)

-- ---- the codings of a head

-- whether the body is chunked by these fields behind earlier ones that said this
abbrev pub by_codings : Bool → List (List ℕ × List ℕ) → Result Bool FollowFault
by_codings is_chunked [] = Ok is_chunked
by_codings is_chunked (f ∷ fields) = and_then (by_coding is_chunked f)
    (λ next. by_codings next fields)

-- by the values of Transfer-Encoding alone
abbrev by_transfers : Bool → List (List ℕ) → Result Bool FollowFault
by_transfers is_chunked [] = Ok is_chunked
by_transfers true (value ∷ values) = Err BadCoding
by_transfers false (value ∷ values) = if is_word (codes "chunked") value then by_transfers true
    values else Err BadCoding

-- the codings of the content, and then those of the transfer
abbrev by_parts : Bool → List (List ℕ × List ℕ) → Result Bool FollowFault
by_parts is_chunked fields =
    if not (list_all (is_word (codes "identity"))
    (values_of (codes "content-encoding") fields)) then Err BadCoding
    else by_transfers is_chunked (values_of (codes "transfer-encoding") fields)

if_same : {X : Type 0} (b : Bool) (x : X) → (if b then x else x) ≡ x
if_same true x = refl
if_same false x = refl

-- a field of the transfer, where the rest is known
module _ (f : List ℕ × List ℕ) (fields : List (List ℕ × List ℕ)) (known : (is_chunked : Bool)
    → by_codings is_chunked fields ≡ by_parts is_chunked fields) where
  chunks_more : (is_chunked : Bool)
      → and_then (if is_chunked || not (is_word (codes "chunked") f.1) then Err BadCoding else Ok
      true) (λ next. by_codings next fields)
      ≡ (if not (list_all (is_word (codes "identity"))
      (values_of (codes "content-encoding") fields)) then Err BadCoding else by_transfers
      is_chunked (f.1 ∷ values_of (codes "transfer-encoding") fields))
  chunks_more true = sym
      (if_same (not (list_all (is_word (codes "identity"))
      (values_of (codes "content-encoding") fields))) (Err BadCoding))
  chunks_more false =
      elim (cases_Bool (is_word (codes "chunked") f.1)) [
        | inl is ↦ rw is (known true)
        | inr other ↦ rw other
            (sym (if_same (not (list_all (is_word (codes "identity"))
            (values_of (codes "content-encoding") fields))) (Err BadCoding)))
      ]

  transfer_more : (is_chunked : Bool)
      → and_then (if not (is_word (codes "transfer-encoding") f.0) then Ok is_chunked else
      (if is_chunked || not (is_word (codes "chunked") f.1) then Err BadCoding else Ok true))
      (λ next. by_codings next fields)
      ≡ (if not (list_all (is_word (codes "identity"))
      (values_of (codes "content-encoding") fields)) then Err BadCoding else by_transfers
      is_chunked (values_of (codes "transfer-encoding") (f ∷ fields)))
  transfer_more is_chunked =
      elim (cases_Bool (is_word (codes "transfer-encoding") f.0)) [
        | inl is ↦ rw is (chunks_more is_chunked)
        | inr other ↦ rw other (known is_chunked)
      ]

codings_are : (is_chunked : Bool) (fields : List (List ℕ × List ℕ))
    → by_codings is_chunked fields ≡ by_parts is_chunked fields
codings_are is_chunked [] = refl
codings_are is_chunked (f ∷ fields) =
    elim (cases_Bool (is_word (codes "content-encoding") f.0)) [
      | inl content ↦ elim (cases_Bool (is_word (codes "identity") f.1)) [
        | inl same ↦ rw content
            (rw same (transfer_more f fields (λ b. codings_are b fields) is_chunked))
        | inr other ↦ rw content (rw other refl)
      ]
      | inr none ↦ rw none (transfer_more f fields (λ b. codings_are b fields) is_chunked)
    ]

-- how the body is framed where the fields say whether it is chunked
abbrev pub framed_by : List (List ℕ × List ℕ) → Bool → Result BodyFraming FollowFault
framed_by fields true = Ok InChunks
framed_by fields false = framing_by_length (values_of (codes "content-length") fields)

transfers_are : (values lengths : List (List ℕ)) (fields : List (List ℕ × List ℕ))
    → lengths ≡ values_of (codes "content-length") fields
    → framing_by_transfer values lengths ≡ and_then (by_transfers false values) (framed_by fields)
transfers_are [] lengths fields e = ap framing_by_length e
transfers_are (value ∷ []) lengths fields e = elim (cases_Bool (is_word (codes "chunked") value))
    [ inl h ↦ rw h refl | inr h ↦ rw h refl ]
transfers_are (value ∷ (other ∷ values)) lengths fields e = elim
    (cases_Bool (is_word (codes "chunked") value)) [ inl h ↦ rw h refl | inr h ↦ rw h refl ]

pub framing_is : (fields : List (List ℕ × List ℕ))
    → body_framing fields ≡ and_then (by_codings false fields) (framed_by fields)
framing_is fields = parts_are
    ∙ ap (λ (r : Result Bool FollowFault). and_then r (framed_by fields))
    (sym (codings_are false fields))
  where
    parts_are : body_framing fields ≡ and_then (by_parts false fields) (framed_by fields)
    parts_are =
        elim (cases_Bool (list_all (is_word (codes "identity"))
        (values_of (codes "content-encoding") fields))) [
          | inl same ↦ rw same (transfers_are (values_of (codes "transfer-encoding") fields)
              (values_of (codes "content-length") fields) fields refl)
          | inr other ↦ rw other refl
        ]

-- ---- one field more

abbrev pub rest_of : List Header → ℕ → List (List ℕ × List ℕ)
rest_of fields i = map header_parts (drop i fields)

pub no_rest : (fields : List Header) (i : ℕ) → length fields ≤ i → rest_of fields i ≡ []
no_rest fields i all = ap (map header_parts) (drop_all i fields all)

next_field : (fields : List Header) (i : ℕ) (d : Header) (name : List ℕ) → i < length fields
    → name ≡ (get_or fields i d).name.now
    → rest_of fields i ≡ (name, (get_or fields i d).value.now) ∷ rest_of fields (i + 1)
next_field fields i d name within e =
    ap (map header_parts) (drop_more fields i d within)
    ∙ ap (λ (n : List ℕ). (n, (get_or fields i d).value.now) ∷ rest_of fields (i + 1)) (sym e)

pub more_coding : (fields : List Header) (i : ℕ) (d : Header) (is_chunked : Bool) (name : List ℕ)
    → i < length fields → name ≡ (get_or fields i d).name.now
    → by_codings is_chunked (rest_of fields i) ≡ and_then
    (by_coding is_chunked (name, (get_or fields i d).value.now))
    (λ next. by_codings next (rest_of fields (i + 1)))
more_coding fields i d is_chunked name within e = ap (by_codings is_chunked)
    (next_field fields i d name within e)

pub more_length : (fields : List Header) (i : ℕ) (d : Header) (framing : BodyFraming)
    (name : List ℕ)
    → i < length fields → name ≡ (get_or fields i d).name.now
    → is_word (codes "content-length") name ≡ true
    → lengths_of framing (rest_of fields i) ≡ and_then
    (by_length framing (get_or fields i d).value.now)
    (λ next. lengths_of next (rest_of fields (i + 1)))
more_length fields i d framing name within e is = ap (lengths_of framing)
    (next_field fields i d name within e) ∙ rw is refl

pub other_field : (fields : List Header) (i : ℕ) (d : Header) (framing : BodyFraming)
    (name : List ℕ)
    → i < length fields → name ≡ (get_or fields i d).name.now
    → is_word (codes "content-length") name ≡ false
    → lengths_of framing (rest_of fields i) ≡ lengths_of framing (rest_of fields (i + 1))
other_field fields i d framing name within e other = ap (lengths_of framing)
    (next_field fields i d name within e) ∙ rw other refl
