-- A request that is written here is read as it was meant.
use Rattle.std.proofs.Common.{◌≡◌, ◌≢◌, refl, sym, ap, ◌∙◌, subst, ℕ, zero, suc, ◌+◌, ◌*◌, ◌/◌, ◌%◌, ◌<◌, ◌≤◌, Bool, true, false, cond, not, ◌&&◌, ◌||◌, ◌==◌, ◌⊎◌, inl, inr, ⊎_elim, List, [], ◌∷◌, ◌++◌, length, take, drop, All, IsUtf8, codes, append_assoc, append-nil, length-append, arith}
use Rattle.std.specs.Prelude.{if◌then◌else◌, Option, Some, None, IfSome, option_map, find, bytes_eq, Ok, Err, Result, nat_lt, nat_le, slice_index}
use Rattle.std.specs.List.{list_all, prefix_len}
use Rattle.std.specs.Str.Lossy.{utf8_lossy}
use Rattle.std.proofs.Math.Seq.{take-append_seam, take-length, drop-append-add}
use Rattle.std.proofs.lemmas.Bool.{cases_lt, cond_both, eq-eqb, and_from as both, ltb-true as under_ascii}
use Rattle.std.proofs.lemmas.Bool.Decides.{nat_tests}
use Rattle.std.proofs.lemmas.List.Folds.{list_all-append}
use Rattle.std.proofs.lemmas.List.Sums.{AllPass-from_list_all, list_all-from_AllPass}
use Rattle.std.proofs.lemmas.List.Elements.{All-weaker, All-nil, All-cons, All-append}
use Rattle.std.proofs.lemmas.Slice.Eq.{bytes_eq-Decides}
use Rattle.std.proofs.Math.Utf8.{scalar, scalars, scalar_cases, encode, encodes}
use Rattle.std.proofs.lemmas.Str.{IsUtf8-from_ascii, utf8_lossy-IsUtf8}
use Rattle.std.proofs.lemmas.Str.Ascii.{IsAscii-from_all}
use Rattle.percent_encoding.specs.Percent.{percent_encode_byte}
use Rattle.form_urlencoded.specs.Form.{split_once, split_pair, raw_pairs, IsPlain, is_unchanged, serialize_byte, byte_serialize}
use Rattle.form_urlencoded.proofs.FormLemmas.{raw_pairs_first, split_once_before_none, split_once_before_at, split_once_after_at, decode_plain, IsSerializedByte, All-byte_serialize, byte_serialize-nil, byte_serialize-cons, decode-byte_serialize}
use Rattle.httparse.specs.Ascii.{crlf_bytes}
use Rattle.httparse.specs.Grammar.{RequestHead, IsRequestHead, Field, IsField, IsToken, crlf, is_token_byte, is_uri_byte, is_value_byte, print_request}
use Rattle.http_uri.specs.declared.uri.Uri.{Uri as Target}
use Rattle.http_uri.specs.Uri.{Spells, uri_path}
use Rattle.http_uri.specs.ByteClasses.{is_path_byte, is_query_byte, is_delimiter, index_of, split_once_front, split_once_back}
use Rattle.http_uri.specs.Grammar.{AllPass, IsPathAndQuery, IsPathInput, or_slash, path_of, without_fragment}
use Rattle.feed_settings.specs.declared.place.PlaceFault.{PlaceFault}
use Rattle.feed_settings.specs.declared.place.PlaceFault.TheVariants.{BadHost, BadBase, BadContest}
use Rattle.feed_settings.specs.Place.{Place, is_alphanumeric_or, is_text_of, is_host, is_base, is_contest}
use Rattle.feed_wire.specs.HeadSizes.{IsHeadSize, line_count}
use Rattle.feed_wire.specs.RequestText.{head_text, feed_path, since_query, request_text}
use Rattle.feed_wire.specs.Asked.{Requests, form_text, parameter, since_token}
use Rattle.feed_wire.specs.RequestLaws.{RequestIsRead}
use Rattle.feed_wire.proofs.ResponseLemmas.{line_count-append}
use Rattle.feed_text.proofs.Choices.{first_true, second_true}

-- ---- two tests

-- ---- tests of bytes

-- each number below n passes the test
abbrev pub all_below : (ℕ → Bool) → ℕ → Bool
all_below test zero = true
all_below test (suc n) = test n && all_below test n

below : (test : ℕ → Bool) (n : ℕ) → all_below test n ≡ true → (b : ℕ) → b < n → test b ≡ true
below test zero h b less = absurd (omega arith)
below test (suc n) h b less = elim (cases_lt b n) [
  | inl under ↦ below test n (second_true (test n) (all_below test n) h) b under
  | inr over ↦ let same : n ≡ b = omega arith in subst (λ k. test k ≡ true) same
      (first_true (test n) (all_below test n) h)
]

-- where one test passes, another one does
passes : (p q : Bool) → (not p || q) ≡ true → p ≡ true → q ≡ true
passes true q h k = h
passes false q h k = let no : ◌≡◌ {A = Bool} false true = k in cc

implied : (p q : ℕ → Bool) → all_below (λ b. not (p b) || q b) 128 ≡ true → (b : ℕ) → b < 128
    → p b ≡ true → q b ≡ true
implied p q table b less h = passes (p b) (q b) (below (λ x. not (p x) || q x) 128 table b less) h

all_weaker : (p q : ℕ → Bool) → ((b : ℕ) → p b ≡ true → q b ≡ true) → (xs : List ℕ)
    → list_all p xs ≡ true → list_all q xs ≡ true
all_weaker p q imply xs h = list_all-from_AllPass q xs
    (All-weaker (λ b. p b ≡ true) (λ b. q b ≡ true) imply xs (AllPass-from_list_all p xs h))

all_joined : (p : ℕ → Bool) (xs ys : List ℕ) → list_all p xs ≡ true → list_all p ys ≡ true
    → list_all p (xs ++ ys) ≡ true
all_joined p xs ys h k = list_all-append p xs ys ∙ both (list_all p xs) (list_all p ys) h k

-- ---- the bytes of a request

-- those of a host
abbrev pub host_byte : ℕ → Bool
host_byte = is_alphanumeric_or (codes ".-:[]")

host_byte_small : (b : ℕ) → host_byte b ≡ true → b < 128
host_byte_small b h = grind (arith, nat_tests)

-- those of the feed's path
abbrev pub feed_byte : ℕ → Bool
feed_byte b = is_alphanumeric_or (codes "._-") b || b == 47

feed_byte_small : (b : ℕ) → feed_byte b ≡ true → b < 128
feed_byte_small b h = grind (arith, nat_tests)

-- those of its query
abbrev pub asking_byte : ℕ → Bool
asking_byte b = is_unchanged b || (b == 43) || (b == 37)

asking_byte_small : (b : ℕ) → asking_byte b ≡ true → b < 128
asking_byte_small b h = grind (arith, nat_tests)

serialized_asking : (b : ℕ) → IsSerializedByte b → asking_byte b ≡ true
serialized_asking b h = ⊎_elim (λ kept. grind (arith, nat_tests))
    (λ other. grind (arith, nat_tests)) h.allowed

-- what the bytes of a target pass
abbrev pub target_byte : ℕ → Bool
target_byte b = is_uri_byte b && nat_lt b 128 && not (b == 35) && not (b == 10)

feed_target : (b : ℕ) → feed_byte b ≡ true
    → (target_byte b && is_path_byte b && not (b == 63)) ≡ true
feed_target b h = implied feed_byte (λ x. target_byte x && is_path_byte x && not (x == 63)) refl b
    (feed_byte_small b h) h

asking_target : (b : ℕ) → asking_byte b ≡ true
    → (target_byte b && is_query_byte b && not (b == 38) && not (b == 61)) ≡ true
asking_target b h = implied asking_byte
    (λ x. target_byte x && is_query_byte x && not (x == 38) && not (x == 61)) refl b
    (asking_byte_small b h) h

host_value : (b : ℕ) → host_byte b ≡ true → (is_value_byte b && not (b == 10)) ≡ true
host_value b h = implied host_byte (λ x. is_value_byte x && not (x == 10)) refl b
    (host_byte_small b h) h

-- ---- texts that are UTF-8

abbrev pub Small : ℕ → Type 0
Small b = b < 256

abbrev two_bytes : ℕ → List ℕ
two_bytes c = (192 + c / 64) ∷ (128 + c % 64) ∷ []

abbrev three_bytes : ℕ → List ℕ
three_bytes c = (224 + c / 4096) ∷ (128 + c / 64 % 64) ∷ (128 + c % 64) ∷ []

abbrev four_bytes : ℕ → List ℕ
four_bytes c = (240 + c / 262144) ∷ (128 + c / 4096 % 64) ∷ (128 + c / 64 % 64) ∷
    (128 + c % 64) ∷ []

small_one : (a : ℕ) → a < 256 → All Small (a ∷ [])
small_one a h = All-cons Small a [] h (All-nil Small)

small_two : (c : ℕ) → c < 2048 → All Small (two_bytes c)
small_two c h = All-cons Small (192 + c / 64) ((128 + c % 64) ∷ []) (omega arith)
    (small_one (128 + c % 64) (omega arith))

small_three : (c : ℕ) → c < 65536 → All Small (three_bytes c)
small_three c h =
    All-cons Small (224 + c / 4096) ((128 + c / 64 % 64) ∷ (128 + c % 64) ∷ []) (omega arith)
    (All-cons Small (128 + c / 64 % 64) ((128 + c % 64) ∷ []) (omega arith)
    (small_one (128 + c % 64) (omega arith)))

small_four : (c : ℕ) → c < 1114112 → All Small (four_bytes c)
small_four c h =
    All-cons Small (240 + c / 262144)
    ((128 + c / 4096 % 64) ∷ (128 + c / 64 % 64) ∷ (128 + c % 64) ∷ []) (omega arith)
    (All-cons Small (128 + c / 4096 % 64) ((128 + c / 64 % 64) ∷ (128 + c % 64) ∷ []) (omega arith)
    (All-cons Small (128 + c / 64 % 64) ((128 + c % 64) ∷ []) (omega arith)
    (small_one (128 + c % 64) (omega arith))))

scalar_small : (c : ℕ) → (c < 55296) ⊎ ((57344 ≤ c) × (c < 1114112)) → c < 1114112
scalar_small c (inl low) = omega arith
scalar_small c (inr high) = high.1

encode_bytes : (c : ℕ) → scalar c ≡ true → All Small (encode c)
unfolding encode
encode_bytes c h =
    cond_both (nat_lt c 128) (c ∷ [])
    (cond (nat_lt c 2048) (two_bytes c) (cond (nat_lt c 65536) (three_bytes c) (four_bytes c)))
    (All Small)
    (λ test. let less = under_ascii c 128 test in small_one c (omega arith))
    (λ _. cond_both (nat_lt c 2048) (two_bytes c)
    (cond (nat_lt c 65536) (three_bytes c) (four_bytes c)) (All Small)
    (λ test. small_two c (under_ascii c 2048 test))
    (λ _. cond_both (nat_lt c 65536) (three_bytes c) (four_bytes c) (All Small)
    (λ test. small_three c (under_ascii c 65536 test))
    (λ _. small_four c (scalar_small c (scalar_cases c h)))))

encodes_bytes : (cs : List ℕ) → scalars cs ≡ true → All Small (encodes cs)
encodes_bytes [] h = All-nil Small
encodes_bytes (c ∷ cs) h =
    All-append Small (encode c) (encodes cs) (encode_bytes c (first_true (scalar c) (scalars cs) h))
    (encodes_bytes cs (second_true (scalar c) (scalars cs) h))

utf8_bytes : (text : List ℕ) → IsUtf8 text → All Small text
utf8_bytes text (cs, (are, spell)) = subst (All Small) spell (encodes_bytes cs are)

-- ---- the token in a query

other_bytes : (k : ℕ) (xs : List ℕ) → list_all (λ b. not (b == k)) xs ≡ true → All (λ b. b ≢ k) xs
other_bytes k xs h = All-weaker (λ b. not (b == k) ≡ true) (λ b. b ≢ k)
    (λ b test same. let e : (b == k) ≡ true = eq-eqb b k same in grind (arith, nat_tests)) xs
    (AllPass-from_list_all (λ b. not (b == k)) xs h)

abbrev pub name : List ℕ
name = codes "since_token"

name_ascii : IsUtf8 name
name_ascii = IsUtf8-from_ascii name
    (IsAscii-from_all name
    (All-weaker (λ b. nat_lt b 128 ≡ true) (λ b. b < 128) (λ b h. grind (arith, nat_tests)) name
    (AllPass-from_list_all (λ b. nat_lt b 128) name refl)))

name_plain : All IsPlain name
name_plain = All-weaker (λ b. (not (b == 43) && not (b == 37)) ≡ true) IsPlain
    (λ b h. (
      λ plus. let e : (b == 43) ≡ true =
          eq-eqb b 43 plus in grind (arith, nat_tests),
      λ percent. let e : (b == 37) ≡ true =
          eq-eqb b 37 percent in grind (arith, nat_tests),
    ))
    name (AllPass-from_list_all (λ b. not (b == 43) && not (b == 37)) name refl)

name_reads : form_text name ≡ name
name_reads = ap utf8_lossy (decode_plain name name_plain) ∙ utf8_lossy-IsUtf8 name name_ascii

value_reads : (token : List ℕ) → IsUtf8 token → form_text (byte_serialize token) ≡ token
value_reads token h = ap utf8_lossy (decode-byte_serialize token (utf8_bytes token h))
    ∙ utf8_lossy-IsUtf8 token h

-- the text of a serialized token
serialized_bytes : (token : List ℕ) → list_all asking_byte (byte_serialize token) ≡ true
serialized_bytes token = list_all-from_AllPass asking_byte (byte_serialize token)
    (All-weaker IsSerializedByte (λ b. asking_byte b ≡ true) serialized_asking
    (byte_serialize token) (All-byte_serialize token))

abbrev pub asking : List ℕ → List ℕ
asking token = name ++ 61 ∷ byte_serialize token

asking_passes : (p : ℕ → Bool) → ((b : ℕ) → asking_byte b ≡ true → p b ≡ true)
    → list_all p name ≡ true → p 61 ≡ true → (token : List ℕ) → list_all p (asking token) ≡ true
asking_passes p imply named equals token =
    all_joined p name (61 ∷ byte_serialize token) named
    (both (p 61) (list_all p (byte_serialize token)) equals
    (all_weaker asking_byte p imply (byte_serialize token) (serialized_bytes token)))

no_ampersand : (b : ℕ) → asking_byte b ≡ true → not (b == 38) ≡ true
no_ampersand b h = implied asking_byte (λ x. not (x == 38)) refl b (asking_byte_small b h) h

found_first : (test : List ℕ × List ℕ → Bool) (pair : List ℕ × List ℕ)
    (pairs : List (List ℕ × List ℕ))
    → test pair ≡ true → find test (pair ∷ pairs) ≡ Some pair
found_first test pair pairs passed = ap (λ b. cond b (Some pair) (find test pairs)) passed

same_bytes : (x y : List ℕ) → x ≡ y → bytes_eq x y ≡ true
same_bytes x y e = (bytes_eq-Decides x y).1 e

one_pair : (token : List ℕ)
    → (rest : List (List ℕ × List ℕ))
    × (raw_pairs (asking token) ≡ split_pair (asking token) ∷ rest)
one_pair token =
    let q = asking token in
    let before : (split_once 38 q).0 ≡ q = split_once_before_none 38 q
    (other_bytes 38 q (asking_passes (λ b. not (b == 38)) no_ampersand refl refl token)) in (
      raw_pairs ((split_once 38 q).1),
      raw_pairs_first q (subst (λ l. 0 < length l) (sym before)
          (omega (arith, length-append name (61 ∷ byte_serialize token))))
          ∙ ap (λ l. split_pair l ∷ raw_pairs ((split_once 38 q).1)) before,
    )

token_asked : (token : List ℕ) → IsUtf8 token → parameter name (asking token) ≡ Some token
token_asked token h =
    let q = asking token in
    let (rest, pairs) = one_pair token in
    let named : (split_pair q).0 ≡ name = split_once_before_at 61 name (byte_serialize token)
    (other_bytes 61 name refl) in
    let valued : (split_pair q).1 ≡ byte_serialize token = split_once_after_at 61 name
    (byte_serialize token) (other_bytes 61 name refl) in
    let test = λ (pair : List ℕ × List ℕ). bytes_eq (form_text pair.0) name in
    let passed : test (split_pair q) ≡ true = same_bytes (form_text ((split_pair q).0)) name
    (ap form_text named ∙ name_reads) in
    ap (λ l. option_map (λ pair. form_text pair.1) (find test l)) pairs
    ∙ ap (λ o. option_map (λ pair. form_text pair.1) o)
    (found_first test (split_pair q) rest passed)
    ∙ ap Some (ap form_text valued ∙ value_reads token h)

-- ---- where a target is cut

prefix_past : (p : ℕ → Bool) (xs ys : List ℕ) → list_all p xs ≡ true
    → prefix_len p (xs ++ ys) ≡ length xs + prefix_len p ys
prefix_past p [] ys h = omega arith
prefix_past p (x ∷ xs) ys h =
    let passed : p x ≡ true = first_true (p x) (list_all p xs) h in
    let more = prefix_past p xs ys (second_true (p x) (list_all p xs) h) in
    ap (λ b. cond b (1 + prefix_len p (xs ++ ys)) 0) passed ∙ omega (arith, more)

prefix_whole : (p : ℕ → Bool) (xs : List ℕ) → list_all p xs ≡ true → prefix_len p xs ≡ length xs
prefix_whole p [] h = refl
prefix_whole p (x ∷ xs) h =
    let passed : p x ≡ true = first_true (p x) (list_all p xs) h in
    let more = prefix_whole p xs (second_true (p x) (list_all p xs) h) in
    ap (λ b. cond b (1 + prefix_len p xs) 0) passed ∙ omega (arith, more)

-- ---- sizes

byte_short : (b : ℕ) → length (serialize_byte b) ≤ 3
unfolding percent_encode_byte
byte_short b =
    cond_both (is_unchanged b) (b ∷ []) (cond (b == 32) (43 ∷ []) (percent_encode_byte b))
    (λ l. length l ≤ 3) (λ _. omega arith)
    (λ _. cond_both (b == 32) (43 ∷ []) (percent_encode_byte b) (λ l. length l ≤ 3)
    (λ _. omega arith) (λ _. omega arith))

serialized_short : (bs : List ℕ) → length (byte_serialize bs) ≤ 3 * length bs
serialized_short [] = rw byte_serialize-nil (omega arith)
serialized_short (b ∷ bs) = rw byte_serialize-cons
    (omega (
      arith,
      length-append (serialize_byte b) (byte_serialize bs),
      byte_short b,
      serialized_short bs,
    ))

no_lines : (xs : List ℕ) → list_all (λ b. not (b == 10)) xs ≡ true → line_count xs ≡ 0
no_lines [] h = refl
no_lines (x ∷ xs) h =
    let other : not (x == 10) ≡ true = first_true (not (x == 10)) (list_all (λ b. not (b == 10)) xs)
    h in
    let no : (x == 10) ≡ false = grind (arith, nat_tests) in
    let one : line_count (x ∷ []) ≡ 0 = ap (λ b. 0 + cond b 1 0) no in
    let more = no_lines xs (second_true (not (x == 10)) (list_all (λ b. not (b == 10)) xs) h) in
    omega (arith, line_count-append (x ∷ []) xs, one, more)

-- ---- the text of a request

abbrev pub field : List ℕ → List ℕ → Field
field named raw = record { name = named; raw = raw; end = crlf }

abbrev pub fields_of : List ℕ → List Field
fields_of host =
    field (codes "Host") (32 ∷ host) ∷ field (codes "Accept")
    (codes " application/x-ndjson") ∷ field (codes "Connection") (codes " close") ∷ []

-- the head for a target at a host
abbrev pub head_for : List ℕ → List ℕ → RequestHead
head_for target host =
    record {
      blank = [];
      method = codes "GET";
      target = target;
      minor = 1;
      line_end = crlf;
      fields =
          fields_of host;
      last = crlf;
    }

-- its parts, grouped to the right
abbrev pub sent : List ℕ → List ℕ → List ℕ
sent target host =
    codes "GET " ++ (target
    ++ (codes " HTTP/1.1\r\nHost: "
    ++ (host ++ codes "\r\nAccept: application/x-ndjson\r\nConnection: close\r\n\r\n")))

three_joined : (a b c d : List ℕ) → ((a ++ b) ++ c) ++ d ≡ a ++ (b ++ (c ++ d))
three_joined a b c d = simp append_assoc

four_joined : (a b c d e : List ℕ) → (((a ++ b) ++ c) ++ d) ++ e ≡ a ++ (b ++ (c ++ (d ++ e)))
four_joined a b c d e = simp append_assoc

abbrev pub behind_target : List ℕ
behind_target = codes " HTTP/1.1\r\nHost: "

abbrev pub behind_host : List ℕ
behind_host = codes "\r\nAccept: application/x-ndjson\r\nConnection: close\r\n\r\n"

abbrev pub last_lines : List ℕ
last_lines = codes "Accept: application/x-ndjson\r\nConnection: close\r\n"

printed : (target host : List ℕ) → print_request (head_for target host) ≡ sent target host
unfolding print_request
printed target host =
    ap (λ l. codes "GET " ++ l)
    (three_joined target (codes " HTTP/1.1") crlf_bytes
    (codes "Host: " ++ (((host ++ crlf_bytes) ++ last_lines) ++ crlf_bytes)))
    ∙ ap (λ l. codes "GET " ++ (target ++ (behind_target ++ l)))
    (three_joined host crlf_bytes last_lines crlf_bytes)

wrote : (path query host : List ℕ)
    → head_text (((codes "GET " ++ path) ++ query ++ codes " HTTP/1.1") ∷ (codes "Host: "
    ++ host) ∷ codes "Accept: application/x-ndjson" ∷ codes "Connection: close" ∷ []) ≡ sent
    (path ++ query) host
wrote path query host =
    ap (λ l. codes "GET " ++ l)
    (four_joined (path ++ query) (codes " HTTP/1.1") crlf_bytes
    (codes "Host: " ++ ((host ++ crlf_bytes) ++ last_lines)) crlf_bytes)
    ∙ ap (λ l. codes "GET " ++ ((path ++ query) ++ (behind_target ++ l)))
    (three_joined host crlf_bytes last_lines crlf_bytes)

text_for : (host base contest : List ℕ) (since : Option (List ℕ)) → base ≡ []
    → request_text (record { host = host; base = base; contest = contest }) since ≡ sent
    (feed_path [] contest ++ since_query since) host
text_for host base contest since e =
    ap (λ b. request_text (record { host = host; base = b; contest = contest }) since) e
    ∙ wrote (feed_path [] contest) (since_query since) host

sent_length : (target host : List ℕ) → length (sent target host) ≤ 100 + length target + length host
sent_length target host =
    let rest = codes " HTTP/1.1\r\nHost: "
    ++ (host ++ codes "\r\nAccept: application/x-ndjson\r\nConnection: close\r\n\r\n") in
    omega (
      arith,
      length-append target rest,
      length-append host
          (codes "\r\nAccept: application/x-ndjson\r\nConnection: close\r\n\r\n"),
    )

sent_lines : (target host : List ℕ) → line_count target ≡ 0 → line_count host ≡ 0
    → line_count (sent target host) ≤ 66
sent_lines target host t h =
    let start : line_count (codes "GET ") ≡ 0 = refl in
    let middle : line_count behind_target ≡ 1 = refl in
    let end : line_count behind_host ≡ 4 = refl in
    omega (
      arith,
      line_count-append (codes "GET ") (target ++ (behind_target ++ (host ++ behind_host))),
      line_count-append target (behind_target ++ (host ++ behind_host)),
      line_count-append behind_target (host ++ behind_host),
      line_count-append host behind_host,
    )

-- ---- the target

-- a target that is a path of the feed, with a query where it has one
pub record IsFeedTarget (target path : List ℕ) (query : Option (List ℕ)) : Type 0 where
  pub bytes : list_all target_byte target ≡ true
  pub first : slice_index target 0 ≡ 47
  pub prefix : split_once_front 63 target ≡ path
  pub back : split_once_back 63 target ≡ query
  pub path_bytes : list_all is_path_byte path ≡ true
  pub query_bytes : IfSome query (λ q. list_all is_query_byte q ≡ true)
  pub path_some : 0 < length path
  pub some : 0 < length target
  pub short : length target ≤ 863

feed_bytes : (p : ℕ → Bool) → ((b : ℕ) → feed_byte b ≡ true → p b ≡ true) → (contest : List ℕ)
    → list_all (is_alphanumeric_or (codes "._-")) contest ≡ true
    → list_all p (feed_path [] contest) ≡ true
feed_bytes p imply contest h =
    all_weaker feed_byte p imply (feed_path [] contest)
    (all_joined feed_byte (codes "/contests/" ++ contest) (codes "/event-feed")
    (all_joined feed_byte (codes "/contests/") contest refl
    (all_weaker (is_alphanumeric_or (codes "._-")) feed_byte
    (λ b passed. ap (λ v. v || b == 47) passed) contest h)) refl)

path_length : (contest : List ℕ) → length (feed_path [] contest) ≡ 21 + length contest
path_length contest =
    omega (
      arith,
      length-append (codes "/contests/" ++ contest) (codes "/event-feed"),
      length-append
          (codes "/contests/") contest,
    )

is_target : (b : ℕ) → feed_byte b ≡ true → target_byte b ≡ true
is_target b h = implied feed_byte target_byte refl b (feed_byte_small b h) h

is_path : (b : ℕ) → feed_byte b ≡ true → is_path_byte b ≡ true
is_path b h = implied feed_byte is_path_byte refl b (feed_byte_small b h) h

no_mark : (b : ℕ) → feed_byte b ≡ true → not (b == 63) ≡ true
no_mark b h = implied feed_byte (λ x. not (x == 63)) refl b (feed_byte_small b h) h

asks_target : (b : ℕ) → asking_byte b ≡ true → target_byte b ≡ true
asks_target b h = implied asking_byte target_byte refl b (asking_byte_small b h) h

asks_query : (b : ℕ) → asking_byte b ≡ true → is_query_byte b ≡ true
asks_query b h = implied asking_byte is_query_byte refl b (asking_byte_small b h) h

-- the query of a request
abbrev pub query_for : Option (List ℕ) → Option (List ℕ)
query_for None = None
query_for (Some token) = Some (asking token)

without_query : (path : List ℕ) → list_all (λ b. not (b == 63)) path ≡ true
    → (split_once_front 63 (path ++ []) ≡ path) × (split_once_back 63 (path ++ []) ≡ None)
without_query path h =
    let at : index_of 63 (path ++ []) ≡ length path = ap (index_of 63) (append-nil path)
    ∙ prefix_whole (λ b. not (b == 63)) path h in
    let many : length (path ++ []) ≡ length path = ap length (append-nil path) in
    let no : nat_lt (index_of 63 (path ++ [])) (length (path ++ [])) ≡ false =
    grind (arith, nat_tests) in (
      ap (λ n. take n (path ++ [])) at ∙ take-append_seam path [],
      ap (λ b. cond b (Some (drop (index_of 63 (path ++ []) + 1) (path ++ []))) None) no,
    )

with_query : (path query : List ℕ) → list_all (λ b. not (b == 63)) path ≡ true
    → (split_once_front 63 (path ++ 63 ∷ query) ≡ path)
    × (split_once_back 63 (path ++ 63 ∷ query) ≡ Some query)
with_query path query h =
    let at : index_of 63 (path ++ 63 ∷ query) ≡ length path = prefix_past (λ b. not (b == 63)) path
    (63 ∷ query) h ∙ omega arith in
    let many : length (path ++ 63 ∷ query) ≡ length path + length (63 ∷ query) = length-append path
    (63 ∷ query) in
    let within : nat_lt (index_of 63 (path ++ 63 ∷ query)) (length (path ++ 63 ∷ query)) ≡ true =
    grind (arith, nat_tests) in (
      ap (λ n. take n (path ++ 63 ∷ query)) at ∙ take-append_seam path (63 ∷ query),
      ap (λ b. cond b (Some (drop (index_of 63 (path ++ 63 ∷ query) + 1) (path ++ 63 ∷ query)))
          None) within
          ∙ ap (λ n. Some (drop (n + 1) (path ++ 63 ∷ query))) at
          ∙ ap Some (drop-append-add path (63 ∷ query) 1),
    )

feed_target_is : (contest : List ℕ) (since : Option (List ℕ))
    → list_all (is_alphanumeric_or (codes "._-")) contest ≡ true → length contest ≤ 64
    → IfSome since (λ token. (length token ≤ 255) × IsUtf8 token)
    → IsFeedTarget (feed_path [] contest ++ since_query since) (feed_path [] contest)
    (query_for since)
feed_target_is contest None h few fits =
    let path = feed_path [] contest in
    let cut = without_query path (feed_bytes (λ b. not (b == 63)) no_mark contest h) in
    record {
      bytes = all_joined target_byte path [] (feed_bytes target_byte is_target contest h) refl;
      first = refl;
      prefix = cut.0;
      back = cut.1;
      path_bytes = feed_bytes is_path_byte is_path contest h;
      query_bytes = tt;
      path_some = omega (arith, path_length contest);
      some = omega (arith, path_length contest, length-append path []);
      short = omega (arith, path_length contest, length-append path []);
    }
feed_target_is contest (Some token) h few fits =
    let path = feed_path [] contest in
    let cut = with_query path (asking token) (feed_bytes (λ b. not (b == 63)) no_mark contest h) in
    record {
      bytes = all_joined target_byte path (63 ∷ asking token)
          (feed_bytes target_byte is_target contest h)
          (asking_passes target_byte asks_target refl refl token);
      first = refl;
      prefix = cut.0;
      back = cut.1;
      path_bytes = feed_bytes is_path_byte is_path contest h;
      query_bytes = asking_passes is_query_byte asks_query refl refl token;
      path_some = omega (arith, path_length contest);
      some = omega (arith, path_length contest, length-append path (63 ∷ asking token));
      short = omega (
        arith,
        path_length contest,
        length-append path
            (63 ∷ asking token),
        length-append name (61 ∷ byte_serialize token),
        serialized_short
            token,
      );
    }

since_is_asked : (since : Option (List ℕ))
    → IfSome since (λ token. (length token ≤ 255) × IsUtf8 token)
    → since_token (query_for since) ≡ since
since_is_asked None fits = refl
since_is_asked (Some token) fits = token_asked token fits.1

-- ---- the place

parts_ok : (host base contest : Bool) (x y : Place)
    → (if not host then Err BadHost else
    (if not base then Err BadBase else (if not contest then Err BadContest else Ok x))) ≡ Ok y
    → (host ≡ true) × (contest ≡ true)
parts_ok true true true x y e = (refl, refl)
parts_ok true true false x y e = let no : ◌≡◌ {A = Result Place PlaceFault} (Err BadContest)
    (Ok y) = e in absurd (cc)
parts_ok true false contest x y e = let no : ◌≡◌ {A = Result Place PlaceFault} (Err BadBase)
    (Ok y) = e in absurd (cc)
parts_ok false base contest x y e = let no : ◌≡◌ {A = Result Place PlaceFault} (Err BadHost)
    (Ok y) = e in absurd (cc)

pub at_most : (n m : ℕ) → nat_le n m ≡ true → n ≤ m
at_most n m h = grind (arith, nat_tests)

not_zero : (n : ℕ) → 0 < n → (n == 0) ≡ false
not_zero n h = grind (arith, nat_tests)

-- ---- a head

target_uri : (b : ℕ) → target_byte b ≡ true → is_uri_byte b ≡ true
target_uri b h = first_true (is_uri_byte b) (nat_lt b 128)
    (first_true (is_uri_byte b && nat_lt b 128) (not (b == 35))
    (first_true (is_uri_byte b && nat_lt b 128 && not (b == 35)) (not (b == 10)) h))

target_ascii : (b : ℕ) → target_byte b ≡ true → b < 128
target_ascii b h =
    let test = second_true (is_uri_byte b) (nat_lt b 128)
    (first_true (is_uri_byte b && nat_lt b 128) (not (b == 35))
    (first_true (is_uri_byte b && nat_lt b 128 && not (b == 35)) (not (b == 10)) h)) in
    under_ascii b 128 test

target_no_hash : (b : ℕ) → target_byte b ≡ true → not (b == 35) ≡ true
target_no_hash b h = second_true (is_uri_byte b && nat_lt b 128) (not (b == 35))
    (first_true (is_uri_byte b && nat_lt b 128 && not (b == 35)) (not (b == 10)) h)

target_no_line : (b : ℕ) → target_byte b ≡ true → not (b == 10) ≡ true
target_no_line b h = second_true (is_uri_byte b && nat_lt b 128 && not (b == 35)) (not (b == 10)) h

token_of : (text : List ℕ) → 0 < length text → list_all is_token_byte text ≡ true → IsToken text
token_of text some h = (some, AllPass-from_list_all is_token_byte text h)

get_token : IsToken (codes "GET")
unfolding is_token_byte
get_token = token_of (codes "GET") (omega arith) refl

host_token : IsToken (codes "Host")
unfolding is_token_byte
host_token = token_of (codes "Host") (omega arith) refl

accept_token : IsToken (codes "Accept")
unfolding is_token_byte
accept_token = token_of (codes "Accept") (omega arith) refl

connection_token : IsToken (codes "Connection")
unfolding is_token_byte
connection_token = token_of (codes "Connection") (omega arith) refl

is_field : (named raw : List ℕ) → IsToken named → list_all is_value_byte raw ≡ true
    → IsField (field named raw)
is_field named raw token h =
    record { name = token; raw = AllPass-from_list_all is_value_byte raw h }

host_raw : (host : List ℕ) → list_all host_byte host ≡ true
    → list_all is_value_byte (32 ∷ host) ≡ true
host_raw host h = all_weaker host_byte is_value_byte
    (λ b passed. implied host_byte is_value_byte refl b (host_byte_small b passed) passed) host h

are_fields : (host : List ℕ) → list_all host_byte host ≡ true → All IsField (fields_of host)
are_fields host h =
    All-cons IsField (field (codes "Host") (32 ∷ host))
    (field (codes "Accept") (codes " application/x-ndjson") ∷ field (codes "Connection")
    (codes " close") ∷ [])
    (is_field (codes "Host") (32 ∷ host) host_token (host_raw host h))
    (All-cons IsField (field (codes "Accept") (codes " application/x-ndjson"))
    (field (codes "Connection") (codes " close") ∷ [])
    (is_field (codes "Accept") (codes " application/x-ndjson") accept_token refl)
    (All-cons IsField (field (codes "Connection") (codes " close")) []
    (is_field (codes "Connection") (codes " close") connection_token refl) (All-nil IsField)))

target_utf8 : (target : List ℕ) → list_all target_byte target ≡ true → IsUtf8 target
target_utf8 target h =
    IsUtf8-from_ascii target
    (IsAscii-from_all target
    (All-weaker (λ b. target_byte b ≡ true) (λ b. b < 128) target_ascii target
    (AllPass-from_list_all target_byte target h)))

is_head : (target host : List ℕ) → list_all target_byte target ≡ true → 0 < length target
    → list_all host_byte host ≡ true → IsRequestHead (head_for target host)
is_head target host h some k = record {
  method = get_token;
  target = (
    some,
    AllPass-from_list_all is_uri_byte target
        (all_weaker target_byte is_uri_byte target_uri target h),
  );
  target_text = target_utf8 target h;
  minor = omega arith;
  fields = are_fields host k;
}

host_lines : (host : List ℕ) → list_all host_byte host ≡ true → line_count host ≡ 0
host_lines host h = no_lines host
    (all_weaker host_byte (λ b. not (b == 10))
    (λ b passed. implied host_byte (λ x. not (x == 10)) refl b (host_byte_small b passed) passed)
    host h)

is_small : (target host : List ℕ) → list_all target_byte target ≡ true → length target ≤ 863
    → list_all host_byte host ≡ true → length host ≤ 255
    → IsHeadSize (print_request (head_for target host)) 3
is_small target host h short k few = record {
  bytes = subst (λ t. length t ≤ 8192) (sym (printed target host))
      (omega (arith, sent_length target host));
  lines = subst (λ t. line_count t ≤ 66) (sym (printed target host))
      (sent_lines target host
      (no_lines target (all_weaker target_byte (λ b. not (b == 10)) target_no_line target h))
      (host_lines host k));
  fields_fit = omega arith;
}

-- ---- its target

pub never_some : {P : Type 0} → (x : List ℕ) → ◌≡◌ {A = Option (List ℕ)} None (Some x) → P
never_some x none = absurd (cc)

abbrev pub uri_for : List ℕ → Target
uri_for target = record {
  scheme = None;
  authority = None;
  path_and_query = target;
  absolute = λ x none. never_some x
      none;
  authority_alone = λ _ x none. never_some x none;
}

whole_target : (target : List ℕ) → list_all target_byte target ≡ true
    → without_fragment target ≡ target
whole_target target h =
    ap (λ n. take n target)
    (prefix_whole (λ b. not (b == 35)) target
    (all_weaker target_byte (λ b. not (b == 35)) target_no_hash target h)) ∙ take-length target

query_passes : (query : Option (List ℕ)) → IfSome query (λ q. list_all is_query_byte q ≡ true)
    → IfSome query (AllPass is_query_byte)
query_passes None h = tt
query_passes (Some q) h = AllPass-from_list_all is_query_byte q h

is_path_and_query : (target path : List ℕ) (query : Option (List ℕ))
    → IsFeedTarget target path query → IsPathAndQuery target
is_path_and_query target path query f =
    let path_passes : AllPass is_path_byte path = AllPass-from_list_all is_path_byte path
    f.path_bytes in
    let short = f.short in
    record {
      start = inr (inr (inl f.first));
      path = subst (AllPass is_path_byte) (sym f.prefix) path_passes;
      query = subst (λ o. IfSome o (AllPass is_query_byte)) (sym f.back)
          (query_passes query f.query_bytes);
      utf8 = target_utf8 target f.bytes;
      short = omega arith;
    }

spells_target : (target path : List ℕ) (query : Option (List ℕ)) → IsFeedTarget target path query
    → Spells target (uri_for target)
spells_target target path query f =
    let whole = whole_target target f.bytes in
    let short = f.short in
    let slash : is_delimiter (slice_index target 0) ≡ true = ap is_delimiter f.first in
    let input : IsPathInput target =
    record {
      start = inr slash;
      short = omega arith;
      kept = subst IsPathAndQuery (sym whole)
          (is_path_and_query target path query f);
    } in
    (omega arith, ((inr f.first, input), sym whole))

path_of_target : (target path : List ℕ) (query : Option (List ℕ)) → IsFeedTarget target path query
    → uri_path (uri_for target) ≡ path
path_of_target target path query f =
    ap (λ b. cond (not b || false) (path_of target) []) (not_zero (length target) f.some)
    ∙ ap or_slash f.prefix
    ∙ ap (λ b. cond b (codes "/") path) (not_zero (length path) f.path_some)

-- ---- together

requests : (host base contest : List ℕ) (since : Option (List ℕ)) → base ≡ []
    → list_all host_byte host ≡ true → length host ≤ 255
    → list_all (is_alphanumeric_or (codes "._-")) contest ≡ true → length contest ≤ 64
    → IfSome since (λ token. (length token ≤ 255) × IsUtf8 token)
    → Requests (request_text (record { host = host; base = base; contest = contest }) since)
    (codes "GET") (feed_path [] contest) 1 since
requests host base contest since e host_bytes host_short contest_bytes contest_short fits =
    let path = feed_path [] contest in
    let target = path ++ since_query since in
    let f : IsFeedTarget target path (query_for since) = feed_target_is contest since contest_bytes
    contest_short fits in
    let head = head_for target host in
    let text : request_text (record { host = host; base = base; contest = contest })
    since ≡ print_request head ++ [] =
    text_for host base contest since e ∙ sym (printed target host)
    ∙ sym (append-nil (print_request head)) in
    record {
      head = head;
      target = uri_for target;
      is_request = record {
        rest = [];
        begins = record {
          reads = (is_head target host f.bytes f.some host_bytes, text);
          size =
              is_small target host f.bytes f.short host_bytes host_short;
        };
        is_path = f.first;
        spells = spells_target target path (query_for since) f;
      };
      method_is = refl;
      path_is = path_of_target target path (query_for since) f;
      minor_is = refl;
      since_is = ap since_token f.back ∙ since_is_asked since fits;
    }

pub request_is_read : RequestIsRead
request_is_read place since ok base_is fits =
    let parts = parts_ok (is_host place.host) (is_base place.base)
    (is_contest place.contest) place place ok in
    let host_text : is_text_of 255 (codes ".-:[]") place.host ≡ true = second_true
    (nat_lt 0 (length place.host)) (is_text_of 255 (codes ".-:[]") place.host) parts.0 in
    let contest_text : is_text_of 64 (codes "._-") place.contest ≡ true = second_true
    (nat_lt 0 (length place.contest)) (is_text_of 64 (codes "._-") place.contest) parts.1 in
    requests place.host place.base place.contest since base_is
    (second_true (nat_le (length place.host) 255) (list_all host_byte place.host) host_text)
    (at_most (length place.host) 255
    (first_true (nat_le (length place.host) 255) (list_all host_byte place.host) host_text))
    (second_true (nat_le (length place.contest) 64)
    (list_all (is_alphanumeric_or (codes "._-")) place.contest) contest_text)
    (at_most (length place.contest) 64
    (first_true (nat_le (length place.contest) 64)
    (list_all (is_alphanumeric_or (codes "._-")) place.contest) contest_text))
    fits
