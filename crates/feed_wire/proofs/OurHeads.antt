-- The heads that a server writes, as the grammar of responses reads them.
use Rattle.std.proofs.Common.{◌≡◌, ℕ, ◌<◌, Bool, true, ◌&&◌, ◌==◌, List, [], ◌∷◌, length, All, refl, codes, arith, lit≤}
use Rattle.std.specs.Prelude.{Some, nat_le, nat_lt}
use Rattle.std.specs.List.{list_all}
use Rattle.std.specs.Char.{is_ascii_digit}
use Rattle.std.specs.Fmt.{digits}
use Rattle.std.proofs.lemmas.Bool.{and_parts, eqb-true as same_number, ltb-true as below}
use Rattle.std.proofs.lemmas.Bool.Decides.{nat_tests}
use Rattle.std.proofs.lemmas.List.Sums.{AllPass-from_list_all}
use Rattle.std.proofs.lemmas.List.Elements.{All-weaker}
use Rattle.httparse.specs.Grammar.{ResponseHead, IsResponseHead, Field, IsField, crlf, is_token, is_token_byte, is_value_byte, print_response, status_code}
use Rattle.feed_settings.specs.declared.framing.Framing.{Framing}
use Rattle.feed_settings.specs.declared.framing.Framing.TheVariants.{Close, Chunked}
use Rattle.feed_wire.specs.HeadSizes.{line_count, IsHeadSize}
use Rattle.feed_wire.specs.declared.refusal.Refusal.{Refusal}
use Rattle.feed_wire.specs.declared.refusal.Refusal.TheVariants.{LargeHead, Unreadable, NotGet, OtherPath, NothingPublished, TokenNotHeld}
use Rattle.feed_wire.specs.Answer.{feed_head, refusal_code, refusal_phrase, refusal_head}
use Rattle.feed_wire.proofs.RequestLemmas.{at_most, field}

-- ---- tests of a head

abbrev passes_field : Field → Bool
passes_field f = is_token f.name && list_all is_value_byte f.raw

over_zero : (n : ℕ) → nat_lt 0 n ≡ true → 0 < n
over_zero n h = grind (arith, nat_tests)

is_field : (f : Field) → passes_field f ≡ true → IsField f
is_field f h =
    let parts = and_parts (is_token f.name) (list_all is_value_byte f.raw) h in
    let name = and_parts (nat_lt 0 (length f.name)) (list_all is_token_byte f.name) parts.0 in
    record {
      name = (over_zero (length f.name) name.0, AllPass-from_list_all is_token_byte f.name name.1);
      raw = AllPass-from_list_all is_value_byte f.raw parts.1;
    }

-- a head of one of our answers
abbrev pub head_with : List ℕ → List ℕ → List Field → ResponseHead
head_with code phrase fields = record {
  blank = [];
  minor = 1;
  digits = code;
  reason = Some phrase;
  line_end = crlf;
  fields = fields;
  last = crlf;
}

-- this is its text
pub record IsWritten (text : List ℕ) (head : ResponseHead) : Type 0 where
  pub is_head : IsResponseHead head
  pub printed : text ≡ print_response head
  pub size : IsHeadSize text (length head.fields)
  pub few_lines : line_count text < 66

-- its parts are of their classes, and its text is short enough
abbrev passes_parts : List ℕ → List ℕ → List Field → Bool
passes_parts code phrase fields =
    (length code == 3)
    && (list_all is_ascii_digit code
    && (list_all is_value_byte phrase && list_all passes_field fields))

abbrev passes_size : List ℕ → List Field → Bool
passes_size text fields =
    nat_le (length text) 8192 && (nat_lt (line_count text) 66 && nat_le (length fields) 64)

are_fields : (fields : List Field) → list_all passes_field fields ≡ true → All IsField fields
are_fields fields h =
    All-weaker (λ f. passes_field f ≡ true) IsField is_field fields
    (AllPass-from_list_all passes_field fields h)

is_head : (code phrase : List ℕ) (fields : List Field) → passes_parts code phrase fields ≡ true
    → IsResponseHead (head_with code phrase fields)
is_head code phrase fields h =
    let (three, h1) = and_parts (length code == 3) _ h in
    let (ds, h2) = and_parts (list_all is_ascii_digit code) _ h1 in
    let (values, each) = and_parts (list_all is_value_byte phrase) _ h2 in
    record {
      minor = lit≤ tt;
      digits = (same_number (length code) 3 three, AllPass-from_list_all is_ascii_digit code ds);
      reason = AllPass-from_list_all is_value_byte phrase values;
      fields = are_fields fields each;
    }

written : (text code phrase : List ℕ) (fields : List Field)
    → text ≡ print_response (head_with code phrase fields)
    → passes_parts code phrase fields ≡ true → passes_size text fields ≡ true
    → IsWritten text (head_with code phrase fields)
written text code phrase fields printed parts size =
    let (bytes, h) = and_parts (nat_le (length text) 8192) _ size in
    let (lines, many) = and_parts (nat_lt (line_count text) 66) _ h in
    let few : line_count text < 66 = below (line_count text) 66 lines in
    record {
      is_head = is_head code phrase fields parts;
      printed = printed;
      size = record {
        bytes = at_most (length text) 8192 bytes;
        lines = omega (arith, few);
        fields_fit = at_most (length fields) 64 many;
      };
      few_lines = few;
    }

-- ---- the heads of answers with the feed

abbrev pub feed_fields : Framing → List Field
feed_fields Close =
    field (codes "Content-Type") (codes " application/x-ndjson")
    ∷ field (codes "Connection") (codes " close") ∷ []
feed_fields Chunked =
    field (codes "Content-Type") (codes " application/x-ndjson")
    ∷ field (codes "Transfer-Encoding") (codes " chunked")
    ∷ field (codes "Connection") (codes " close") ∷ []

abbrev pub feed_tree : Framing → ResponseHead
feed_tree framing = head_with (codes "200") (codes "OK") (feed_fields framing)

feed_printed : (framing : Framing) → feed_head framing ≡ print_response (feed_tree framing)
unfolding print_response
feed_printed Close = refl
feed_printed Chunked = refl

feed_parts : (framing : Framing)
    → passes_parts (codes "200") (codes "OK") (feed_fields framing) ≡ true
unfolding is_token_byte
feed_parts Close = refl
feed_parts Chunked = refl

feed_size : (framing : Framing) → passes_size (feed_head framing) (feed_fields framing) ≡ true
feed_size Close = refl
feed_size Chunked = refl

pub feed_written : (framing : Framing) → IsWritten (feed_head framing) (feed_tree framing)
feed_written framing =
    written (feed_head framing) (codes "200") (codes "OK") (feed_fields framing)
    (feed_printed framing) (feed_parts framing) (feed_size framing)

-- ---- the heads of refusals

abbrev refusal_digits : Refusal → List ℕ
refusal_digits LargeHead = codes "431"
refusal_digits Unreadable = codes "400"
refusal_digits NotGet = codes "405"
refusal_digits OtherPath = codes "404"
refusal_digits NothingPublished = codes "503"
refusal_digits TokenNotHeld = codes "400"

abbrev sized_fields : List ℕ → List Field
sized_fields size =
    field (codes "Content-Length") size ∷ field (codes "Connection") (codes " close") ∷ []

abbrev own_fields : Refusal → List Field
own_fields LargeHead = sized_fields (codes " 39")
own_fields Unreadable = sized_fields (codes " 36")
own_fields NotGet = field (codes "Allow") (codes " GET") ∷ sized_fields (codes " 43")
own_fields OtherPath = sized_fields (codes " 34")
own_fields NothingPublished = sized_fields (codes " 42")
own_fields TokenNotHeld = sized_fields (codes " 39")

abbrev fields_of_refusal : Refusal → List Field
fields_of_refusal refusal =
    field (codes "Content-Type") (codes " application/json") ∷ own_fields refusal

abbrev pub refusal_tree : Refusal → ResponseHead
refusal_tree refusal =
    head_with (refusal_digits refusal) (refusal_phrase refusal) (fields_of_refusal refusal)

refusal_printed : (refusal : Refusal)
    → refusal_head refusal ≡ print_response (refusal_tree refusal)
unfolding print_response digits
refusal_printed LargeHead = refl
refusal_printed Unreadable = refl
refusal_printed NotGet = refl
refusal_printed OtherPath = refl
refusal_printed NothingPublished = refl
refusal_printed TokenNotHeld = refl

refusal_parts : (refusal : Refusal)
    → passes_parts (refusal_digits refusal) (refusal_phrase refusal) (fields_of_refusal refusal)
    ≡ true
unfolding is_token_byte
refusal_parts LargeHead = refl
refusal_parts Unreadable = refl
refusal_parts NotGet = refl
refusal_parts OtherPath = refl
refusal_parts NothingPublished = refl
refusal_parts TokenNotHeld = refl

refusal_size : (refusal : Refusal)
    → passes_size (refusal_head refusal) (fields_of_refusal refusal) ≡ true
unfolding digits
refusal_size LargeHead = refl
refusal_size Unreadable = refl
refusal_size NotGet = refl
refusal_size OtherPath = refl
refusal_size NothingPublished = refl
refusal_size TokenNotHeld = refl

pub refusal_written : (refusal : Refusal)
    → IsWritten (refusal_head refusal) (refusal_tree refusal)
refusal_written refusal =
    written (refusal_head refusal) (refusal_digits refusal) (refusal_phrase refusal)
    (fields_of_refusal refusal)
    (refusal_printed refusal) (refusal_parts refusal) (refusal_size refusal)

pub refusal_status : (refusal : Refusal)
    → status_code (refusal_tree refusal) ≡ refusal_code refusal
refusal_status LargeHead = refl
refusal_status Unreadable = refl
refusal_status NotGet = refl
refusal_status OtherPath = refl
refusal_status NothingPublished = refl
refusal_status TokenNotHeld = refl
