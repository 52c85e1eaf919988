-- The text for those who are too many is a refusal: it carries no feed.
use Rattle.std.proofs.Common.{◌≡◌, refl, sym, ap, ◌∙◌, subst, ℕ, ◌+◌, ◌-◌, ◌<◌, ◌≤◌, ◌⊎◌, inl, inr, ⊎_elim, List, [], ◌∷◌, ◌++◌, length, take, drop, codes, arith, lit≤, length-append, length-take, take-append-drop}
use Rattle.std.specs.Prelude.{Bool, true, Some}
use Rattle.std.specs.List.{list_all}
use Rattle.std.specs.Char.{is_ascii_digit}
use Rattle.std.proofs.lemmas.Bool.{cases_lt}
use Rattle.std.proofs.lemmas.List.{take-append-le}
use Rattle.std.proofs.lemmas.List.Elements.{All-from_recursion}
use Rattle.std.proofs.lemmas.List.Sums.{AllPass-from_list_all, sum_by-append}
use Rattle.std.proofs.Math.Seq.{take-append-add}
use Rattle.httparse.specs.Grammar.{ResponseHead, IsResponseHead, Field, IsField, crlf, is_token_byte, is_value_byte, print_response, ReadsResponse}
use Rattle.httparse.proofs.GrammarLemmas.{response_prefix_free}
use Rattle.feed_follow.specs.declared.fault.FollowFault.TheVariants.{Status}
use Rattle.feed_wire.specs.HeadSizes.{line_count, IsHeadSize, IsPastLimits}
use Rattle.feed_wire.specs.ResponseHeads.{BeginsWithResponse, HasNoWholeResponse}
use Rattle.feed_follow.specs.Laws.{StandsOnce}
use Rattle.feed_follow.specs.Standing.{Standing, in_head, failed, verdict, Stands, StandsBehind}
use Rattle.feed_answer.specs.FollowLaws.{StandsOnly}
use Rattle.feed_screens.specs.Serving.{full_text}
use Rattle.feed_live.proofs.NoFeedLemmas.{BringsNone, CarriesNone}

-- ---- a text that begins with a whole head

-- this is the text of a head, within the limits
record IsHead (text : List ℕ) (head : ResponseHead) : Type 0 where
  pub is_head : IsResponseHead head
  pub printed : text ≡ print_response head
  pub size : IsHeadSize text (length head.fields)
  pub few_lines : line_count text < 66

module _ (once : StandsOnce) (text rest : List ℕ) (head : ResponseHead) (w : IsHead text head) where
  abbrev first : ℕ → List ℕ
  first n = take n (text ++ rest)

  abbrev later : ℕ → List ℕ
  later n = drop n (text ++ rest)

  begins_with : (tail : List ℕ) → BeginsWithResponse (text ++ tail) head tail
  begins_with tail = record {
    reads = (w.is_head, ap (λ t. t ++ tail) w.printed);
    size = subst (λ t. IsHeadSize t (length head.fields)) w.printed w.size;
  }

  all_reads : (n : ℕ) → ReadsResponse (first n ++ later n) head rest
  all_reads n = (w.is_head, take-append-drop n (text ++ rest) ∙ ap (λ t. t ++ rest) w.printed)

  no_head_yet : (n : ℕ) → n < length text → HasNoWholeResponse (first n)
  no_head_yet n less other tail b =
      let same = response_prefix_free (first n) (later n) other head tail rest b.reads (all_reads n) in
      let printed = length (print_response other) in
      let many : length (first n) ≡ printed + length tail = ap length b.reads.1 ∙ length-append (print_response other) tail in
      let as_long : printed ≡ length text = ap (λ h. length (print_response h)) same.0 ∙ sym (ap length w.printed) in
      omega (arith, many, as_long, length-take n (text ++ rest), less)

  lines_of_both : (a b : List ℕ) → line_count (a ++ b) ≡ line_count a + line_count b
  lines_of_both a b = sum_by-append _ a b

  within_limits : (n : ℕ) → n < length text → ¬ (IsPastLimits (first n))
  within_limits n less past =
      let size = w.size in
      let long = size.bytes in
      let few = w.few_lines in
      let part : first n ≡ take n text = take-append-le n text rest (omega (arith, less)) in
      let short : length (first n) ≤ n = omega (arith, length-take n (text ++ rest)) in
      let counted : line_count (first n) + line_count (drop n text) ≡ line_count text =
      ap (λ t. line_count t + line_count (drop n text)) part
      ∙ sym (lines_of_both (take n text) (drop n text))
      ∙ ap line_count (take-append-drop n text) in
      ⊎_elim (λ over. omega (arith, over, short, long, less)) (λ over. omega (arith, over, counted, few)) past

  module _ (had : Bool) (n : ℕ) where
    only_so : (s : Standing) → Stands had (first n) s → StandsOnly had (first n) s
    only_so s stands = record {
      stands = stands;
      only = λ other also. ⊎_elim (λ same. same) (λ never. absurd (never (later n) head rest (all_reads n)))
          (once had (first n) other s also stands);
    }

    in_text : n < length text → StandsOnly had (first n) in_head
    in_text less = only_so in_head (inl (no_head_yet n less, within_limits n less))

    behind_text : (s : Standing) → length text ≤ n → StandsBehind (verdict had head) (take (n - length text) rest) s → StandsOnly had (first n) s
    behind_text s more stands =
        let tail = take (n - length text) rest in
        let number : n ≡ length text + (n - length text) = omega (arith, more) in
        let same : first n ≡ text ++ tail = ap (λ k. take k (text ++ rest)) number ∙ take-append-add text rest (n - length text) in
        let begins : BeginsWithResponse (first n) head tail = subst (λ t. BeginsWithResponse t head tail) (sym same) (begins_with tail) in
        only_so s (inr (head, tail, begins, stands))

-- ---- our text

abbrev field : List ℕ → List ℕ → Field
field named raw = record { name = named; raw = raw; end = crlf }

abbrev head_503 : ResponseHead
head_503 = record {
  blank = [];
  minor = 1;
  digits = codes "503";
  reason = Some (codes "Service Unavailable");
  line_end = crlf;
  fields = field (codes "Content-Type") (codes " application/json") ∷ field (codes "Content-Length") (codes " 41")
      ∷ field (codes "Connection") (codes " close") ∷ [];
  last = crlf;
}

abbrev text_503 : List ℕ
text_503 = codes "HTTP/1.1 503 Service Unavailable\r\nContent-Type: application/json\r\nContent-Length: 41\r\nConnection: close\r\n\r\n"

abbrev body_503 : List ℕ
body_503 = codes "{\"code\":503,\"message\":\"too many screens\"}"

is_full : full_text ≡ text_503 ++ body_503
unfolding full_text
is_full = refl

printed_503 : text_503 ≡ print_response head_503
unfolding print_response
printed_503 = refl

is_field : (f : Field) → 0 < length f.name → list_all is_token_byte f.name ≡ true → list_all is_value_byte f.raw ≡ true → IsField f
is_field f some name raw = record {
  name = (some, AllPass-from_list_all is_token_byte f.name name);
  raw = AllPass-from_list_all is_value_byte f.raw raw;
}

is_head_503 : IsResponseHead head_503
unfolding is_token_byte
is_head_503 = record {
  minor = lit≤ tt;
  digits = (refl, AllPass-from_list_all is_ascii_digit (codes "503") refl);
  reason = AllPass-from_list_all is_value_byte (codes "Service Unavailable") refl;
  fields = All-from_recursion IsField head_503.fields (
    is_field (field (codes "Content-Type") (codes " application/json")) (lit≤ tt) refl refl,
    (
      is_field (field (codes "Content-Length") (codes " 41")) (lit≤ tt) refl refl,
      (is_field (field (codes "Connection") (codes " close")) (lit≤ tt) refl refl, tt),
    ),
  );
}

is_503 : IsHead text_503 head_503
is_503 = record {
  is_head = is_head_503;
  printed = printed_503;
  size = record { bytes = lit≤ tt; lines = lit≤ tt; fields_fit = lit≤ tt };
  few_lines = lit≤ tt;
}

pub full_carries_none : StandsOnce → CarriesNone full_text
full_carries_none once had n = subst (λ t. (s : Standing) × StandsOnly had (take n t) s × BringsNone s) (sym is_full) (by (cases_lt n (length text_503)))
  where
    by : (n < length text_503) ⊎ (length text_503 ≤ n) → (s : Standing) × StandsOnly had (take n (text_503 ++ body_503)) s × BringsNone s
    by (inl less) = (in_head, in_text once text_503 body_503 head_503 is_503 had n less, tt)
    by (inr more) = (failed (Status 503) [], behind_text once text_503 body_503 head_503 is_503 had n (failed (Status 503) []) more refl, tt)
