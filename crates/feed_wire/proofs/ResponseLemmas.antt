-- Heads of responses at the start of bytes, and of longer ones.
use Rattle.std.proofs.Common.{◌≡◌, ◌⊎◌, inl, inr, ℕ, ◌+◌, ◌-◌, ◌≤◌, List, [], ◌++◌, length, take, drop, map, sym, ap, ◌∙◌, subst, arith, append-nil, append_assoc, length-append, length-take, take-append-drop}
use Rattle.std.specs.Prelude.{◌==◌, cond, min}
use Rattle.std.proofs.Math.Seq.{take-append_seam}
use Rattle.std.proofs.lemmas.List.{length-map, take-append-le, drop_all}
use Rattle.std.proofs.lemmas.List.Sums.{sum_by-append}
use Rattle.std.proofs.lemmas.Bool.{cases_lt}
use Rattle.httparse.specs.Ascii.{line_feed}
use Rattle.httparse.specs.Grammar.{ResponseHead, print_response, ReadsResponse, HasNoResponse, NeverHasResponse}
use Rattle.httparse.specs.declared.borrowed.Header.{Header}
use Rattle.httparse.specs.Borrowed.{header_parts}
use Rattle.httparse.specs.Spans.{name_and_value}
use Rattle.httparse.proofs.GrammarLemmas.{response_unique, ReadsResponse-append}
use Rattle.feed_wire.specs.HeadSizes.{line_count, IsHeadSize, IsPastLimits}
use Rattle.feed_wire.specs.ResponseHeads.{BeginsWithResponse, HasNoWholeResponse, HasBadHead}

-- ---- lists

prefix_of : (a b c d : List ℕ) → a ++ b ≡ c ++ d → length c ≤ length a → a ≡ c ++ drop (length c) a
prefix_of a b c d e few =
    let n = length c in
    let prefix : take n a ≡ c = sym (take-append-le n a b few) ∙ ap (take n) e
    ∙ take-append_seam c d in
    sym (take-append-drop n a) ∙ ap (λ t. t ++ drop n a) prefix

-- ---- longer and shorter bytes

pub longer : (bytes more : List ℕ) (head : ResponseHead) (rest : List ℕ)
    → BeginsWithResponse bytes head rest → BeginsWithResponse (bytes ++ more) head (rest ++ more)
longer bytes more head rest b =
    record { reads = ReadsResponse-append bytes head rest more b.reads; size = b.size }

pub shorter : (bytes more : List ℕ) (head : ResponseHead) (rest : List ℕ)
    → BeginsWithResponse (bytes ++ more) head rest → length (print_response head) ≤ length bytes
    → BeginsWithResponse bytes head (drop (length (print_response head)) bytes)
shorter bytes more head rest b few =
    record {
      reads = (b.reads.0, prefix_of bytes more (print_response head) rest b.reads.1 few);
      size = b.size;
    }

pub no_head_beyond : (bytes more : List ℕ) → (length bytes ≡ 8192) ⊎ (more ≡ [])
    → HasNoWholeResponse bytes → HasNoWholeResponse (bytes ++ more)
no_head_beyond bytes more (inl full) none = λ head rest b.
    let few = b.size.bytes in
    none head (drop (length (print_response head)) bytes)
    (shorter bytes more head rest b (omega arith))
no_head_beyond bytes more (inr empty) none = subst HasNoWholeResponse (sym (append-nil bytes)
    ∙ ap (λ t. bytes ++ t) (sym empty)) none

pub line_count-append : (a b : List ℕ) → line_count (a ++ b) ≡ line_count a + line_count b
line_count-append a b = sum_by-append (λ x. cond (x == line_feed) 1 0) a b

pub past_more : (bytes more : List ℕ) → IsPastLimits bytes → IsPastLimits (bytes ++ more)
past_more bytes more (inl long) = inl (omega (arith, length-append bytes more))
past_more bytes more (inr lines) = inr (omega (arith, line_count-append bytes more))

pub bad_more : (bytes more : List ℕ) → HasBadHead bytes → HasBadHead (bytes ++ more)
bad_more bytes more bad =
    record {
      prefix = bad.prefix;
      later = bad.later ++ more;
      split = ap (λ t. t ++ more) bad.split
          ∙ append_assoc bad.prefix bad.later more;
      never = bad.never;
      within = bad.within;
    }

-- ---- what the parser says

pub other_size : (bytes : List ℕ) (head : ResponseHead) (rest : List ℕ)
    → ReadsResponse bytes head rest → ¬ (IsHeadSize (print_response head) (length head.fields))
    → HasNoWholeResponse bytes
other_size bytes head rest reads other found tail b =
    let same = (response_unique bytes found head tail rest b.reads reads).0 in
    other (subst (λ h. IsHeadSize (print_response h) (length h.fields)) same b.size)

pub no_response : (bytes : List ℕ) → HasNoResponse bytes → HasNoWholeResponse bytes
no_response bytes none head rest b = none head rest b.reads

pub never_whole : (bytes : List ℕ) → NeverHasResponse bytes → HasNoWholeResponse bytes
never_whole bytes never head rest b = never [] head rest
    (subst (λ t. ReadsResponse t head rest) (sym (append-nil bytes)) b.reads)

pub head_text : (bytes : List ℕ) (head : ResponseHead) (len : ℕ)
    → ReadsResponse bytes head (drop len bytes) → len ≡ length (print_response head)
    → take len bytes ≡ print_response head
head_text bytes head len reads same =
    ap (λ n. take n bytes) same ∙ ap (take (length (print_response head))) reads.1
    ∙ take-append_seam (print_response head) (drop len bytes)

-- the text and the headers that were read have the size of the head
header_count : (headers : List Header) (head : ResponseHead)
    → map header_parts headers ≡ map name_and_value head.fields
    → length headers ≡ length head.fields
header_count headers head fields = sym (length-map headers header_parts) ∙ ap length fields
    ∙ length-map head.fields name_and_value

pub sized_to : (bytes : List ℕ) (headers : List Header) (head : ResponseHead) (len : ℕ)
    → ReadsResponse bytes head (drop len bytes) → len ≡ length (print_response head)
    → map header_parts headers ≡ map name_and_value head.fields
    → IsHeadSize (take len bytes) (length headers)
    → IsHeadSize (print_response head) (length head.fields)
sized_to bytes headers head len reads same fields size =
    subst (λ n. IsHeadSize (print_response head) n) (header_count headers head fields)
    (subst (λ t. IsHeadSize t (length headers)) (head_text bytes head len reads same) size)

pub sized_from : (bytes : List ℕ) (headers : List Header) (head : ResponseHead) (len : ℕ)
    → ReadsResponse bytes head (drop len bytes) → len ≡ length (print_response head)
    → map header_parts headers ≡ map name_and_value head.fields
    → IsHeadSize (print_response head) (length head.fields)
    → IsHeadSize (take len bytes) (length headers)
sized_from bytes headers head len reads same fields size =
    subst (λ n. IsHeadSize (take len bytes) n) (sym (header_count headers head fields))
    (subst (λ t. IsHeadSize t (length head.fields)) (sym (head_text bytes head len reads same))
    size)

pub len_fits : (bytes : List ℕ) (head : ResponseHead) (len : ℕ)
    → ReadsResponse bytes head (drop len bytes) → len ≡ length (print_response head)
    → len ≤ length bytes
len_fits bytes head len reads same =
    let total = ap length reads.1 ∙ length-append (print_response head) (drop len bytes) in
    omega arith

-- ---- what the bytes of a head may still be

-- the bytes that are looked at are as many as may be, or all
pub looked_end : (kept piece : List ℕ) (len : ℕ) → length kept ≤ 8192
    → len ≡ min (length piece) (8192 - length kept)
    → (length (kept ++ take len piece) ≡ 8192) ⊎ (drop len piece ≡ [])
looked_end kept piece len small e = elim (cases_lt len (length piece)) [
  | inl less ↦ inl (omega (arith, length-append kept (take len piece), length-take len piece))
  | inr all ↦ inr (drop_all len piece all)
]

pub all_looked : (kept piece : List ℕ) (len : ℕ)
    → (kept ++ take len piece) ++ drop len piece ≡ kept ++ piece
all_looked kept piece len = append_assoc kept (take len piece) (drop len piece)
    ∙ ap (λ t. kept ++ t) (take-append-drop len piece)
