-- What is framed in chunks is a chunked body that carries it.
use Rattle.std.proofs.Common.{◌≡◌, ℕ, zero, suc, ◌+◌, ◌/◌, ◌%◌, ◌^◌, ◌<◌, ◌≤◌, Bool, true, false, List, [], ◌∷◌, ◌++◌, length, refl, sym, ap, ◌∙◌, arith, inl, None, codes, append-nil, append_assoc, lit<, lit≤}
use Rattle.std.specs.Prelude.{◌==◌, if◌then◌else◌}
use Rattle.std.specs.List.{flat_map, AllByRecursion}
use Rattle.std.specs.Char.{digit_value, is_ascii_hexdigit}
use Rattle.std.specs.Str.Parse.{AllDigits}
use Rattle.std.specs.Fmt.{digits, digits_onto, digit_glyph}
use Rattle.std.proofs.Math.Nat.{pow-succ'}
use Rattle.std.proofs.lemmas.Bool.Decides.{nat_tests}
use Rattle.std.proofs.lemmas.Fmt.{digits_is_IsNumeral}
use Rattle.std.proofs.lemmas.List.Elements.{All-nil, All-cons}
use Rattle.httparse.specs.Ascii.{crlf_bytes}
use Rattle.httparse.specs.Grammar.{AllPass, ChunkLine}
use Rattle.feed_settings.specs.declared.framing.Framing.TheVariants.{Chunked}
use Rattle.feed_wire.specs.Framed.{frame, frame_end}
use Rattle.feed_wire.specs.ChunkedBody.{Chunk, IsChunk, size_line, print_chunk, carried, IsLastLine, IsChunkedBody, BreaksOff}

-- a digit below sixteen is a hexadecimal one
hex_digit : (c : ℕ) → digit_value c < 16 → is_ascii_hexdigit c ≡ true
hex_digit c h = grind (arith, nat_tests)

all_hex : (ds : List ℕ) → AllDigits 16 ds → AllPass is_ascii_hexdigit ds
all_hex [] h = All-nil (λ b. is_ascii_hexdigit b ≡ true)
all_hex (d ∷ ds) h = All-cons (λ b. is_ascii_hexdigit b ≡ true) d ds (hex_digit d h.0)
    (all_hex ds h.1)

cond_short : (b : Bool) (x y : List ℕ) (m : ℕ) → (b ≡ true → length x ≤ m)
    → (b ≡ false → length y ≤ m) → length (if b then x else y) ≤ m
cond_short true x y m first second = first refl
cond_short false x y m first second = second refl

quotient_zero : (n : ℕ) → n < 16 → (n / 16 == 0) ≡ true
quotient_zero n h = let e : n / 16 ≡ 0 = omega arith in rw e refl

-- a number below 16 ^ (places + 1) has at most so many digits
onto_short : (k places n : ℕ) (acc : List ℕ) → n < 16 ^ suc places
    → length (digits_onto k 16 false n acc) ≤ suc places + length acc
onto_short zero places n acc h = omega arith
onto_short (suc k) zero n acc h =
    let more = digit_glyph false (n % 16) ∷ acc in
    cond_short (n / 16 == 0) more (digits_onto k 16 false (n / 16) more) (1 + length acc)
    (λ e. omega arith) (λ e. let f : (n / 16 == 0) ≡ true = quotient_zero n h in cc)
onto_short (suc k) (suc places) n acc h =
    let more = digit_glyph false (n % 16) ∷ acc in
    let below : n / 16 < 16 ^ suc places = omega (arith, pow-succ' 16 (suc places)) in
    let rest : length (digits_onto k 16 false (n / 16) more) ≤ suc places + length more =
    onto_short k places (n / 16) more below in
    cond_short (n / 16 == 0) more (digits_onto k 16 false (n / 16) more)
    (suc (suc places) + length acc)
    (λ e. omega arith) (λ e. omega arith)

-- the size of what fits into memory has at most sixteen digits
size_short : (n : ℕ) → n < 2 ^ 64 → length (digits 16 false n) ≤ 16
unfolding digits
size_short n h = let short : length (digits_onto 64 16 false n []) ≤ 16 + 0 =
    onto_short 64 15 n [] h in omega arith

-- the chunk that carries these bytes
abbrev pub chunk_of : List ℕ → Chunk
chunk_of bytes = record {
  line = record { digits = digits 16 false (length bytes); pad = []; extension = None };
  bytes =
      bytes;
}

pub size_line_of : (bytes : List ℕ)
    → size_line (chunk_of bytes).line ≡ digits 16 false (length bytes)
size_line_of bytes = append-nil _ ∙ append-nil _

pub chunk_is : (bytes : List ℕ) → 0 < length bytes → length bytes < 2 ^ 64
    → IsChunk (chunk_of bytes)
chunk_is bytes some small =
    let n = length bytes in
    let wide : n < 16 ^ 64 = omega arith in
    let numeral = digits_is_IsNumeral 16 false (lit≤ tt) (lit≤ tt) n wide in
    let short = size_short n small in
    record {
      line = record {
        is_line = record {
          digits = (numeral.0.0, short, all_hex _ numeral.0.1);
          pad =
              All-nil _;
          extension = tt;
        };
        short = rw (size_line_of bytes) (omega arith);
      };
      some = some;
      size = numeral.1;
    }

pub frame_chunk : (b : ℕ) (bytes : List ℕ)
    → frame Chunked (b ∷ bytes) ≡ print_chunk (chunk_of (b ∷ bytes))
frame_chunk b bytes = ap (λ l. ((l ++ crlf_bytes) ++ (b ∷ bytes)) ++ crlf_bytes)
    (sym (size_line_of (b ∷ bytes)))

-- frames, one after another, are chunks that carry what was framed
pub record Framed (text payload : List ℕ) : Type 0 where
  pub chunks : List Chunk
  pub are_chunks : AllByRecursion IsChunk chunks
  pub spelled : text ≡ flat_map print_chunk chunks
  pub payload_is : payload ≡ carried chunks

pub frames_are : (pieces : List (List ℕ)) → AllByRecursion (λ piece. length piece < 2 ^ 64) pieces
    → Framed (flat_map (frame Chunked) pieces) (flat_map (λ piece. piece) pieces)
frames_are [] h = record { chunks = []; are_chunks = tt; spelled = refl; payload_is = refl }
frames_are ([] ∷ pieces) h = frames_are pieces h.1
frames_are ((b ∷ bytes) ∷ pieces) h =
    let rest = frames_are pieces h.1 in
    record {
      chunks = chunk_of (b ∷ bytes) ∷ rest.chunks;
      are_chunks = (chunk_is (b ∷ bytes) (omega arith) h.0, rest.are_chunks);
      spelled = ap (λ l. l ++ flat_map (frame Chunked) pieces) (frame_chunk b bytes)
          ∙ ap (λ l. print_chunk (chunk_of (b ∷ bytes)) ++ l) rest.spelled;
      payload_is = ap (λ l. (b ∷ bytes) ++ l) rest.payload_is;
    }

abbrev pub zero_line : ChunkLine
zero_line = record { digits = codes "0"; pad = []; extension = None }

pub zero_is_last : IsLastLine zero_line
zero_is_last = record {
  line = record {
    is_line =
        record {
          digits = (lit< tt, lit≤ tt, all_hex (codes "0") (lit< tt, tt));
          pad =
              All-nil _;
          extension = tt;
        };
    short = lit≤ tt;
  };
  size = refl;
}

-- with the end they are a whole body
pub frames_end : (pieces : List (List ℕ)) → AllByRecursion (λ piece. length piece < 2 ^ 64) pieces
    → IsChunkedBody (flat_map (frame Chunked) pieces ++ frame_end Chunked)
    (flat_map (λ piece. piece) pieces)
frames_end pieces h =
    let framed = frames_are pieces h in
    record {
      chunks = framed.chunks;
      last = zero_line;
      trailers = [];
      are_chunks = framed.are_chunks;
      is_last = zero_is_last;
      are_trailers = record { each = tt; short = lit≤ tt };
      spelled = ap (λ l. l ++ frame_end Chunked) framed.spelled ∙ simp append_assoc;
      payload_is = framed.payload_is;
    }

-- and before it a body that breaks off
pub frames_so_far : (pieces : List (List ℕ))
    → AllByRecursion (λ piece. length piece < 2 ^ 64) pieces
    → BreaksOff (flat_map (frame Chunked) pieces) (flat_map (λ piece. piece) pieces)
frames_so_far pieces h =
    let framed = frames_are pieces h in
    record {
      chunks = framed.chunks;
      rest = [];
      bytes = [];
      are_chunks = framed.are_chunks;
      is_break = inl (inl refl, refl);
      spelled = framed.spelled ∙ sym (append-nil _);
      payload_is = framed.payload_is ∙ sym (append-nil _);
    }
