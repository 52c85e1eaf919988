-- What stands behind bytes that were read one by one, and that a chunked body is read to its end.
use Rattle.std.proofs.Common.{◌≡◌, ◌≢◌, ℕ, ◌+◌, ◌-◌, ◌*◌, ◌^◌, ◌<◌, ◌≤◌, ◌⊎◌, Bool, true, false, List, [], ◌∷◌, ◌++◌, length, refl, sym, ap, ◌∙◌, arith, zero-add, add-one, inl, inr, subst, append-nil, append_assoc, length-append, lit≤}
use Rattle.std.specs.Prelude.{◌==◌, nat_lt, Option, Some, None, if◌then◌else◌, option_map, unwrap_or}
use Rattle.std.specs.List.{flat_map, AllByRecursion}
use Rattle.std.specs.Char.{is_ascii_hexdigit, digit_value}
use Rattle.std.specs.Str.Parse.{digits_value, digits_value_after}
use Rattle.std.proofs.Math.Nat.{pow-succ'}
use Rattle.std.proofs.lemmas.Bool.Decides.{nat_tests}
use Rattle.std.proofs.lemmas.Bool.{cases_lt, cases_Bool, ltb-true as below, eqb-false as unequal}
use Rattle.std.proofs.lemmas.Option.{option_and_then_some}
use Rattle.std.specs.Option.{option_and_then}
use Rattle.std.proofs.lemmas.List.Elements.{recursion_from_All, All-from_recursion, All-push}
use Rattle.std.proofs.lemmas.Grind.{flat_map-append}
use Rattle.httparse.specs.Ascii.{carriage_return, line_feed, semicolon, crlf_bytes}
use Rattle.httparse.specs.Grammar.{is_ows, is_extension_byte, ChunkLine, chunk_size, print_extension, IsExtension}
use Rattle.feed_wire.specs.declared.chunk.Chunking.{Chunking}
use Rattle.feed_wire.specs.declared.chunk.Chunking.TheVariants.{LineStart, InDigits, InPad, InExtension, LineCr, InBytes, BytesEnd, BytesCr, TrailerStart, InTrailer, TrailerCr, EndCr, Whole}
use Rattle.feed_wire.specs.ChunkedBody.{Chunk, IsChunk, IsSizeLine, size_line, print_chunk, carried, IsLastLine, IsTrailer, AreTrailers, IsChunkedBody, IsChunkedPrefix, BreaksOff, IsBreak, IsInChunk, IsInTrailers, print_trailers}
use Rattle.feed_wire.specs.ChunkReading.{next, after_size, in_trailer, after_line, brought_by, ReadsChunks, stays, goes, IsChunkPlace}
use Rattle.feed_wire.proofs.ChunkReading.{StandsIn, step, IsBringing, IsTrailing, if_either, none_some, some_some, brought_chunk, brought_is, brought_spelled, onto, as_lf, padded, are_push, line_of_padded, line_of_extended, positive, digit_small, length_push_trailer}

-- ---- sound: what was read is the prefix of a body

-- the payload of a chunk more
carried_push : (chunks : List Chunk) (c : Chunk)
    → carried (chunks ++ c ∷ []) ≡ carried chunks ++ c.bytes
carried_push chunks c = flat_map-append (λ x. x.bytes) chunks (c ∷ [])
    ∙ ap (λ t. carried chunks ++ t) (append-nil c.bytes)

print_more : (chunks : List Chunk) (c : Chunk)
    → flat_map print_chunk (chunks ++ c ∷ []) ≡ flat_map print_chunk chunks ++ print_chunk c
print_more chunks c = flat_map-append print_chunk chunks (c ∷ [])
    ∙ ap (λ t. flat_map print_chunk chunks ++ t) (append-nil (print_chunk c))

moves_in : (at t : Chunking) (b : ℕ) (text payload : List ℕ) → at ≢ BytesCr
    → StandsIn at text payload → next at b ≡ Some t
    → StandsIn t (text ++ b ∷ []) (payload ++ brought_by at b)
moves_in at t b text payload other s e = record {
  chunks = s.chunks;
  rest = s.rest ++ b ∷ [];
  bytes = s.bytes ++ brought_by at b;
  are_chunks = s.are_chunks;
  is_at = step at t b s.rest s.bytes other s.is_at e;
  spelled = onto text (flat_map print_chunk s.chunks) s.rest b s.spelled;
  payload_is = ap (λ p. p ++ brought_by at b) s.payload_is
      ∙ append_assoc (carried s.chunks) s.bytes (brought_by at b);
}

ends_chunk : (b : ℕ) (text payload : List ℕ) → StandsIn BytesCr text payload
    → (b == line_feed) ≡ true → StandsIn LineStart (text ++ b ∷ []) (payload ++ [])
ends_chunk b text payload s h =
    let chunk = brought_chunk s.rest s.bytes s.is_at.0 in
    record {
      chunks = s.chunks ++ chunk ∷ [];
      rest = [];
      bytes = [];
      are_chunks = recursion_from_All IsChunk _
          (All-push IsChunk s.chunks chunk (All-from_recursion IsChunk s.chunks s.are_chunks)
          (brought_is s.rest s.bytes s.is_at.0));
      is_at = (refl, refl);
      spelled = onto text (flat_map print_chunk s.chunks) s.rest b s.spelled
          ∙ ap (λ t. flat_map print_chunk s.chunks ++ t)
          (as_lf b s.rest (λ x. x ≡ print_chunk chunk) h
          (brought_spelled s.rest s.bytes s.is_at.0))
          ∙ sym (print_more s.chunks chunk) ∙ sym (append-nil _);
      payload_is = append-nil payload ∙ s.payload_is ∙ sym (carried_push s.chunks chunk)
          ∙ sym (append-nil _);
    }

moves : (at t : Chunking) (b : ℕ) (text payload : List ℕ) → StandsIn at text payload
    → next at b ≡ Some t → StandsIn t (text ++ b ∷ []) (payload ++ brought_by at b)
moves LineStart t b text payload s e = moves_in LineStart t b text payload (λ x. cc) s e
moves (InDigits n size) t b text payload s e = moves_in (InDigits n size) t b text payload
    (λ x. cc) s e
moves (InPad n size) t b text payload s e = moves_in (InPad n size) t b text payload (λ x. cc) s e
moves (InExtension n size) t b text payload s e = moves_in (InExtension n size) t b text payload
    (λ x. cc) s e
moves (LineCr size) t b text payload s e = moves_in (LineCr size) t b text payload (λ x. cc) s e
moves (InBytes left) t b text payload s e = moves_in (InBytes left) t b text payload (λ x. cc) s e
moves BytesEnd t b text payload s e = moves_in BytesEnd t b text payload (λ x. cc) s e
moves BytesCr t b text payload s e =
    if_either (b == line_feed) (Some LineStart) None t e
    (λ h k. subst (λ p. StandsIn p (text ++ b ∷ []) (payload ++ [])) (some_some LineStart t k)
    (ends_chunk b text payload s h))
    (λ _ k. none_some t k)
moves (TrailerStart n) t b text payload s e = moves_in (TrailerStart n) t b text payload
    (λ x. cc) s e
moves (InTrailer n) t b text payload s e = moves_in (InTrailer n) t b text payload (λ x. cc) s e
moves (TrailerCr n) t b text payload s e = moves_in (TrailerCr n) t b text payload (λ x. cc) s e
moves EndCr t b text payload s e = moves_in EndCr t b text payload (λ x. cc) s e
moves Whole t b text payload s e = moves_in Whole t b text payload (λ x. cc) s e

-- wherever a body stands, more bytes that can stand there bring it on
pub stands_on : (at to : Chunking) (bytes brought text payload : List ℕ) → ReadsChunks at bytes brought to
    → StandsIn at text payload → StandsIn to (text ++ bytes) (payload ++ brought)
stands_on at to bytes brought text payload (stays _) s = subst (λ t. StandsIn at t (payload ++ []))
    (sym (append-nil text)) (subst (λ p. StandsIn at text p) (sym (append-nil payload)) s)
stands_on at to bytes brought text payload (goes _ behind _ b more later e reads) s =
    let s2 = stands_on behind to more later (text ++ b ∷ []) (payload ++ brought_by at b) reads
    (moves at behind b text payload s e) in
    subst (λ t. StandsIn to t (payload ++ (brought_by at b ++ later)))
    (append_assoc text (b ∷ []) more)
    (subst (λ p. StandsIn to ((text ++ b ∷ []) ++ more) p)
    (append_assoc payload (brought_by at b) later) s2)

pub starts : StandsIn LineStart [] []
starts = record {
  chunks = [];
  rest = [];
  bytes = [];
  are_chunks = tt;
  is_at =
      (refl, refl);
  spelled = refl;
  payload_is = refl;
}

-- ---- what has come so far is the prefix of a body

breaks : (at : Chunking) (text payload : List ℕ) (s : StandsIn at text payload)
    → IsBreak s.rest s.bytes → IsChunkedPrefix text payload
breaks at text payload s is = inr
    (record {
      chunks = s.chunks;
      rest = s.rest;
      bytes = s.bytes;
      are_chunks =
          s.are_chunks;
      is_break = is;
      spelled = s.spelled;
      payload_is = s.payload_is;
    })

in_chunk : (text bytes : List ℕ) (left : ℕ) (end : List ℕ) → IsBringing text bytes left end
    → (end ≡ []) ⊎ ((end ≡ carriage_return ∷ []) × (left ≡ 0)) → IsInChunk text bytes
in_chunk text bytes left end h ends = record {
  line = h.line;
  end = end;
  is_line = h.is_line;
  some = h.some;
  fits = omega (arith, h.size_is);
  ends = elim ends [ inl none ↦ inl none | inr cr ↦ inr (cr.0, omega (arith, h.size_is, cr.1)) ];
  spelled = h.spelled ∙ simp append_assoc;
}

in_trailers : (text part end : List ℕ) (n : ℕ) → IsTrailing text part end n
    → (part ≡ []) ⊎ ((0 < length part) × (n ≤ 8190)) → (end ≡ []) ⊎ (end ≡ carriage_return ∷ [])
    → IsInTrailers text
in_trailers text part end n h is_part ends = record {
  last = h.last;
  trailers = h.trailers;
  part = part;
  end = end;
  is_last = h.is_last;
  are_trailers = h.are_trailers;
  is_part = elim is_part [
    | inl none ↦ inl none
    | inr some ↦ inr
        (are_push h.trailers part n h.are_trailers h.is_part some.0 h.many some.1)
  ];
  ends = ends;
  spelled = h.spelled ∙ simp append_assoc;
}

-- a whole body
pub is_whole : (text payload : List ℕ) → StandsIn Whole text payload → IsChunkedBody text payload
is_whole text payload s =
    let (n, h) = s.is_at.0 in
    record {
      chunks = s.chunks;
      last = h.last;
      trailers = h.trailers;
      are_chunks = s.are_chunks;
      is_last = h.is_last;
      are_trailers = h.are_trailers;
      spelled = s.spelled ∙ ap (λ t. flat_map print_chunk s.chunks ++ t) h.spelled
          ∙ simp append_assoc;
      payload_is = s.payload_is ∙ ap (λ y. carried s.chunks ++ y) s.is_at.1 ∙ append-nil _;
    }

pub is_prefix : (at : Chunking) (text payload : List ℕ) → StandsIn at text payload
    → IsChunkedPrefix text payload
is_prefix LineStart text payload s = breaks LineStart text payload s (inl (inl s.is_at.0, s.is_at.1))
is_prefix (InDigits n size) text payload s =
    let (l, is, same) = line_of_padded s.rest n size (padded s.rest n size 0 s.is_at.0) in
    breaks (InDigits n size) text payload s
    (inl (inr (l, [], is, inl refl, same ∙ sym (append-nil _)), s.is_at.1))
is_prefix (InPad n size) text payload s =
    let (l, is, same) = line_of_padded s.rest n size s.is_at.0 in
    breaks (InPad n size) text payload s
    (inl (inr (l, [], is, inl refl, same ∙ sym (append-nil _)), s.is_at.1))
is_prefix (InExtension n size) text payload s =
    let (l, is, same) = line_of_extended s.rest n size s.is_at.0 in
    breaks (InExtension n size) text payload s
    (inl (inr (l, [], is, inl refl, same ∙ sym (append-nil _)), s.is_at.1))
is_prefix (LineCr size) text payload s =
    let h = s.is_at.0 in
    breaks (LineCr size) text payload s
    (inl (inr (h.line, carriage_return ∷ [], h.is_line, inr refl, h.spelled), s.is_at.1))
is_prefix (InBytes left) text payload s = breaks (InBytes left) text payload s
    (inr (inl (in_chunk s.rest s.bytes left [] s.is_at.0 (inl refl))))
is_prefix BytesEnd text payload s = breaks BytesEnd text payload s
    (inr (inl (in_chunk s.rest s.bytes 0 [] s.is_at.0 (inl refl))))
is_prefix BytesCr text payload s = breaks BytesCr text payload s
    (inr (inl (in_chunk s.rest s.bytes 0 (carriage_return ∷ []) s.is_at.0 (inr (refl, refl)))))
is_prefix (TrailerStart n) text payload s = breaks (TrailerStart n) text payload s
    (inr (inr (in_trailers s.rest [] [] n s.is_at.0 (inl refl) (inl refl), s.is_at.1)))
is_prefix (InTrailer n) text payload s =
    let (part, h, some, small) = s.is_at.0 in
    breaks (InTrailer n) text payload s
    (inr (inr (in_trailers s.rest part [] n h (inr (some, small)) (inl refl), s.is_at.1)))
is_prefix (TrailerCr n) text payload s =
    let (part, h, some, small) = s.is_at.0 in
    breaks (TrailerCr n) text payload s
    (inr (inr (
      in_trailers s.rest part (carriage_return ∷ []) n h (inr (some, small))
          (inr refl),
      s.is_at.1,
    )))
is_prefix EndCr text payload s =
    let (n, h) = s.is_at.0 in
    breaks EndCr text payload s
    (inr (inr (
      in_trailers s.rest [] (carriage_return ∷ []) n h (inl refl)
          (inr refl),
      s.is_at.1,
    )))
is_prefix Whole text payload s = inl (is_whole text payload s)

-- ---- complete: the prefix of a body is read

-- one run behind another
pub reads_both : (at middle to : Chunking) (x p y q : List ℕ) → ReadsChunks at x p middle
    → ReadsChunks middle y q to → ReadsChunks at (x ++ y) (p ++ q) to
reads_both at middle to x p y q (stays _) second = second
reads_both at middle to x p y q (goes _ behind _ b more later e first) second =
    subst (λ payload. ReadsChunks at ((b ∷ more) ++ y) payload to)
    (sym (append_assoc (brought_by at b) later q))
    (goes at behind to b (more ++ y) (later ++ q) e
    (reads_both behind middle to more later y q first second))

-- a run with these texts, written otherwise
pub reads_as : (at to : Chunking) (x y p q : List ℕ) → x ≡ y → p ≡ q → ReadsChunks at x p to
    → ReadsChunks at y q to
reads_as at to x y p q e f r = subst (λ t. ReadsChunks at t q to) e (subst (λ t. ReadsChunks at x t to) f r)

one : (at to : Chunking) (b : ℕ) → next at b ≡ Some to
    → ReadsChunks at (b ∷ []) (brought_by at b ++ []) to
one at to b e = goes at to to b [] [] e (stays to)

digits_run : (ds : List ℕ) (n m size : ℕ) → AllByRecursion (λ b. is_ascii_hexdigit b ≡ true) ds
    → m ≡ n + length ds → m ≤ 16
    → ReadsChunks (InDigits n size) ds [] (InDigits m (digits_value_after 16 size ds))
digits_run [] n m size h e few = let same : n ≡ m = omega arith in subst
    (λ k. ReadsChunks (InDigits n size) [] [] (InDigits k size)) same (stays (InDigits n size))
digits_run (d ∷ ds) n m size h e few =
    let room : nat_lt n 16 ≡ true = grind (arith, nat_tests) in
    goes (InDigits n size) (InDigits (n + 1) (size * 16 + digit_value d))
    (InDigits m (digits_value_after 16 size (d ∷ ds))) d ds []
    (rw h.0 (rw room refl))
    (digits_run ds (n + 1) m (size * 16 + digit_value d) h.1 (omega arith) few)

-- the digits of a size line may end here
abbrev EndsSize : Chunking → ℕ → ℕ → Type 0
EndsSize at n size = (b : ℕ) → is_ascii_hexdigit b ≡ false → next at b ≡ after_size n size b

ends_digits : (n size : ℕ) → EndsSize (InDigits n size) n size
ends_digits n size b h = rw h refl

ends_pad : (n size : ℕ) → EndsSize (InPad n size) n size
ends_pad n size b h = refl

ows_is_no_digit : (b : ℕ) → is_ows b ≡ true → is_ascii_hexdigit b ≡ false
ows_is_no_digit b h = grind (arith, nat_tests)

ows_is_no_cr : (b : ℕ) → is_ows b ≡ true → (b == carriage_return) ≡ false
ows_is_no_cr b h = grind (arith, nat_tests)

-- a place in a size line
abbrev is_in_line : Chunking → Bool
is_in_line (InPad n size) = true
is_in_line (InExtension n size) = true
is_in_line (LineCr size) = true
is_in_line _ = false

-- a byte that leads there is none of a chunk's
none_brought : (at t : Chunking) (b : ℕ) → next at b ≡ Some t → is_in_line t ≡ true
    → brought_by at b ++ [] ≡ []
none_brought (InBytes left) t b e is =
    if_either (left == 1) (Some BytesEnd) (Some (InBytes (left - 1))) t e
    (λ _ k. let same : false ≡ true = ap is_in_line (some_some BytesEnd t k) ∙ is in cc)
    (λ _ k. let same : false ≡ true = ap is_in_line (some_some (InBytes (left - 1)) t k) ∙ is in cc)
none_brought _ t b e is = refl

-- a byte of a size line, and then these
goes_in_line : (at behind to : Chunking) (b : ℕ) (bytes : List ℕ) → next at b ≡ Some behind
    → is_in_line behind ≡ true → ReadsChunks behind bytes [] to → ReadsChunks at (b ∷ bytes) [] to
goes_in_line at behind to b bytes e is reads = subst (λ p. ReadsChunks at (b ∷ bytes) p to)
    (none_brought at behind b e is) (goes at behind to b bytes [] e reads)

pad_run : (pad : List ℕ) (at : Chunking) (n m size : ℕ) → EndsSize at n size
    → AllByRecursion (λ b. is_ows b ≡ true) pad → m ≡ n + length pad → m ≤ 1024
    → (to : Chunking) × EndsSize to m size × ReadsChunks at pad [] to
pad_run [] at n m size ends h e short = let same : n ≡ m =
    omega arith in (at, subst (λ k. EndsSize at k size) same ends, stays at)
pad_run (b ∷ pad) at n m size ends h e short =
    let room : nat_lt n 1024 ≡ true = grind (arith, nat_tests) in
    let (to, ends2, reads) = pad_run pad (InPad (n + 1) size) (n + 1) m size
    (ends_pad (n + 1) size) h.1 (omega arith) short in
    let no_cr = ows_is_no_cr b h.0 in
    let goes_there : after_size n size b ≡ Some (InPad (n + 1) size) = rw no_cr
    (rw room (rw h.0 refl)) in (
      to,
      ends2,
      goes_in_line at (InPad (n + 1) size) to b pad (ends b (ows_is_no_digit b h.0)
          ∙ goes_there) refl reads,
    )

text_is_no_cr : (b : ℕ) → is_extension_byte b ≡ true → (b == carriage_return) ≡ false
text_is_no_cr b h = grind (arith, nat_tests)

text_is_no_lf : (b : ℕ) → is_extension_byte b ≡ true → (b == line_feed) ≡ false
text_is_no_lf b h = grind (arith, nat_tests)

extension_run : (bytes : List ℕ) (n m size : ℕ)
    → AllByRecursion (λ b. is_extension_byte b ≡ true) bytes → m ≡ n + length bytes → m ≤ 1024
    → ReadsChunks (InExtension n size) bytes [] (InExtension m size)
extension_run [] n m size h e short = let same : n ≡ m = omega arith in subst
    (λ k. ReadsChunks (InExtension n size) [] [] (InExtension k size)) same (stays (InExtension n size))
extension_run (b ∷ bytes) n m size h e short =
    let room : nat_lt n 1024 ≡ true = grind (arith, nat_tests) in
    let no_cr = text_is_no_cr b h.0 in
    let no_lf = text_is_no_lf b h.0 in
    goes (InExtension n size) (InExtension (n + 1) size) (InExtension m size) b bytes []
    (rw no_cr (rw no_lf (rw room refl)))
    (extension_run bytes (n + 1) m size h.1 (omega arith) short)

-- what may follow the digits of a size line
extended_run : (extension : Option (List ℕ)) (at : Chunking) (n size : ℕ) → EndsSize at n size
    → IsExtension extension → n + length (print_extension extension) ≤ 1024
    → (to : Chunking) × (next to carriage_return ≡ Some (LineCr size))
    × ReadsChunks at (print_extension extension) [] to
extended_run None at n size ends h short = (at, ends carriage_return refl, stays at)
extended_run (Some text) at n size ends h short =
    let room : nat_lt n 1024 ≡ true = grind (arith, nat_tests) in
    let semi : after_size n size semicolon ≡ Some (InExtension (n + 1) size) = rw room refl in (
      InExtension (n + 1 + length text) size,
      refl,
      goes_in_line at (InExtension (n + 1) size) (InExtension (n + 1 + length text) size) semicolon
          text (ends semicolon refl ∙ semi) refl
          (extension_run text (n + 1) (n + 1 + length text) size
          (recursion_from_All (λ b. is_extension_byte b ≡ true) text h) refl (omega arith)),
    )

line_run : (digits pad : List ℕ) (extension : Option (List ℕ)) → 0 < length digits
    → length digits ≤ 16 → AllByRecursion (λ b. is_ascii_hexdigit b ≡ true) digits
    → AllByRecursion (λ b. is_ows b ≡ true) pad
    → IsExtension extension → length ((digits ++ pad) ++ print_extension extension) ≤ 1024
    → (to : Chunking) × (next to carriage_return ≡ Some (LineCr (digits_value 16 digits)))
    × ReadsChunks LineStart ((digits ++ pad) ++ print_extension extension) [] to
line_run [] pad extension some few hex ows is short = absurd (omega arith)
line_run (d ∷ ds) pad extension some few hex ows is short =
    let value : digits_value_after 16 (digit_value d) ds ≡ digits_value 16 (d ∷ ds) =
    ap (λ k. digits_value_after 16 k ds) (sym (zero-add (digit_value d))) in
    let size = digits_value_after 16 (digit_value d) ds in
    let n = 1 + length ds in
    let digits : ReadsChunks (InDigits 1 (digit_value d)) ds [] (InDigits n size) = digits_run ds 1 n
    (digit_value d) hex.1 refl (omega arith) in
    let first : ReadsChunks LineStart (d ∷ ds) [] (InDigits n size) = goes LineStart
    (InDigits 1 (digit_value d)) (InDigits n size) d ds [] (rw hex.0 refl) digits in
    let within : n + length pad + length (print_extension extension) ≤ 1024 =
    omega (
      arith,
      length-append ((d ∷ ds) ++ pad) (print_extension extension),
      length-append
          (d ∷ ds) pad,
    ) in
    let padding = pad_run pad (InDigits n size) n (n + length pad) size
    (ends_digits n size) ows refl (omega arith) in
    let extending = extended_run extension padding.0 (n + length pad) size padding.1 is within in (
      extending.0,
      subst (λ k. next extending.0 carriage_return ≡ Some (LineCr k)) value extending.1,
      reads_both LineStart padding.0 extending.0 ((d ∷ ds) ++ pad) [] (print_extension extension) []
          (reads_both LineStart (InDigits n size) padding.0 (d ∷ ds) [] pad [] first padding.2)
          extending.2,
    )

-- a size line with its CR
lined_run : (l : ChunkLine) → IsSizeLine l
    → ReadsChunks LineStart (size_line l ++ carriage_return ∷ []) [] (LineCr (chunk_size l))
lined_run l is =
    let run = line_run l.digits l.pad l.extension is.is_line.digits.0 is.is_line.digits.1
    (recursion_from_All (λ b. is_ascii_hexdigit b ≡ true) l.digits is.is_line.digits.2)
    (recursion_from_All (λ b. is_ows b ≡ true) l.pad is.is_line.pad) is.is_line.extension
    is.short in
    reads_both LineStart run.0 (LineCr (chunk_size l)) (size_line l) []
    (carriage_return ∷ []) [] run.2
    (goes_in_line run.0 (LineCr (chunk_size l)) (LineCr (chunk_size l)) carriage_return [] run.1
    refl (stays (LineCr (chunk_size l))))

-- and with its CR LF
pub whole_line_run : (l : ChunkLine) → IsSizeLine l
    → ReadsChunks LineStart (size_line l ++ crlf_bytes) [] (after_line (chunk_size l))
whole_line_run l is =
    subst (λ t. ReadsChunks LineStart t [] (after_line (chunk_size l)))
    (append_assoc (size_line l) (carriage_return ∷ []) (line_feed ∷ []))
    (reads_both LineStart (LineCr (chunk_size l)) (after_line (chunk_size l))
    (size_line l ++ carriage_return ∷ []) [] (line_feed ∷ []) [] (lined_run l is)
    (goes (LineCr (chunk_size l)) (after_line (chunk_size l)) (after_line (chunk_size l)) line_feed
    [] [] refl (stays (after_line (chunk_size l)))))

-- ---- the bytes of a chunk

left_lemma : (left k : ℕ) → (left == 1) ≡ false → left ≡ 1 + k → 0 < k
left_lemma left k h e = grind (arith, nat_tests)

not_last : (k : ℕ) → 0 < k → ((1 + k) == 1) ≡ false
not_last k h = grind (arith, nat_tests)

-- some of them
pub some_run : (bytes : List ℕ) (left to : ℕ) → left ≡ length bytes + to → 0 < to
    → ReadsChunks (InBytes left) bytes bytes (InBytes to)
some_run [] left to e some = let same : left ≡ to = omega arith in subst
    (λ k. ReadsChunks (InBytes left) [] [] (InBytes k)) same (stays (InBytes left))
some_run (b ∷ bytes) left to e some =
    let more : (left == 1) ≡ false = grind (arith, nat_tests) in
    goes (InBytes left) (InBytes (left - 1)) (InBytes to) b bytes bytes (rw more refl)
    (some_run bytes (left - 1) to (omega arith) some)

-- all of them
pub all_run : (bytes : List ℕ) (left : ℕ) → left ≡ length bytes → 0 < left
    → ReadsChunks (InBytes left) bytes bytes BytesEnd
all_run [] left e some = absurd (omega arith)
all_run (b ∷ []) left e some =
    let last : (left == 1) ≡ true = grind (arith, nat_tests) in
    goes (InBytes left) BytesEnd BytesEnd b [] [] (rw last refl) (stays BytesEnd)
all_run (b ∷ (c ∷ bytes)) left e some =
    let more : (left == 1) ≡ false = grind (arith, nat_tests) in
    goes (InBytes left) (InBytes (left - 1)) BytesEnd b (c ∷ bytes) (c ∷ bytes) (rw more refl)
    (all_run (c ∷ bytes) (left - 1) (omega arith) (omega arith))

after_some : (size : ℕ) → 0 < size → after_line size ≡ InBytes size
after_some size some = let zeros : (size == 0) ≡ false = grind (arith, nat_tests) in rw zeros refl

crlf_run : ReadsChunks BytesEnd crlf_bytes [] LineStart
crlf_run = goes BytesEnd BytesCr LineStart carriage_return (line_feed ∷ []) [] refl
    (goes BytesCr LineStart LineStart line_feed [] [] refl (stays LineStart))

-- a size line of a chunk, and then these bytes
pub bytes_from : (l : ChunkLine) (bytes brought : List ℕ) (to : Chunking) → IsSizeLine l
    → 0 < chunk_size l → ReadsChunks (InBytes (chunk_size l)) bytes brought to
    → ReadsChunks LineStart (size_line l ++ (crlf_bytes ++ bytes)) brought to
bytes_from l bytes brought to is some reads =
    subst (λ t. ReadsChunks LineStart t brought to) (append_assoc (size_line l) crlf_bytes bytes)
    (reads_both LineStart (InBytes (chunk_size l)) to (size_line l ++ crlf_bytes) [] bytes brought
    (subst (λ p. ReadsChunks LineStart (size_line l ++ crlf_bytes) [] p)
    (after_some (chunk_size l) some) (whole_line_run l is)) reads)

-- a whole chunk
pub chunk_run : (c : Chunk) → IsChunk c → ReadsChunks LineStart (print_chunk c) c.bytes LineStart
chunk_run c is =
    let size_is = is.size in
    let data_run : ReadsChunks (InBytes (chunk_size c.line)) c.bytes c.bytes BytesEnd = all_run c.bytes
    (chunk_size c.line) is.size (omega (arith, is.some)) in
    reads_as LineStart LineStart (size_line c.line ++ (crlf_bytes ++ (c.bytes ++ crlf_bytes)))
    (print_chunk c) (c.bytes ++ []) c.bytes (sym (simp append_assoc)) (append-nil c.bytes)
    (bytes_from c.line (c.bytes ++ crlf_bytes) (c.bytes ++ []) LineStart is.line
    (omega (arith, is.some))
    (reads_both (InBytes (chunk_size c.line)) BytesEnd LineStart c.bytes c.bytes crlf_bytes []
    data_run crlf_run))

pub chunks_run : (chunks : List Chunk) → AllByRecursion IsChunk chunks
    → ReadsChunks LineStart (flat_map print_chunk chunks) (carried chunks) LineStart
chunks_run [] are = stays LineStart
chunks_run (c ∷ chunks) are = reads_both LineStart LineStart LineStart (print_chunk c) c.bytes
    (flat_map print_chunk chunks) (carried chunks) (chunk_run c are.0) (chunks_run chunks are.1)

-- ---- the trailer lines

trailer_byte : (n b : ℕ) → is_extension_byte b ≡ true → n < 8190
    → in_trailer n b ≡ Some (InTrailer (n + 1))
trailer_byte n b h small =
    let room : nat_lt n 8190 ≡ true = grind (arith, nat_tests) in
    let no_lf = text_is_no_lf b h in
    rw no_lf (rw room refl)

part_run : (part : List ℕ) (n m : ℕ) → AllByRecursion (λ b. is_extension_byte b ≡ true) part
    → m ≡ n + length part → m ≤ 8190 → ReadsChunks (InTrailer n) part [] (InTrailer m)
part_run [] n m h e short = let same : n ≡ m = omega arith in subst
    (λ k. ReadsChunks (InTrailer n) [] [] (InTrailer k)) same (stays (InTrailer n))
part_run (b ∷ part) n m h e short =
    let no_cr = text_is_no_cr b h.0 in
    goes (InTrailer n) (InTrailer (n + 1)) (InTrailer m) b part []
    (rw no_cr (trailer_byte n b h.0 (omega arith)))
    (part_run part (n + 1) m h.1 (omega arith) short)

-- an unfinished trailer line
pub unfinished_run : (part : List ℕ) (n m : ℕ) → IsTrailer part → m ≡ n + length part → m ≤ 8190
    → ReadsChunks (TrailerStart n) part [] (InTrailer m)
unfinished_run [] n m is e short = absurd (omega (arith, is.0))
unfinished_run (b ∷ part) n m is e short =
    let all = recursion_from_All (λ c. is_extension_byte c ≡ true) (b ∷ part) is.1 in
    let no_cr = text_is_no_cr b all.0 in
    goes (TrailerStart n) (InTrailer (n + 1)) (InTrailer m) b part []
    (rw no_cr (trailer_byte n b all.0 (omega arith)))
    (part_run part (n + 1) m all.1 (omega arith) short)

trailer_run : (text : List ℕ) (n m : ℕ) → IsTrailer text → m ≡ n + length text → m ≤ 8190
    → ReadsChunks (TrailerStart n) (text ++ crlf_bytes) [] (TrailerStart (m + 2))
trailer_run text n m is e short =
    reads_both (TrailerStart n) (InTrailer m) (TrailerStart (m + 2)) text [] crlf_bytes []
    (unfinished_run text n m is e short)
    (goes (InTrailer m) (TrailerCr m) (TrailerStart (m + 2)) carriage_return
    (line_feed ∷ []) [] refl
    (goes (TrailerCr m) (TrailerStart (m + 2)) (TrailerStart (m + 2)) line_feed [] [] refl
    (stays (TrailerStart (m + 2)))))

pub trailers_run : (trailers : List (List ℕ)) (n m : ℕ) → AllByRecursion IsTrailer trailers
    → m ≡ n + length (print_trailers trailers) → m ≤ 8192
    → ReadsChunks (TrailerStart n) (print_trailers trailers) [] (TrailerStart m)
trailers_run [] n m are e short = let same : n ≡ m = omega arith in subst
    (λ k. ReadsChunks (TrailerStart n) [] [] (TrailerStart k)) same (stays (TrailerStart n))
trailers_run (t ∷ trailers) n m are e short =
    let grown : length (print_trailers (t ∷ trailers)) ≡ length t + 2 + length
    (print_trailers trailers) = length-append (t ++ crlf_bytes) (print_trailers trailers)
    ∙ ap (λ k. k + length (print_trailers trailers)) (length-append t crlf_bytes) in
    reads_both (TrailerStart n) (TrailerStart (n + length t + 2)) (TrailerStart m)
    (t ++ crlf_bytes) [] (print_trailers trailers) []
    (trailer_run t n (n + length t) are.0 refl (omega arith))
    (trailers_run trailers (n + length t + 2) m are.1 (omega arith) short)

-- ---- every prefix of a body is read

last_from : (l : ChunkLine) (text payload : List ℕ) (to : Chunking) → IsLastLine l
    → ReadsChunks (TrailerStart 0) text payload to
    → ReadsChunks LineStart (size_line l ++ (crlf_bytes ++ text)) payload to
last_from l text payload to is reads =
    subst (λ t. ReadsChunks LineStart t payload to) (append_assoc (size_line l) crlf_bytes text)
    (reads_both LineStart (TrailerStart 0) to (size_line l ++ crlf_bytes) [] text payload
    (subst (λ p. ReadsChunks LineStart (size_line l ++ crlf_bytes) [] (after_line p)) is.size
    (whole_line_run l is.line)) reads)

end_run : (n : ℕ) → ReadsChunks (TrailerStart n) crlf_bytes [] Whole
end_run n = goes (TrailerStart n) EndCr Whole carriage_return (line_feed ∷ []) [] refl
    (goes EndCr Whole Whole line_feed [] [] refl (stays Whole))

pub body_run : (text payload : List ℕ) → IsChunkedBody text payload
    → ReadsChunks LineStart text payload Whole
body_run text payload b =
    let n = length (print_trailers b.trailers) in
    let short = b.are_trailers.short in
    let trailing : ReadsChunks (TrailerStart 0) (print_trailers b.trailers ++ crlf_bytes) [] Whole =
    reads_both (TrailerStart 0) (TrailerStart n) Whole (print_trailers b.trailers) [] crlf_bytes []
    (trailers_run b.trailers 0 n b.are_trailers.each (omega arith) short) (end_run n) in
    reads_as LineStart Whole
    (flat_map print_chunk b.chunks
    ++ (size_line b.last ++ (crlf_bytes ++ (print_trailers b.trailers ++ crlf_bytes)))) text
    (carried b.chunks ++ []) payload
    (sym (b.spelled ∙ simp append_assoc)) (append-nil _ ∙ sym b.payload_is)
    (reads_both LineStart LineStart Whole (flat_map print_chunk b.chunks) (carried b.chunks)
    (size_line b.last ++ (crlf_bytes ++ (print_trailers b.trailers ++ crlf_bytes))) []
    (chunks_run b.chunks b.are_chunks)
    (last_from b.last (print_trailers b.trailers ++ crlf_bytes) [] Whole b.is_last trailing))

-- the bytes lead to a place that is not the end
pub record Leads (at : Chunking) (text payload : List ℕ) : Type 0 where
  pub to : Chunking
  pub reads : ReadsChunks at text payload to
  pub going : to ≢ Whole

in_line_going : (at : Chunking) (size : ℕ) → next at carriage_return ≡ Some (LineCr size)
    → at ≢ Whole
in_line_going at size e same =
    let none : ◌≡◌ {A = Option Chunking} None (Some (LineCr size)) = subst
    (λ p. next p carriage_return ≡ Some (LineCr size)) same e in
    cc

line_leads : (l : ChunkLine) (end : List ℕ) → IsSizeLine l
    → (end ≡ []) ⊎ (end ≡ carriage_return ∷ []) → Leads LineStart (size_line l ++ end) []
line_leads l end is (inl none) =
    let run = line_run l.digits l.pad l.extension is.is_line.digits.0 is.is_line.digits.1
    (recursion_from_All (λ b. is_ascii_hexdigit b ≡ true) l.digits is.is_line.digits.2)
    (recursion_from_All (λ b. is_ows b ≡ true) l.pad is.is_line.pad) is.is_line.extension
    is.short in
    record {
      to = run.0;
      reads = subst (λ t. ReadsChunks LineStart t [] run.0)
          (sym (ap (λ t. size_line l ++ t) none ∙ append-nil (size_line l))) run.2;
      going =
          in_line_going run.0 (chunk_size l) run.1;
    }
line_leads l end is (inr cr) =
    record {
      to = LineCr (chunk_size l);
      reads = subst
          (λ t. ReadsChunks LineStart (size_line l ++ t) [] (LineCr (chunk_size l))) (sym cr)
          (lined_run l is);
      going = λ same. cc;
    }

module _ (text bytes : List ℕ) (h : IsInChunk text bytes) where
  chunk_spelled : size_line h.line ++ (crlf_bytes ++ (bytes ++ h.end)) ≡ text
  chunk_spelled = sym (h.spelled ∙ simp append_assoc)

  -- further bytes are to come
  some_leads : h.end ≡ [] → length bytes < chunk_size h.line → Leads LineStart text bytes
  some_leads none few =
      let left = chunk_size h.line - length bytes in
      record {
        to = InBytes left;
        reads = reads_as LineStart (InBytes left)
            (size_line h.line ++ (crlf_bytes ++ (bytes ++ h.end))) text bytes bytes chunk_spelled
            refl
            (bytes_from h.line (bytes ++ h.end) bytes (InBytes left) h.is_line h.some
            (subst (λ t. ReadsChunks (InBytes (chunk_size h.line)) t bytes (InBytes left))
            (sym (ap (λ t. bytes ++ t) none ∙ append-nil bytes))
            (some_run bytes (chunk_size h.line) left (omega arith) (omega arith))));
        going = λ same. cc;
      }

  -- all have come
  all_leads : chunk_size h.line ≡ length bytes → (h.end ≡ []) ⊎ (h.end ≡ carriage_return ∷ [])
      → Leads LineStart text bytes
  all_leads full (inl none) = record {
    to = BytesEnd;
    reads = reads_as LineStart BytesEnd (size_line h.line ++ (crlf_bytes ++ (bytes ++ h.end))) text
        bytes bytes chunk_spelled refl
        (bytes_from h.line (bytes ++ h.end) bytes BytesEnd h.is_line h.some
        (subst (λ t. ReadsChunks (InBytes (chunk_size h.line)) t bytes BytesEnd)
        (sym (ap (λ t. bytes ++ t) none ∙ append-nil bytes))
        (all_run bytes (chunk_size h.line) full h.some)));
    going = λ same. cc;
  }
  all_leads full (inr cr) = record {
    to = BytesCr;
    reads = reads_as LineStart BytesCr (size_line h.line ++ (crlf_bytes ++ (bytes ++ h.end))) text
        (bytes ++ []) bytes chunk_spelled (append-nil bytes)
        (bytes_from h.line (bytes ++ h.end) (bytes ++ []) BytesCr h.is_line h.some
        (subst (λ t. ReadsChunks (InBytes (chunk_size h.line)) (bytes ++ t) (bytes ++ []) BytesCr)
        (sym cr)
        (reads_both (InBytes (chunk_size h.line)) BytesEnd BytesCr bytes bytes
        (carriage_return ∷ []) [] (all_run bytes (chunk_size h.line) full h.some)
        (goes BytesEnd BytesCr BytesCr carriage_return [] [] refl (stays BytesCr)))));
    going = λ same. cc;
  }

chunk_leads : (text bytes : List ℕ) → IsInChunk text bytes → Leads LineStart text bytes
chunk_leads text bytes h =
    elim h.ends [
      | inl none ↦ with_none none
      | inr cr ↦ all_leads text bytes h (sym cr.1)
          (inr cr.0)
    ]
  where
    with_none : h.end ≡ [] → Leads LineStart text bytes
    with_none none =
        let fits : length bytes ≤ chunk_size h.line = h.fits in
        elim (cases_lt (length bytes) (chunk_size h.line)) [
          | inl few ↦ some_leads text bytes h none few
          | inr full ↦ all_leads text bytes h
              (let e : chunk_size h.line ≡ length bytes = omega arith in e) (inl none)
        ]

module _ (text : List ℕ) (h : IsInTrailers text) where
  trailing_to : (part_text payload : List ℕ) (to : Chunking) → h.part ++ h.end ≡ part_text
      → ReadsChunks (TrailerStart (length (print_trailers h.trailers))) part_text [] to
      → ReadsChunks LineStart text [] to
  trailing_to part_text payload to same reads =
      let spelled : text ≡ size_line h.last
      ++ (crlf_bytes ++ (print_trailers h.trailers ++ (h.part ++ h.end))) = h.spelled
      ∙ simp append_assoc in
      reads_as LineStart to
      (size_line h.last ++ (crlf_bytes ++ (print_trailers h.trailers ++ part_text))) text [] []
      (sym (spelled ∙ ap (λ t. size_line h.last ++ (crlf_bytes ++ (print_trailers h.trailers ++ t)))
      same)) refl
      (last_from h.last (print_trailers h.trailers ++ part_text) [] to h.is_last
      (reads_both (TrailerStart 0) (TrailerStart (length (print_trailers h.trailers))) to
      (print_trailers h.trailers) [] part_text []
      (trailers_run h.trailers 0 (length (print_trailers h.trailers)) h.are_trailers.each
      (omega arith) h.are_trailers.short) reads))

  no_part_leads : h.part ≡ [] → (h.end ≡ []) ⊎ (h.end ≡ carriage_return ∷ [])
      → Leads LineStart text []
  no_part_leads none (inl empty) =
      record {
        to = TrailerStart (length (print_trailers h.trailers));
        reads = trailing_to [] []
            (TrailerStart (length (print_trailers h.trailers))) (ap (λ t. t ++ h.end) none ∙ empty)
            (stays (TrailerStart (length (print_trailers h.trailers))));
        going = λ same. cc;
      }
  no_part_leads none (inr cr) =
      record {
        to = EndCr;
        reads = trailing_to (carriage_return ∷ []) [] EndCr
            (ap (λ t. t ++ h.end) none ∙ cr)
            (goes (TrailerStart (length (print_trailers h.trailers))) EndCr EndCr carriage_return [] []
            refl (stays EndCr));
        going = λ same. cc;
      }

  part_leads : AreTrailers (h.trailers ++ h.part ∷ [])
      → (h.end ≡ []) ⊎ (h.end ≡ carriage_return ∷ []) → Leads LineStart text []
  part_leads are ends =
      let n = length (print_trailers h.trailers) in
      let all = All-from_recursion IsTrailer (h.trailers ++ h.part ∷ []) are.each in
      let is : IsTrailer h.part = last_of_all IsTrailer h.trailers h.part are.each in
      let grown : length (print_trailers (h.trailers ++ h.part ∷ [])) ≡ length
      (print_trailers h.trailers ++ h.part) + 2 = length_push_trailer h.trailers h.part
      (length (print_trailers h.trailers ++ h.part)) refl in
      let short : n + length h.part ≤ 8190 =
      omega (arith, are.short, length-append (print_trailers h.trailers) h.part) in
      let m = n + length h.part in
      elim ends [
        | inl empty ↦ record {
          to = InTrailer m;
          reads = trailing_to h.part [] (InTrailer m)
              (ap (λ t. h.part ++ t) empty ∙ append-nil h.part)
              (unfinished_run h.part n m is refl short);
          going = λ same. cc;
        }
        | inr cr ↦ record {
          to = TrailerCr m;
          reads = trailing_to (h.part ++ carriage_return ∷ []) [] (TrailerCr m)
              (ap (λ t. h.part ++ t) cr)
              (reads_both (TrailerStart n) (InTrailer m) (TrailerCr m) h.part []
              (carriage_return ∷ []) [] (unfinished_run h.part n m is refl short)
              (goes (InTrailer m) (TrailerCr m) (TrailerCr m) carriage_return [] [] refl
              (stays (TrailerCr m))));
          going = λ same. cc;
        }
      ]
    where
      last_of_all : (P : List ℕ → Type 0) (xs : List (List ℕ)) (x : List ℕ)
          → AllByRecursion P (xs ++ x ∷ []) → P x
      last_of_all P [] x h = h.0
      last_of_all P (y ∷ ys) x h = last_of_all P ys x h.1

break_leads : (text bytes : List ℕ) → IsBreak text bytes → Leads LineStart text bytes
break_leads text bytes (inl (inl none, empty)) =
    record {
      to = LineStart;
      reads = reads_as LineStart LineStart [] text [] bytes (sym none)
          (sym empty) (stays LineStart);
      going = λ same. cc;
    }
break_leads text bytes (inl (inr (l, end, is, ends, spelled), empty)) =
    let leads = line_leads l end is ends in
    record {
      to = leads.to;
      reads = reads_as LineStart leads.to (size_line l ++ end) text [] bytes
          (sym spelled) (sym empty) leads.reads;
      going = leads.going;
    }
break_leads text bytes (inr (inl chunk)) = chunk_leads text bytes chunk
break_leads text bytes (inr (inr (h, empty))) =
    let leads : Leads LineStart text [] =
    elim h.is_part [
      | inl none ↦ no_part_leads text h none h.ends
      | inr are ↦ part_leads text h
          are h.ends
    ] in
    record {
      to = leads.to;
      reads = reads_as LineStart leads.to text text [] bytes refl
          (sym empty) leads.reads;
      going = leads.going;
    }

pub breaks_off_leads : (text payload : List ℕ) → BreaksOff text payload
    → Leads LineStart text payload
breaks_off_leads text payload b =
    let leads = break_leads b.rest b.bytes b.is_break in
    record {
      to = leads.to;
      reads = reads_as LineStart leads.to (flat_map print_chunk b.chunks ++ b.rest) text
          (carried b.chunks ++ b.bytes) payload (sym b.spelled) (sym b.payload_is)
          (reads_both LineStart LineStart leads.to (flat_map print_chunk b.chunks)
          (carried b.chunks) b.rest b.bytes (chunks_run b.chunks b.are_chunks) leads.reads);
      going = leads.going;
    }

pub prefix_reads : (text payload : List ℕ) → IsChunkedPrefix text payload
    → (to : Chunking) × ReadsChunks LineStart text payload to
prefix_reads text payload (inl body) = (Whole, body_run text payload body)
prefix_reads text payload (inr breaks) = let leads = breaks_off_leads text payload
    breaks in (leads.to, leads.reads)

-- ---- bytes lead to one place, and bring one payload

-- where the bytes bring a body, if they can stand there
abbrev after_bytes : Chunking → List ℕ → Option Chunking
after_bytes at [] = Some at
after_bytes at (b ∷ bytes) = option_and_then (λ behind. after_bytes behind bytes) (next at b)

-- the bytes of chunks among these bytes, where each of them can stand
abbrev brought : Chunking → List ℕ → List ℕ
brought at [] = []
brought at (b ∷ bytes) =
    brought_by at b ++ unwrap_or (option_map (λ behind. brought behind bytes) (next at b)) []

-- where a run goes
pub runs_to : (at to : Chunking) (bytes payload : List ℕ) → ReadsChunks at bytes payload to
    → after_bytes at bytes ≡ Some to
runs_to at to bytes payload (stays _) = refl
runs_to at to bytes payload (goes _ behind _ b more later e reads) =
    ap (option_and_then (λ p. after_bytes p more)) e ∙ runs_to behind to more later reads

pub runs_bring : (at to : Chunking) (bytes payload : List ℕ) → ReadsChunks at bytes payload to
    → brought at bytes ≡ payload
runs_bring at to bytes payload (stays _) = refl
runs_bring at to bytes payload (goes _ behind _ b more later e reads) =
    ap (λ o. brought_by at b ++ unwrap_or (option_map (λ p. brought p more) o) []) e
    ∙ ap (λ p. brought_by at b ++ p) (runs_bring behind to more later reads)

-- a run of bytes and one more byte
last_step : (at to middle : Chunking) (b : ℕ) (bytes payload : List ℕ)
    → ReadsChunks at bytes payload middle → after_bytes at (bytes ++ b ∷ []) ≡ Some to
    → next middle b ≡ Some to
last_step at to middle b bytes payload (stays _) e = option_and_then_some (λ p. after_bytes p [])
    (next at b) to e (λ x is same. is ∙ same)
last_step at to middle b bytes payload (goes _ behind _ c more later is reads) e =
    last_step behind to middle b more later reads
    (sym (ap (option_and_then (λ p. after_bytes p (more ++ b ∷ []))) is) ∙ e)

-- a byte that can't stand there is the prefix of no body
pub refused_byte : (at : Chunking) (b : ℕ) (text payload other : List ℕ)
    → ReadsChunks LineStart text payload at → next at b ≡ None → ¬ (IsChunkedPrefix (text ++ b ∷ []) other)
refused_byte at b text payload other reads none prefix =
    let (to, run) = prefix_reads (text ++ b ∷ []) other prefix in
    let some = last_step LineStart to at b text payload reads
    (runs_to LineStart to (text ++ b ∷ []) other run) in
    let same : ◌≡◌ {A = Option Chunking} None (Some to) = sym none ∙ some in
    cc

-- ---- steps of code

-- one byte more
pub reads_more : (at middle to : Chunking) (b : ℕ) (bytes payload : List ℕ)
    → ReadsChunks at bytes payload middle → next middle b ≡ Some to
    → ReadsChunks at (bytes ++ b ∷ []) (payload ++ brought_by middle b) to
reads_more at middle to b bytes payload reads e =
    reads_as at to (bytes ++ b ∷ []) (bytes ++ b ∷ []) (payload ++ (brought_by middle b ++ []))
    (payload ++ brought_by middle b) refl
    (ap (λ t. payload ++ t) (append-nil (brought_by middle b)))
    (reads_both at middle to bytes payload (b ∷ []) (brought_by middle b ++ []) reads
    (one middle to b e))

-- the numbers stay in their bounds
place_of_next : (s t : Chunking) → ◌≡◌ {A = Option Chunking} (Some s) (Some t) → IsChunkPlace s
    → IsChunkPlace t
place_of_next s t e h = subst IsChunkPlace (some_some s t e) h

place_after_size : (n size b : ℕ) (t : Chunking) → after_size n size b ≡ Some t → IsChunkPlace t
place_after_size n size b t e =
    if_either (b == carriage_return) (Some (LineCr size)) _ t e
    (λ _ k. place_of_next (LineCr size) t k tt)
    (λ _ k. if_either (nat_lt n 1024) _ None t k
    (λ _ k2. if_either (is_ows b) (Some (InPad (n + 1) size)) _ t k2
    (λ _ k3. place_of_next (InPad (n + 1) size) t k3 tt)
    (λ _ k3. if_either (b == semicolon) (Some (InExtension (n + 1) size)) None t k3
    (λ _ k4. place_of_next (InExtension (n + 1) size) t k4 tt) (λ _ k4. none_some t k4)))
    (λ _ k2. none_some t k2))

place_in_trailer : (n b : ℕ) (t : Chunking) → in_trailer n b ≡ Some t → IsChunkPlace t
place_in_trailer n b t e =
    if_either (b == line_feed) None _ t e (λ _ k. none_some t k)
    (λ _ k. if_either (nat_lt n 8190) (Some (InTrailer (n + 1))) None t k
    (λ room k2. let less = below n 8190 room in place_of_next (InTrailer (n + 1)) t k2
    (omega arith)) (λ _ k2. none_some t k2))

more_below : (n size digit : ℕ) → size < 16 ^ n → digit < 16 → size * 16 + digit < 16 ^ (n + 1)
more_below n size digit h small = let grown : 16 ^ (n + 1) ≡ 16 * 16 ^ n = ap (λ k. 16 ^ k)
    (add-one n) ∙ pow-succ' 16 n in omega arith

pub place_stays : (at t : Chunking) (b : ℕ) → IsChunkPlace at → next at b ≡ Some t → IsChunkPlace t
place_stays LineStart t b h e =
    if_either (is_ascii_hexdigit b) (Some (InDigits 1 (digit_value b))) None t e
    (λ hex k. let small = digit_small b hex in place_of_next (InDigits 1 (digit_value b)) t k
    (lit≤ tt, omega arith)) (λ _ k. none_some t k)
place_stays (InDigits n size) t b h e =
    if_either (is_ascii_hexdigit b) _ (after_size n size b) t e
    (λ hex k. if_either (nat_lt n 16) (Some (InDigits (n + 1) (size * 16 + digit_value b))) None t k
    (λ room k2. let less = below n 16 room in place_of_next
    (InDigits (n + 1) (size * 16 + digit_value b)) t k2
    (omega arith, more_below n size (digit_value b) h.1 (digit_small b hex)))
    (λ _ k2. none_some t k2))
    (λ _ k. place_after_size n size b t k)
place_stays (InPad n size) t b h e = place_after_size n size b t e
place_stays (InExtension n size) t b h e =
    if_either (b == carriage_return) (Some (LineCr size)) _ t e
    (λ _ k. place_of_next (LineCr size) t k tt)
    (λ _ k. if_either (b == line_feed) None _ t k (λ _ k2. none_some t k2)
    (λ _ k2. if_either (nat_lt n 1024) (Some (InExtension (n + 1) size)) None t k2
    (λ _ k3. place_of_next (InExtension (n + 1) size) t k3 tt) (λ _ k3. none_some t k3)))
place_stays (LineCr size) t b h e =
    if_either (b == line_feed) (Some (after_line size)) None t e
    (λ _ k. place_of_next (after_line size) t k
    (elim (cases_Bool (size == 0)) [
      | inl zeros ↦ subst (λ c. IsChunkPlace (if c then TrailerStart 0 else InBytes size)) (sym zeros)
          (lit≤ tt)
      | inr some ↦ subst (λ c. IsChunkPlace (if c then TrailerStart 0 else InBytes size)) (sym some)
          (positive size some)
    ]))
    (λ _ k. none_some t k)
place_stays (InBytes left) t b h e =
    if_either (left == 1) (Some BytesEnd) (Some (InBytes (left - 1))) t e
    (λ _ k. place_of_next BytesEnd t k tt)
    (λ more k. let not_one = unequal left 1 more in place_of_next (InBytes (left - 1)) t k
    (omega arith))
place_stays BytesEnd t b h e = if_either (b == carriage_return) (Some BytesCr) None t e
    (λ _ k. place_of_next BytesCr t k tt) (λ _ k. none_some t k)
place_stays BytesCr t b h e = if_either (b == line_feed) (Some LineStart) None t e
    (λ _ k. place_of_next LineStart t k tt) (λ _ k. none_some t k)
place_stays (TrailerStart n) t b h e = if_either (b == carriage_return) (Some EndCr) _ t e
    (λ _ k. place_of_next EndCr t k tt) (λ _ k. place_in_trailer n b t k)
place_stays (InTrailer n) t b h e = if_either (b == carriage_return) (Some (TrailerCr n)) _ t e
    (λ _ k. place_of_next (TrailerCr n) t k h) (λ _ k. place_in_trailer n b t k)
place_stays (TrailerCr n) t b h e = if_either (b == line_feed) (Some (TrailerStart (n + 2))) None t
    e (λ _ k. place_of_next (TrailerStart (n + 2)) t k (omega arith)) (λ _ k. none_some t k)
place_stays EndCr t b h e = if_either (b == line_feed) (Some Whole) None t e
    (λ _ k. place_of_next Whole t k tt) (λ _ k. none_some t k)
place_stays Whole t b h e = none_some t e

-- a byte of no chunk
pub brings_nothing : (at : Chunking) (b : ℕ) → ((left : ℕ) → at ≢ InBytes left)
    → brought_by at b ≡ []
brings_nothing (InBytes left) b h = absurd (h left refl)
brings_nothing _ b h = refl

-- ---- runs from the start of a body

pub run_is_whole : (text payload : List ℕ) → ReadsChunks LineStart text payload Whole
    → IsChunkedBody text payload
run_is_whole text payload reads = is_whole text payload
    (stands_on LineStart Whole text payload [] [] reads starts)

pub run_breaks_off : (at : Chunking) (text payload : List ℕ) → at ≢ Whole
    → ReadsChunks LineStart text payload at → BreaksOff text payload
run_breaks_off at text payload going reads =
    elim (is_prefix at text payload (stands_on LineStart at text payload [] [] reads starts)) [
      | inl body ↦
          let ends : ◌≡◌ {A = Option Chunking} (Some at) (Some Whole) = sym
          (runs_to LineStart at text payload reads)
          ∙ runs_to LineStart Whole text payload (body_run text payload body) in
          absurd (going (some_some at Whole ends))
      | inr breaks ↦ breaks
    ]

-- some bytes of a chunk
pub data_run : (bytes : List ℕ) (left : ℕ) → length bytes ≤ left
    → (to : Chunking) × (to ≢ Whole) × ReadsChunks (InBytes left) bytes bytes to
data_run [] left few = (InBytes left, λ same. cc, stays (InBytes left))
data_run (b ∷ bytes) left few =
    elim (cases_lt (length (b ∷ bytes)) left) [
      | inl less ↦ (
        InBytes (left - length (b ∷ bytes)),
        λ same. cc,
        some_run (b ∷ bytes) left
            (left - length (b ∷ bytes)) (omega arith) (omega arith),
      )
      | inr full ↦ (BytesEnd, λ same. cc, all_run (b ∷ bytes) left (omega arith) (omega arith))
    ]
