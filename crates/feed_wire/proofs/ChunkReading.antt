-- The grammar of chunked bodies, byte by byte.
use Rattle.std.proofs.Common.{◌≡◌, ◌≢◌, ℕ, ◌+◌, ◌-◌, ◌*◌, ◌^◌, ◌<◌, ◌≤◌, Bool, true, false, List, [], ◌∷◌, ◌++◌, length, refl, sym, ap, ◌∙◌, arith, zero-add, inl, inr, subst, append-nil, append_assoc, length-append, lit<, lit≤}
use Rattle.std.specs.Prelude.{◌==◌, nat_lt, Option, Some, None, if◌then◌else◌}
use Rattle.std.specs.List.{flat_map, AllByRecursion}
use Rattle.std.specs.Char.{is_ascii_hexdigit, digit_value}
use Rattle.std.specs.Str.Parse.{digits_value, AllDigits}
use Rattle.std.proofs.Math.Nat.{pow-le-pow_right}
use Rattle.std.proofs.lemmas.Bool.{cases_Bool, eqb-true as equal, ltb-true as below, eqb-false as unequal}
use Rattle.std.proofs.lemmas.Bool.Decides.{nat_tests}
use Rattle.std.proofs.lemmas.Int.Digits.{digits_value_push}
use Rattle.std.proofs.lemmas.List.Elements.{All-nil, All-cons, All-push, recursion_from_All, All-from_recursion}
use Rattle.std.proofs.lemmas.Grind.{flat_map-append}
use Rattle.httparse.specs.Ascii.{carriage_return, line_feed, semicolon, crlf_bytes}
use Rattle.httparse.specs.Grammar.{AllPass, is_ows, is_extension_byte, ChunkLine, chunk_size}
use Rattle.feed_wire.specs.declared.chunk.Chunking.{Chunking}
use Rattle.feed_wire.specs.declared.chunk.Chunking.TheVariants.{LineStart, InDigits, InPad, InExtension, LineCr, InBytes, BytesEnd, BytesCr, TrailerStart, InTrailer, TrailerCr, EndCr, Whole}
use Rattle.feed_wire.specs.ChunkedBody.{Chunk, IsChunk, IsSizeLine, size_line, print_chunk, carried, IsLastLine, IsTrailer, AreTrailers, print_trailers}
use Rattle.feed_wire.specs.ChunkReading.{next, after_size, in_trailer, after_line, brought_by, hex_value}

-- digits of a size
pub record AreDigits (text : List ℕ) (n size : ℕ) : Type 0 where
  pub some : 0 < n
  pub few : n ≤ 16
  pub many : length text ≡ n
  pub hex : AllPass is_ascii_hexdigit text
  pub value : digits_value 16 text ≡ size

-- digits, and white space behind them
pub record IsPadded (text : List ℕ) (n size : ℕ) : Type 0 where
  pub digits : List ℕ
  pub pad : List ℕ
  pub are : AreDigits digits (length digits) size
  pub pads : AllPass is_ows pad
  pub many : length text ≡ n
  pub short : n ≤ 1024
  pub spelled : text ≡ digits ++ pad

-- a size line with an extension
pub record IsExtended (text : List ℕ) (n size : ℕ) : Type 0 where
  pub digits : List ℕ
  pub pad : List ℕ
  pub extension : List ℕ
  pub are : AreDigits digits (length digits) size
  pub pads : AllPass is_ows pad
  pub extends : AllPass is_extension_byte extension
  pub many : length text ≡ n
  pub short : n ≤ 1024
  pub spelled : text ≡ (digits ++ pad) ++ semicolon ∷ extension

-- a whole size line, and then this
pub record IsLined (text behind : List ℕ) (size : ℕ) : Type 0 where
  pub line : ChunkLine
  pub is_line : IsSizeLine line
  pub size_is : chunk_size line ≡ size
  pub spelled : text ≡ size_line line ++ behind

-- a size line of a chunk, and these of its bytes, of which so many are still to come
pub record IsBringing (text bytes : List ℕ) (left : ℕ) (end : List ℕ) : Type 0 where
  pub line : ChunkLine
  pub is_line : IsSizeLine line
  pub some : 0 < chunk_size line
  pub size_is : chunk_size line ≡ length bytes + left
  pub spelled : text ≡ size_line line ++ (crlf_bytes ++ (bytes ++ end))

-- the last size line, trailer lines, and then this
pub record IsTrailing (text : List ℕ) (part end : List ℕ) (n : ℕ) : Type 0 where
  pub last : ChunkLine
  pub trailers : List (List ℕ)
  pub is_last : IsLastLine last
  pub are_trailers : AreTrailers trailers
  pub many : length (print_trailers trailers ++ part) ≡ n
  pub is_part : AllPass is_extension_byte part
  pub spelled : text ≡ size_line last ++ (crlf_bytes ++ (print_trailers trailers ++ (part ++ end)))

-- what stands behind the last whole chunk, and the bytes of a chunk in it
abbrev pub At : Chunking → List ℕ → List ℕ → Type 0
At LineStart text bytes = (text ≡ []) × (bytes ≡ [])
At (InDigits n size) text bytes = AreDigits text n size × (bytes ≡ [])
At (InPad n size) text bytes = IsPadded text n size × (bytes ≡ [])
At (InExtension n size) text bytes = IsExtended text n size × (bytes ≡ [])
At (LineCr size) text bytes = IsLined text (carriage_return ∷ []) size × (bytes ≡ [])
At (InBytes left) text bytes = IsBringing text bytes left [] × (0 < left)
At BytesEnd text bytes = IsBringing text bytes 0 [] × Unit {0}
At BytesCr text bytes = IsBringing text bytes 0 (carriage_return ∷ []) × Unit {0}
At (TrailerStart n) text bytes = IsTrailing text [] [] n × (bytes ≡ [])
At (InTrailer n) text bytes =
    ((part : List ℕ) × IsTrailing text part [] n × (0 < length part) × (n ≤ 8190)) × (bytes ≡ [])
At (TrailerCr n) text bytes =
    ((part : List ℕ) × IsTrailing text part (carriage_return ∷ []) n × (0 < length part)
    × (n ≤ 8190)) × (bytes ≡ [])
At EndCr text bytes = ((n : ℕ) × IsTrailing text [] (carriage_return ∷ []) n) × (bytes ≡ [])
At Whole text bytes = ((n : ℕ) × IsTrailing text [] crlf_bytes n) × (bytes ≡ [])

-- a body that has come so far, with what its chunks carry
pub record StandsIn (at : Chunking) (text payload : List ℕ) : Type 0 where
  pub chunks : List Chunk
  pub rest : List ℕ
  pub bytes : List ℕ
  pub are_chunks : AllByRecursion IsChunk chunks
  pub is_at : At at rest bytes
  pub spelled : text ≡ flat_map print_chunk chunks ++ rest
  pub payload_is : payload ≡ carried chunks ++ bytes

-- ---- the tests of a byte

-- a choice that gives a place
pub if_either : {P : Type 0} (c : Bool) (x y : Option Chunking) (t : Chunking)
    → (if c then x else y) ≡ Some t → (c ≡ true → x ≡ Some t → P) → (c ≡ false → y ≡ Some t → P) → P
if_either true x y t e f g = f refl e
if_either false x y t e f g = g refl e

pub none_some : {P : Type 0} (t : Chunking) → ◌≡◌ {A = Option Chunking} None (Some t) → P
none_some t e = cc

pub some_some : (s t : Chunking) → ◌≡◌ {A = Option Chunking} (Some s) (Some t) → s ≡ t
some_some s t e = cc

is_text_byte : (b : ℕ) → (b == 13) ≡ false → (b == 10) ≡ false → is_extension_byte b ≡ true
is_text_byte b h k = rw h (rw k refl)

-- a hexadecimal digit is worth less than sixteen
pub digit_small : (b : ℕ) → is_ascii_hexdigit b ≡ true → digit_value b < 16
digit_small b h = grind (arith, nat_tests)

pub all_digits : (ds : List ℕ) → AllByRecursion (λ b. is_ascii_hexdigit b ≡ true) ds
    → AllDigits 16 ds
all_digits [] h = tt
all_digits (d ∷ ds) h = (digit_small d h.0, all_digits ds h.1)

pass_one : (test : ℕ → Bool) (b : ℕ) → test b ≡ true → AllPass test (b ∷ [])
pass_one test b h = All-cons (λ x. test x ≡ true) b [] h (All-nil (λ x. test x ≡ true))

pass_push : (test : ℕ → Bool) (text : List ℕ) (b : ℕ) → AllPass test text → test b ≡ true
    → AllPass test (text ++ b ∷ [])
pass_push test text b all h = All-push (λ x. test x ≡ true) text b all h

-- ---- one byte more

module _ (text : List ℕ) (n size b : ℕ) where
  first_digit : is_ascii_hexdigit b ≡ true → AreDigits (b ∷ []) 1 (digit_value b)
  first_digit h = record {
    some = lit< tt;
    few = lit≤ tt;
    many = refl;
    hex = pass_one is_ascii_hexdigit b h;
    value =
        digits_value_push 16 [] b ∙ zero-add (digit_value b);
  }

  digit_more : AreDigits text n size → n < 16 → is_ascii_hexdigit b ≡ true
      → AreDigits (text ++ b ∷ []) (n + 1) (size * 16 + digit_value b)
  digit_more d room h = record {
    some = omega arith;
    few = omega arith;
    many = length-append text (b ∷ []) ∙ ap (λ k. k + 1) d.many;
    hex = pass_push is_ascii_hexdigit text b d.hex h;
    value = digits_value_push 16 text b ∙ ap (λ k. k * 16 + digit_value b) d.value;
  }

  pub padded : AreDigits text n size → IsPadded text n size
  padded d =
      let few = d.few in
      record {
        digits = text;
        pad = [];
        are = record {
          some = omega (arith, d.some, d.many);
          few = omega (arith, d.few, d.many);
          many = refl;
          hex = d.hex;
          value = d.value;
        };
        pads = All-nil _;
        many = d.many;
        short = omega arith;
        spelled = sym (append-nil text);
      }

  pad_more : IsPadded text n size → n < 1024 → is_ows b ≡ true
      → IsPadded (text ++ b ∷ []) (n + 1) size
  pad_more p room h = record {
    digits = p.digits;
    pad = p.pad ++ b ∷ [];
    are = p.are;
    pads = pass_push is_ows p.pad b p.pads h;
    many = length-append text (b ∷ []) ∙ ap (λ k. k + 1) p.many;
    short = omega arith;
    spelled = ap (λ t. t ++ b ∷ []) p.spelled ∙ append_assoc p.digits p.pad (b ∷ []);
  }

  extension_first : (digits pad : List ℕ) → AreDigits digits (length digits) size
      → AllPass is_ows pad → length text ≡ n → n < 1024 → text ≡ digits ++ pad → b ≡ semicolon
      → IsExtended (text ++ b ∷ []) (n + 1) size
  extension_first digits pad are pads many room spelled h = record {
    digits = digits;
    pad = pad;
    extension = [];
    are = are;
    pads = pads;
    extends = All-nil _;
    many = length-append text (b ∷ []) ∙ ap (λ k. k + 1) many;
    short = omega arith;
    spelled = ap (λ t. t ++ b ∷ []) spelled ∙ ap (λ c. (digits ++ pad) ++ c ∷ []) h;
  }

  extension_more : IsExtended text n size → n < 1024 → is_extension_byte b ≡ true
      → IsExtended (text ++ b ∷ []) (n + 1) size
  extension_more x room h = record {
    digits = x.digits;
    pad = x.pad;
    extension = x.extension ++ b ∷ [];
    are = x.are;
    pads = x.pads;
    extends = pass_push is_extension_byte x.extension b x.extends h;
    many = length-append text (b ∷ []) ∙ ap (λ k. k + 1) x.many;
    short = omega arith;
    spelled = ap (λ t. t ++ b ∷ []) x.spelled
        ∙ append_assoc (x.digits ++ x.pad) (semicolon ∷ x.extension) (b ∷ []);
  }

-- ---- whole size lines

lined_padded : (text : List ℕ) (n size : ℕ) → IsPadded text n size
    → IsLined (text ++ carriage_return ∷ []) (carriage_return ∷ []) size
lined_padded text n size p =
    let line : ChunkLine = record { digits = p.digits; pad = p.pad; extension = None } in
    let same : size_line line ≡ text = append-nil _ ∙ sym p.spelled in
    let short = p.short in
    record {
      line = line;
      is_line = record {
        is_line =
            record { digits = (p.are.some, p.are.few, p.are.hex); pad = p.pads; extension = tt };
        short = rw same (omega (arith, p.many));
      };
      size_is = p.are.value;
      spelled = ap (λ t. t ++ carriage_return ∷ []) (sym same);
    }

lined_extended : (text : List ℕ) (n size : ℕ) → IsExtended text n size
    → IsLined (text ++ carriage_return ∷ []) (carriage_return ∷ []) size
lined_extended text n size x =
    let line : ChunkLine =
    record { digits = x.digits; pad = x.pad; extension = Some x.extension } in
    let same : size_line line ≡ text = sym x.spelled in
    let short = x.short in
    record {
      line = line;
      is_line = record {
        is_line =
            record {
              digits = (x.are.some, x.are.few, x.are.hex);
              pad = x.pads;
              extension =
                  x.extends;
            };
        short = rw same (omega (arith, x.many));
      };
      size_is = x.are.value;
      spelled = ap (λ t. t ++ carriage_return ∷ []) (sym same);
    }

-- ---- behind a size line

module _ (text : List ℕ) (size : ℕ) (lined : IsLined text (carriage_return ∷ []) size) where
  begins_trailers : size ≡ 0 → IsTrailing (text ++ line_feed ∷ []) [] [] 0
  begins_trailers none = record {
    last = lined.line;
    trailers = [];
    is_last = record { line = lined.is_line; size = lined.size_is ∙ none };
    are_trailers = record { each = tt; short = lit≤ tt };
    many = refl;
    is_part = All-nil _;
    spelled = ap (λ t. t ++ line_feed ∷ []) lined.spelled
        ∙ append_assoc (size_line lined.line) (carriage_return ∷ []) (line_feed ∷ []);
  }

  begins_bytes : 0 < size → IsBringing (text ++ line_feed ∷ []) [] size []
  begins_bytes some = record {
    line = lined.line;
    is_line = lined.is_line;
    some = omega (arith, lined.size_is);
    size_is = omega (arith, lined.size_is);
    spelled = ap (λ t. t ++ line_feed ∷ []) lined.spelled
        ∙ append_assoc (size_line lined.line) (carriage_return ∷ []) (line_feed ∷ []);
  }

-- one byte more of what stands behind a prefix
pub onto : (text prefix behind : List ℕ) (b : ℕ) → text ≡ prefix ++ behind
    → text ++ b ∷ [] ≡ prefix ++ (behind ++ b ∷ [])
onto text prefix behind b e = ap (λ t. t ++ b ∷ []) e ∙ append_assoc prefix behind (b ∷ [])

module _ (text bytes : List ℕ) (left b : ℕ) where
  brings_more : IsBringing text bytes (left + 1) []
      → IsBringing (text ++ b ∷ []) (bytes ++ b ∷ []) left []
  brings_more h = record {
    line = h.line;
    is_line = h.is_line;
    some = h.some;
    size_is = omega (arith, h.size_is, length-append bytes (b ∷ []));
    spelled =
        onto text (size_line h.line) (crlf_bytes ++ (bytes ++ [])) b h.spelled
        ∙ ap (λ t. size_line h.line ++ t) (append_assoc crlf_bytes (bytes ++ []) (b ∷ [])
        ∙ ap (λ t. crlf_bytes ++ t) (append_assoc bytes [] (b ∷ [])
        ∙ sym (append-nil (bytes ++ b ∷ []))));
  }

  brings_cr : IsBringing text bytes left [] → IsBringing (text ++ b ∷ []) bytes left (b ∷ [])
  brings_cr h = record {
    line = h.line;
    is_line = h.is_line;
    some = h.some;
    size_is = h.size_is;
    spelled =
        onto text (size_line h.line) (crlf_bytes ++ (bytes ++ [])) b h.spelled
        ∙ ap (λ t. size_line h.line ++ t) (append_assoc crlf_bytes (bytes ++ []) (b ∷ [])
        ∙ ap (λ t. crlf_bytes ++ t) (append_assoc bytes [] (b ∷ [])));
  }

-- the chunk whose last byte is this LF
module _ (text bytes : List ℕ) (h : IsBringing text bytes 0 (carriage_return ∷ [])) where
  abbrev pub brought_chunk : Chunk
  brought_chunk = record { line = h.line; bytes = bytes }

  pub brought_is : IsChunk brought_chunk
  brought_is = record {
    line = h.is_line;
    some = omega (arith, h.size_is, h.some);
    size =
        omega (arith, h.size_is);
  }

  pub brought_spelled : text ++ line_feed ∷ [] ≡ print_chunk brought_chunk
  brought_spelled =
      onto text (size_line h.line) (crlf_bytes ++ (bytes ++ carriage_return ∷ [])) line_feed
      h.spelled
      ∙ simp append_assoc

-- ---- trailer lines

module _ (text part end : List ℕ) (n b : ℕ) where
  trails_more : IsTrailing text part [] n → is_extension_byte b ≡ true
      → IsTrailing (text ++ b ∷ []) (part ++ b ∷ []) [] (n + 1)
  trails_more h is = record {
    last = h.last;
    trailers = h.trailers;
    is_last = h.is_last;
    are_trailers = h.are_trailers;
    many = ap length (sym (append_assoc (print_trailers h.trailers) part (b ∷ [])))
        ∙ length-append (print_trailers h.trailers ++ part) (b ∷ []) ∙ ap (λ k. k + 1) h.many;
    is_part = pass_push is_extension_byte part b h.is_part is;
    spelled = ap (λ t. t ++ b ∷ []) h.spelled ∙ simp (append_assoc, append-nil);
  }

  trails_end : IsTrailing text part end n → IsTrailing (text ++ b ∷ []) part (end ++ b ∷ []) n
  trails_end h = record {
    last = h.last;
    trailers = h.trailers;
    is_last = h.is_last;
    are_trailers = h.are_trailers;
    many = h.many;
    is_part = h.is_part;
    spelled = ap (λ t. t ++ b ∷ []) h.spelled ∙ simp append_assoc;
  }

print_push : (trailers : List (List ℕ)) (part : List ℕ)
    → print_trailers (trailers ++ part ∷ []) ≡ print_trailers trailers ++ (part ++ crlf_bytes)
print_push trailers part = flat_map-append (λ t. t ++ crlf_bytes) trailers (part ∷ [])
    ∙ ap (λ t. print_trailers trailers ++ t) (append-nil (part ++ crlf_bytes))

pub length_push_trailer : (trailers : List (List ℕ)) (part : List ℕ) (n : ℕ)
    → length (print_trailers trailers ++ part) ≡ n
    → length (print_trailers (trailers ++ part ∷ [])) ≡ n + 2
length_push_trailer trailers part n e =
    ap length (print_push trailers part)
    ∙ ap length (sym (append_assoc (print_trailers trailers) part crlf_bytes))
    ∙ length-append (print_trailers trailers ++ part) crlf_bytes ∙ ap (λ k. k + 2) e

pub are_push : (trailers : List (List ℕ)) (part : List ℕ) (n : ℕ) → AreTrailers trailers
    → AllPass is_extension_byte part → 0 < length part
    → length (print_trailers trailers ++ part) ≡ n → n ≤ 8190 → AreTrailers (trailers ++ part ∷ [])
are_push trailers part n are is some many short = record {
  each = recursion_from_All IsTrailer _
      (All-push IsTrailer trailers part (All-from_recursion IsTrailer trailers are.each)
      (some, is));
  short = omega (arith, length_push_trailer trailers part n many);
}

pub trails_line : (text part : List ℕ) (n : ℕ) → IsTrailing text part (carriage_return ∷ []) n
    → 0 < length part → n ≤ 8190 → IsTrailing (text ++ line_feed ∷ []) [] [] (n + 2)
trails_line text part n h some short = record {
  last = h.last;
  trailers = h.trailers ++ part ∷ [];
  is_last = h.is_last;
  are_trailers = are_push h.trailers part n h.are_trailers h.is_part some h.many short;
  many = ap length (append-nil _) ∙ length_push_trailer h.trailers part n h.many;
  is_part = All-nil _;
  spelled = ap (λ t. t ++ line_feed ∷ []) h.spelled
      ∙ simp (append_assoc, append-nil, print_push h.trailers part);
}

-- ---- what code needs of the numbers

pub digit_room : (n size : ℕ) → size < 16 ^ n → n < 16 → size * 16 + 16 ≤ 2 ^ 64
digit_room n size small few =
    let within : n ≤ 15 = omega arith in
    let wide : 16 ^ n ≤ 16 ^ 15 = pow-le-pow_right (lit< tt) within in
    omega arith

pub hex_value_small : (b digit : ℕ) → hex_value b ≡ Some digit → digit < 16
hex_value_small b digit e =
    elim (cases_Bool (is_ascii_hexdigit b)) [ inl h ↦ small_yes h | inr h ↦ small_no h ]
  where
    small_yes : is_ascii_hexdigit b ≡ true → digit < 16
    small_yes h =
        let same : ◌≡◌ {A = Option ℕ} (Some (digit_value b)) (Some digit) =
        ap (λ c. if c then Some (digit_value b) else None) (sym h) ∙ e in
        let is : digit_value b ≡ digit = cc in
        let small = digit_small b h in
        omega arith

    small_no : is_ascii_hexdigit b ≡ false → digit < 16
    small_no h =
        let same : ◌≡◌ {A = Option ℕ} None (Some digit) =
        ap (λ c. if c then Some (digit_value b) else None) (sym h) ∙ e in
        cc

-- ---- what one byte more does

at_of : (s t : Chunking) (text bytes : List ℕ) → ◌≡◌ {A = Option Chunking} (Some s) (Some t)
    → At s text bytes → At t text bytes
at_of s t text bytes e x = subst (λ p. At p text bytes) (some_some s t e) x

step_after_size : (n size b : ℕ) (text : List ℕ) (t : Chunking) → IsPadded text n size
    → after_size n size b ≡ Some t → At t (text ++ b ∷ []) []
step_after_size n size b text t p e =
    if_either (b == carriage_return) (Some (LineCr size)) _ t e
    (λ h k. at_of (LineCr size) t (text ++ b ∷ []) [] k (
      subst (λ c. IsLined (text ++ c ∷ []) (carriage_return ∷ []) size)
          (sym (equal b carriage_return h)) (lined_padded text n size p),
      refl,
    ))
    (λ h k. if_either (nat_lt n 1024) _ None t k
    (λ room k2. if_either (is_ows b) (Some (InPad (n + 1) size)) _ t k2
    (λ ows k3. at_of (InPad (n + 1) size) t (text ++ b ∷ []) [] k3
    (pad_more text n size b p (below n 1024 room) ows, refl))
    (λ other k3. if_either (b == semicolon) (Some (InExtension (n + 1) size)) None t k3
    (λ semi k4. at_of (InExtension (n + 1) size) t (text ++ b ∷ []) [] k4 (
      extension_first text n size b p.digits p.pad p.are p.pads p.many
          (below n 1024 room) p.spelled (equal b semicolon semi),
      refl,
    ))
    (λ _ k4. none_some t k4)))
    (λ _ k2. none_some t k2))

step_in_trailer : (n b : ℕ) (text part : List ℕ) (t : Chunking) → IsTrailing text part [] n
    → (b == carriage_return) ≡ false → in_trailer n b ≡ Some t → At t (text ++ b ∷ []) []
step_in_trailer n b text part t h no_cr e =
    if_either (b == line_feed) None _ t e
    (λ _ k. none_some t k)
    (λ no_lf k. if_either (nat_lt n 8190) (Some (InTrailer (n + 1))) None t k
    (λ room k2. let small = below n 8190 room in
    at_of (InTrailer (n + 1)) t (text ++ b ∷ []) [] k2 (
      (
        part ++ b ∷ [],
        trails_more text part [] n b h
            (is_text_byte b no_cr no_lf),
        omega (arith, length-append part (b ∷ [])),
        omega arith,
      ),
      refl,
    ))
    (λ _ k2. none_some t k2))

-- the bytes of a chunk stay, where the byte is none of them
kept : (t : Chunking) (text bytes : List ℕ) → bytes ≡ [] → At t text [] → At t text (bytes ++ [])
kept t text bytes e x = subst (At t text) (sym (append-nil bytes ∙ e)) x

-- a CR or an LF
module _ (b : ℕ) (text : List ℕ) where
  pub as_cr : (P : List ℕ → Type 0) → (b == carriage_return) ≡ true
      → P (text ++ carriage_return ∷ []) → P (text ++ b ∷ [])
  as_cr P h x = subst (λ c. P (text ++ c ∷ [])) (sym (equal b carriage_return h)) x

  pub as_lf : (P : List ℕ → Type 0) → (b == line_feed) ≡ true → P (text ++ line_feed ∷ [])
      → P (text ++ b ∷ [])
  as_lf P h x = subst (λ c. P (text ++ c ∷ [])) (sym (equal b line_feed h)) x

pub positive : (n : ℕ) → (n == 0) ≡ false → 0 < n
positive n h = grind (arith, nat_tests)

pub step : (at t : Chunking) (b : ℕ) (text bytes : List ℕ) → at ≢ BytesCr → At at text bytes
    → next at b ≡ Some t → At t (text ++ b ∷ []) (bytes ++ brought_by at b)
step LineStart t b text bytes other (none, empty) e =
    kept t _ bytes empty (if_either (is_ascii_hexdigit b) (Some (InDigits 1 (digit_value b))) None t
    e
    (λ h k. at_of (InDigits 1 (digit_value b)) t (text ++ b ∷ []) [] k (
      subst (λ x. AreDigits (x ++ b ∷ []) 1 (digit_value b)) (sym none)
          (first_digit text 0 0 b h),
      refl,
    ))
    (λ _ k. none_some t k))
step (InDigits n size) t b text bytes other (are, empty) e =
    kept t _ bytes empty (if_either (is_ascii_hexdigit b) _ (after_size n size b) t e
    (λ h k. if_either (nat_lt n 16) (Some (InDigits (n + 1) (size * 16 + digit_value b))) None t k
    (λ room k2. at_of (InDigits (n + 1) (size * 16 + digit_value b)) t (text ++ b ∷ []) [] k2
    (digit_more text n size b are (below n 16 room) h, refl))
    (λ _ k2. none_some t k2))
    (λ _ k. step_after_size n size b text t (padded text n size b are) k))
step (InPad n size) t b text bytes other (is, empty) e = kept t _ bytes empty
    (step_after_size n size b text t is e)
step (InExtension n size) t b text bytes other (is, empty) e =
    kept t _ bytes empty (if_either (b == carriage_return) (Some (LineCr size)) _ t e
    (λ h k. at_of (LineCr size) t (text ++ b ∷ []) [] k (
      as_cr b text (λ x. IsLined x (carriage_return ∷ []) size) h
          (lined_extended text n size is),
      refl,
    ))
    (λ no_cr k. if_either (b == line_feed) None _ t k
    (λ _ k2. none_some t k2)
    (λ no_lf k2. if_either (nat_lt n 1024) (Some (InExtension (n + 1) size)) None t k2
    (λ room k3. at_of (InExtension (n + 1) size) t (text ++ b ∷ []) [] k3
    (extension_more text n size b is (below n 1024 room) (is_text_byte b no_cr no_lf), refl))
    (λ _ k3. none_some t k3))))
step (LineCr size) t b text bytes other (is, empty) e =
    kept t _ bytes empty (if_either (b == line_feed) (Some (after_line size)) None t e
    (λ h k. at_of (after_line size) t (text ++ b ∷ []) [] k
    (as_lf b text (λ x. At (after_line size) x []) h
    (elim (cases_Bool (size == 0)) [
      | inl zeros ↦ subst (λ c. At (if c then TrailerStart 0 else InBytes size)
          (text ++ line_feed ∷ []) []) (sym zeros)
          (begins_trailers text size is (equal size 0 zeros), refl)
      | inr some ↦ subst (λ c. At (if c then TrailerStart 0 else InBytes size)
          (text ++ line_feed ∷ []) []) (sym some)
          (begins_bytes text size is (positive size some), positive size some)
    ])))
    (λ _ k. none_some t k))
step (InBytes left) t b text bytes other (is, some) e =
    if_either (left == 1) (Some BytesEnd) (Some (InBytes (left - 1))) t e
    (λ h k. let last : left ≡ 0 + 1 = equal left 1 h in
    at_of BytesEnd t (text ++ b ∷ []) (bytes ++ b ∷ []) k
    (brings_more text bytes 0 b (subst (λ n. IsBringing text bytes n []) last is), tt))
    (λ h k. let more : left ≡ (left - 1) + 1 = omega arith in
    let not_one = unequal left 1 h in
    at_of (InBytes (left - 1)) t (text ++ b ∷ []) (bytes ++ b ∷ []) k (
      brings_more text bytes (left - 1) b (subst (λ n. IsBringing text bytes n []) more is),
      omega arith,
    ))
step BytesEnd t b text bytes other (is, _) e =
    if_either (b == carriage_return) (Some BytesCr) None t e
    (λ h k. at_of BytesCr t (text ++ b ∷ []) (bytes ++ []) k (
      subst (λ y. IsBringing (text ++ b ∷ []) y 0 (carriage_return ∷ []))
          (sym (append-nil bytes))
          (as_cr b text (λ x. IsBringing x bytes 0 (carriage_return ∷ [])) h
          (brings_cr text bytes 0 carriage_return is)),
      tt,
    ))
    (λ _ k. none_some t k)
step BytesCr t b text bytes other is e = absurd (other refl)
step (TrailerStart n) t b text bytes other (is, empty) e =
    kept t _ bytes empty (if_either (b == carriage_return) (Some EndCr) _ t e
    (λ h k. at_of EndCr t (text ++ b ∷ []) [] k (
      (
        n,
        as_cr b text (λ x. IsTrailing x [] (carriage_return ∷ []) n) h
            (trails_end text [] [] n carriage_return is),
      ),
      refl,
    ))
    (λ h k. step_in_trailer n b text [] t is h k))
step (InTrailer n) t b text bytes other ((part, is, some, small), empty) e =
    kept t _ bytes empty (if_either (b == carriage_return) (Some (TrailerCr n)) _ t e
    (λ h k. at_of (TrailerCr n) t (text ++ b ∷ []) [] k (
      (
        part,
        as_cr b text (λ x. IsTrailing x part (carriage_return ∷ []) n) h
            (trails_end text part [] n carriage_return is),
        some,
        small,
      ),
      refl,
    ))
    (λ h k. step_in_trailer n b text part t is h k))
step (TrailerCr n) t b text bytes other ((part, is, some, small), empty) e =
    kept t _ bytes empty (if_either (b == line_feed) (Some (TrailerStart (n + 2))) None t e
    (λ h k. at_of (TrailerStart (n + 2)) t (text ++ b ∷ []) [] k (
      as_lf b text (λ x. IsTrailing x [] [] (n + 2)) h (trails_line text part n is some small),
      refl,
    ))
    (λ _ k. none_some t k))
step EndCr t b text bytes other ((n, is), empty) e =
    kept t _ bytes empty (if_either (b == line_feed) (Some Whole) None t e
    (λ h k. at_of Whole t (text ++ b ∷ []) [] k (
      (
        n,
        as_lf b text (λ x. IsTrailing x [] crlf_bytes n) h
            (trails_end text [] (carriage_return ∷ []) n line_feed is),
      ),
      refl,
    ))
    (λ _ k. none_some t k))
step Whole t b text bytes other is e = none_some t e

-- ---- a size line that has come so far

abbrev pub bare_line : List ℕ → List ℕ → Option (List ℕ) → ChunkLine
bare_line digits pad extension = record { digits = digits; pad = pad; extension = extension }

pub line_of_padded : (text : List ℕ) (n size : ℕ) → IsPadded text n size
    → (l : ChunkLine) × IsSizeLine l × (text ≡ size_line l)
line_of_padded text n size p =
    let l = bare_line p.digits p.pad None in
    let same : size_line l ≡ text = append-nil _ ∙ sym p.spelled in
    let short = p.short in (
      l,
      record {
        is_line =
            record { digits = (p.are.some, p.are.few, p.are.hex); pad = p.pads; extension = tt };
        short = rw same (omega (arith, p.many));
      },
      sym same,
    )

pub line_of_extended : (text : List ℕ) (n size : ℕ) → IsExtended text n size
    → (l : ChunkLine) × IsSizeLine l × (text ≡ size_line l)
line_of_extended text n size x =
    let l = bare_line x.digits x.pad (Some x.extension) in
    let same : size_line l ≡ text = sym x.spelled in
    let short = x.short in (
      l,
      record {
        is_line =
            record { digits = (x.are.some, x.are.few, x.are.hex); pad = x.pads; extension = x.extends };
        short = rw same (omega (arith, x.many));
      },
      sym same,
    )
