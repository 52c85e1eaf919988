-- Prefixes of what is framed, and how much they carry.
use Rattle.std.proofs.Common.{◌≡◌, ◌⊎◌, inl, inr, ℕ, zero, suc, ◌+◌, ◌-◌, ◌<◌, ◌≤◌, true, false, List, [], ◌∷◌, ◌++◌, length, take, None, refl, sym, ap, ap₂, ◌∙◌, subst, arith, append-nil, append_assoc, length-append, length-take, lit≤}
use Rattle.std.specs.Prelude.{min}
use Rattle.std.specs.Fmt.{digits}
use Rattle.std.specs.List.{flat_map}
use Rattle.std.specs.Char.{is_ascii_hexdigit}
use Rattle.std.proofs.Math.Seq.{take-append-add, take-nil}
use Rattle.std.proofs.lemmas.Bool.{cases_lt}
use Rattle.std.proofs.lemmas.List.{take-append-le, take_all}
use Rattle.std.proofs.lemmas.List.Elements.{All-take, All-nil}
use Rattle.httparse.specs.Ascii.{carriage_return, crlf_bytes}
use Rattle.httparse.specs.Grammar.{AllPass, ChunkLine, chunk_size, is_ows}
use Rattle.feed_settings.specs.declared.framing.Framing.{Framing}
use Rattle.feed_settings.specs.declared.framing.Framing.TheVariants.{Close, Chunked}
use Rattle.feed_wire.specs.ChunkedBody.{Chunk, IsChunk, IsSizeLine, size_line, print_chunk, carried, IsBreak, BreaksOff}
use Rattle.feed_wire.specs.Framed.{frame, frame_end}
use Rattle.feed_wire.specs.FrameLaws.{AreTexts, joined}
use Rattle.feed_wire.specs.CarriedBytes.{bytes_before, carried_in}
use Rattle.feed_wire.proofs.FrameLemmas.{chunk_of, chunk_is, frame_chunk, frames_are, zero_line, zero_is_last}

-- ---- texts that stand one behind the other

pub take_past : (n : ℕ) (xs ys : List ℕ) → length xs ≤ n
    → take n (xs ++ ys) ≡ xs ++ take (n - length xs) ys
take_past n xs ys more =
    let same : n ≡ length xs + (n - length xs) = omega (arith, more) in
    ap (λ k. take k (xs ++ ys)) same ∙ take-append-add xs ys (n - length xs)

-- ---- a prefix of one chunk

-- a size line of digits alone
abbrev line_with : List ℕ → ChunkLine
line_with ds = record { digits = ds; pad = []; extension = None }

line_text : (ds : List ℕ) → size_line (line_with ds) ≡ ds
line_text ds = append-nil _ ∙ append-nil _

abbrev IsHex : ℕ → Type 0
IsHex b = is_ascii_hexdigit b ≡ true

prefix_line : (n : ℕ) (ds : List ℕ) → 0 < n → n ≤ length ds → length ds ≤ 16
    → AllPass is_ascii_hexdigit ds → IsSizeLine (line_with (take n ds))
prefix_line n ds some few short hex =
    let many : length (take n ds) ≡ n = omega (arith, length-take n ds) in
    record {
      is_line = record {
        digits = (omega (arith, many), omega (arith, many), All-take IsHex n ds hex);
        pad = All-nil (λ b. is_ows b ≡ true);
        extension = tt;
      };
      short = rw (line_text (take n ds)) (omega (arith, many));
    }

-- the text of a chunk: its size, and its bytes
abbrev spelled : List ℕ → List ℕ → List ℕ
spelled ds bytes = ds ++ crlf_bytes ++ bytes ++ crlf_bytes

module _ (ds bytes : List ℕ) where
  -- its bytes with what ends them, and all behind the digits
  abbrev body : List ℕ
  body = bytes ++ crlf_bytes

  abbrev line : List ℕ
  line = size_line (line_with ds) ++ crlf_bytes

  at_digits : spelled ds bytes ≡ ds ++ (crlf_bytes ++ body)
  at_digits = simp append_assoc

  at_bytes : spelled ds bytes ≡ (ds ++ crlf_bytes) ++ body
  at_bytes = append_assoc (ds ++ crlf_bytes) bytes crlf_bytes

  line_length : length (ds ++ crlf_bytes) ≡ length ds + 2
  line_length = length-append ds crlf_bytes

  spelled_length : length (spelled ds bytes) ≡ length ds + length bytes + 4
  spelled_length =
      let parts = length-append (ds ++ crlf_bytes) body in
      omega (arith, ap length at_bytes, parts, line_length, length-append bytes crlf_bytes)

  -- how many of the bytes stand in the first n bytes of the text
  abbrev held : ℕ → ℕ
  held n = min (n - (length ds + 2)) (length bytes)

  nothing_held : (n : ℕ) → n ≤ length ds + 2 → take (held n) bytes ≡ []
  nothing_held n few =
      let none : held n ≡ 0 = omega arith in
      ap (λ k. take k bytes) none

  -- the first n bytes of the text break off, and hold so many of its bytes
  abbrev BreaksAt : ℕ → Type 0
  BreaksAt n = IsBreak (take n (spelled ds bytes)) (take (held n) bytes)

  -- a chunk that breaks off within its text
  module _ (is_line : IsSizeLine (line_with ds)) (size : chunk_size (line_with ds) ≡ length bytes)
      (some : 0 < length bytes) where
    in_digits : (n : ℕ) → 0 < n → n ≤ length ds → BreaksAt n
    in_digits n prefix few =
        let text = ap (take n) at_digits ∙ take-append-le n ds (crlf_bytes ++ body) few in
        let short = is_line.is_line.digits in
        let is_prefix = prefix_line n ds prefix few short.1 short.2 in
        let spells = text ∙ sym (append-nil _ ∙ line_text (take n ds)) in
        inl (
          inr (line_with (take n ds), [], is_prefix, inl refl, spells),
          nothing_held n (omega (arith, few)),
        )

    behind_digits : (n : ℕ) → n ≡ length ds + 1 → BreaksAt n
    behind_digits n is =
        let one : n - length ds ≡ 1 = omega (arith, is) in
        let text : take n (spelled ds bytes) ≡ ds ++ carriage_return ∷ [] =
        ap (take n) at_digits ∙ take_past n ds (crlf_bytes ++ body) (omega (arith, is))
        ∙ ap (λ k. ds ++ take k (crlf_bytes ++ body)) one in
        let spells = text ∙ ap (λ l. l ++ carriage_return ∷ []) (sym (line_text ds)) in
        inl (
          inr (line_with ds, carriage_return ∷ [], is_line, inr refl, spells),
          nothing_held n (omega (arith, is)),
        )

    -- behind the size line
    behind_line : (n : ℕ) → length ds + 2 ≤ n
        → take n (spelled ds bytes) ≡ line ++ take (n - (length ds + 2)) body
    behind_line n more =
        let same : ds ++ crlf_bytes ≡ line = ap (λ l. l ++ crlf_bytes) (sym (line_text ds)) in
        ap (take n) at_bytes
        ∙ take_past n (ds ++ crlf_bytes) body (omega (arith, more, line_length))
        ∙ ap₂ (λ l k. l ++ take (n - k) body) same line_length

    in_bytes : (n : ℕ) → length ds + 2 ≤ n → n - (length ds + 2) ≤ length bytes → BreaksAt n
    in_bytes n more few =
        let k = n - (length ds + 2) in
        let all_held : k ≡ held n = omega (arith, few) in
        let so_far : take k body ≡ take (held n) bytes =
        take-append-le k bytes crlf_bytes few ∙ ap (λ j. take j bytes) all_held in
        inr (inl (record {
          line = line_with ds;
          end = [];
          is_line = is_line;
          some = omega (arith, some, size);
          fits = omega (arith, length-take (held n) bytes, size);
          ends = inl refl;
          spelled = behind_line n more ∙ ap (λ l. line ++ l) so_far ∙ sym (append-nil _);
        }))

    behind_bytes : (n : ℕ) → n ≡ length ds + length bytes + 3 → BreaksAt n
    behind_bytes n is =
        let all : take (held n) bytes ≡ bytes = take_all (held n) bytes (omega (arith, is)) in
        let one : n - (length ds + 2) ≡ length bytes + 1 = omega (arith, is) in
        let so_far : take (n - (length ds + 2)) body ≡ bytes ++ carriage_return ∷ [] =
        ap (λ k. take k body) one ∙ take-append-add bytes crlf_bytes 1 in
        subst (IsBreak (take n (spelled ds bytes))) (sym all) (inr (inl (record {
          line = line_with ds;
          end = carriage_return ∷ [];
          is_line = is_line;
          some = omega (arith, some, size);
          fits = omega (arith, size);
          ends = inr (refl, sym size);
          spelled = behind_line n (omega (arith, is)) ∙ ap (λ l. line ++ l) so_far
              ∙ sym (append_assoc line bytes (carriage_return ∷ []));
        })))

    breaks_within : (n : ℕ) → n < length (spelled ds bytes) → BreaksAt n
    breaks_within zero less = inl (inl refl, nothing_held 0 (omega arith))
    breaks_within (suc n) less = elim (cases_lt (length ds) (suc n)) [
      | inr few ↦ in_digits (suc n) (omega arith) few
      | inl past ↦ elim (cases_lt (suc n) (length ds + 2)) [
        | inl near ↦ behind_digits (suc n) (omega (arith, past, near))
        | inr line ↦ elim (cases_lt (length bytes) (suc n - (length ds + 2))) [
          | inr few ↦ in_bytes (suc n) line few
          | inl all ↦ behind_bytes (suc n) (omega (arith, all, less, spelled_length))
        ]
      ]
    ]

-- ---- prefixes of chunks

behind_chunk : (c : Chunk) (text payload : List ℕ) → IsChunk c → BreaksOff text payload
    → BreaksOff (print_chunk c ++ text) (c.bytes ++ payload)
behind_chunk c text payload is b = record {
  chunks = c ∷ b.chunks;
  rest = b.rest;
  bytes = b.bytes;
  are_chunks = (is, b.are_chunks);
  is_break = b.is_break;
  spelled = ap (λ t. print_chunk c ++ t) b.spelled
      ∙ sym (append_assoc (print_chunk c) (flat_map print_chunk b.chunks) b.rest);
  payload_is = ap (λ t. c.bytes ++ t) b.payload_is
      ∙ sym (append_assoc c.bytes (carried b.chunks) b.bytes);
}

broken : (text bytes : List ℕ) → IsBreak text bytes → BreaksOff text bytes
broken text bytes is = record {
  chunks = [];
  rest = text;
  bytes = bytes;
  are_chunks = tt;
  is_break = is;
  spelled = refl;
  payload_is = refl;
}

pub nothing_carried : (framing : Framing) (texts : List (List ℕ)) → carried_in framing texts 0 ≡ 0
nothing_carried framing [] = refl
nothing_carried framing (text ∷ texts) =
    let none : 0 - length (frame framing text) ≡ 0 = omega arith in
    let rest = ap (carried_in framing texts) none ∙ nothing_carried framing texts in
    omega (arith, rest)

-- in the first frame, or behind it
carried_within : (framing : Framing) (text : List ℕ) (texts : List (List ℕ)) (n : ℕ)
    → n ≤ length (frame framing text)
    → carried_in framing (text ∷ texts) n ≡ min (n - bytes_before framing text) (length text)
carried_within framing text texts n few =
    let none : n - length (frame framing text) ≡ 0 = omega (arith, few) in
    let rest = ap (carried_in framing texts) none ∙ nothing_carried framing texts in
    omega (arith, rest)

-- a frame has the bytes that it carries behind those before them
frame_holds : (framing : Framing) (text : List ℕ)
    → (length text ≡ 0)
    ⊎ (bytes_before framing text + length text ≤ length (frame framing text))
frame_holds Close text = inr (omega arith)
frame_holds Chunked [] = inl refl
frame_holds Chunked (b ∷ bytes) =
    let total = spelled_length (digits 16 false (length (b ∷ bytes))) (b ∷ bytes) in
    inr (omega (arith, total))

pub all_of_frame : (framing : Framing) (text : List ℕ) (n : ℕ) → length (frame framing text) ≤ n
    → min (n - bytes_before framing text) (length text) ≡ length text
all_of_frame framing text n more = elim (frame_holds framing text) [
  | inl none ↦ omega (arith, none)
  | inr holds ↦ omega (arith, holds, more)
]

-- frames in chunks
abbrev chunks : List (List ℕ) → List ℕ
chunks texts = flat_map (frame Chunked) texts

-- what the first n bytes of frames carry
abbrev pub prefix_carried : Framing → List (List ℕ) → ℕ → List ℕ
prefix_carried framing texts n = take (carried_in framing texts n) (joined texts)

-- the bytes of one text, and those of the texts behind it
module _ (text : List ℕ) (texts : List (List ℕ)) (n : ℕ) where
  within_first : (framing : Framing) → n ≤ length (frame framing text)
      → prefix_carried framing (text ∷ texts) n
      ≡ take (min (n - bytes_before framing text) (length text)) text
  within_first framing few =
      let some = min (n - bytes_before framing text) (length text) in
      ap (λ k. take k (text ++ joined texts)) (carried_within framing text texts n few)
      ∙ take-append-le some text (joined texts) (omega arith)

  behind_first : (framing : Framing) → length (frame framing text) ≤ n
      → prefix_carried framing (text ∷ texts) n
      ≡ text ++ prefix_carried framing texts (n - length (frame framing text))
  behind_first framing more =
      let k = carried_in framing texts (n - length (frame framing text)) in
      ap (λ m. take (m + k) (text ++ joined texts)) (all_of_frame framing text n more)
      ∙ take-append-add text (joined texts) k

-- the first n bytes of frames in chunks break off
abbrev ChunksBreak : List (List ℕ) → ℕ → Type 0
ChunksBreak texts n = BreaksOff (take n (chunks texts)) (prefix_carried Chunked texts n)

-- within the first frame, or behind it
in_first_chunk : (b : ℕ) (bytes : List ℕ) (texts : List (List ℕ)) (n : ℕ)
    → IsChunk (chunk_of (b ∷ bytes)) → n < length (frame Chunked (b ∷ bytes))
    → ChunksBreak ((b ∷ bytes) ∷ texts) n
in_first_chunk b bytes texts n is less =
    let text = b ∷ bytes in
    let one = frame Chunked text in
    let few : n ≤ length one = omega (arith, less) in
    let ds = (chunk_of text).line.digits in
    let prefix = broken (take n one) _ (breaks_within ds text is.line is.size is.some n less) in
    rw (take-append-le n one (chunks texts) few, within_first text texts n Chunked few) prefix

behind_first_chunk : (b : ℕ) (bytes : List ℕ) (texts : List (List ℕ)) (n : ℕ)
    → IsChunk (chunk_of (b ∷ bytes)) → length (frame Chunked (b ∷ bytes)) ≤ n
    → ChunksBreak texts (n - length (frame Chunked (b ∷ bytes)))
    → ChunksBreak ((b ∷ bytes) ∷ texts) n
behind_first_chunk b bytes texts n is more rest =
    let text = b ∷ bytes in
    let one = frame Chunked text in
    let later = take (n - length one) (chunks texts) in
    let prefix : take n (one ++ chunks texts) ≡ print_chunk (chunk_of text) ++ later =
    take_past n one (chunks texts) more ∙ ap (λ t. t ++ later) (frame_chunk b bytes) in
    rw (prefix, behind_first text texts n Chunked more) (behind_chunk (chunk_of text) _ _ is rest)

pub chunks_prefix : (texts : List (List ℕ)) (n : ℕ) → AreTexts texts → ChunksBreak texts n
chunks_prefix [] n are =
    subst (λ t. BreaksOff t []) (sym (take-nil n)) (broken [] [] (inl (inl refl, refl)))
chunks_prefix ([] ∷ texts) n are =
    let all : n - 0 ≡ n = omega arith in
    let rest = ap (carried_in Chunked texts) all in
    let same : carried_in Chunked ([] ∷ texts) n ≡ carried_in Chunked texts n =
    omega (arith, rest) in
    subst (λ k. BreaksOff (take n (chunks texts)) (take k (joined texts))) (sym same)
    (chunks_prefix texts n are.1)
chunks_prefix ((b ∷ bytes) ∷ texts) n are =
    let is = chunk_is (b ∷ bytes) (omega arith) are.0 in
    let size = length (frame Chunked (b ∷ bytes)) in
    elim (cases_lt n size) [
      | inl less ↦ in_first_chunk b bytes texts n is less
      | inr more ↦
          behind_first_chunk b bytes texts n is more (chunks_prefix texts (n - size) are.1)
    ]

-- ---- prefixes of what isn't framed

pub plain_prefix : (texts : List (List ℕ)) (n : ℕ)
    → prefix_carried Close texts n ≡ take n (flat_map (frame Close) texts)
plain_prefix [] n = sym (take-nil n)
plain_prefix (text ∷ texts) n = elim (cases_lt n (length text)) [
  | inl less ↦
      let few : n ≤ length text = omega (arith, less) in
      let all : min (n - 0) (length text) ≡ n = omega (arith, less) in
      within_first text texts n Close few ∙ ap (λ k. take k text) all
      ∙ sym (take-append-le n text later few)
  | inr more ↦
      behind_first text texts n Close more
      ∙ ap (λ t. text ++ t) (plain_prefix texts (n - length text))
      ∙ sym (take_past n text later more)
]
  where
    later : List ℕ
    later = flat_map (frame Close) texts

-- ---- how much prefixes carry

pub all_carried : (framing : Framing) (texts : List (List ℕ)) (n : ℕ)
    → length (flat_map (frame framing) texts) ≤ n
    → carried_in framing texts n ≡ length (joined texts)
all_carried framing [] n more = refl
all_carried framing (text ∷ texts) n more =
    let one = frame framing text in
    let total = length-append one (flat_map (frame framing) texts) in
    let here = all_of_frame framing text n (omega (arith, more, total)) in
    let rest = all_carried framing texts (n - length one) (omega (arith, more, total)) in
    omega (arith, here, rest, length-append text (joined texts))

one_more : (n m before size later more : ℕ) → n ≤ m → later ≤ more
    → min (n - before) size + later ≤ min (m - before) size + more
one_more n m before size later more less fewer = omega (arith, less, fewer)

pub more_carried : (framing : Framing) (texts : List (List ℕ)) (n m : ℕ) → n ≤ m
    → carried_in framing texts n ≤ carried_in framing texts m
more_carried framing [] n m less = omega arith
more_carried framing (text ∷ texts) n m less =
    let size = length (frame framing text) in
    let fewer : n - size ≤ m - size = omega (arith, less) in
    one_more n m (bytes_before framing text) (length text) _ _ less
    (more_carried framing texts (n - size) (m - size) fewer)

-- ---- prefixes of the end of a body in chunks

end_prefix : (n : ℕ) → n < 5 → IsBreak (take n (frame_end Chunked)) []
end_prefix zero less = inl (inl refl, refl)
end_prefix (suc zero) less = inl (inr (zero_line, [], zero_is_last.line, inl refl, refl), refl)
end_prefix (suc (suc zero)) less =
    inl (inr (zero_line, carriage_return ∷ [], zero_is_last.line, inr refl, refl), refl)
end_prefix (suc (suc (suc zero))) less = inr (inr (
  record {
    last = zero_line;
    trailers = [];
    part = [];
    end = [];
    is_last = zero_is_last;
    are_trailers = record { each = tt; short = lit≤ tt };
    is_part = inl refl;
    ends = inl refl;
    spelled = refl;
  },
  refl,
))
end_prefix (suc (suc (suc (suc zero)))) less = inr (inr (
  record {
    last = zero_line;
    trailers = [];
    part = [];
    end = carriage_return ∷ [];
    is_last = zero_is_last;
    are_trailers = record { each = tt; short = lit≤ tt };
    is_part = inl refl;
    ends = inr refl;
    spelled = refl;
  },
  refl,
))
end_prefix (suc (suc (suc (suc (suc n))))) less = absurd (omega (arith, less))

-- the first n bytes of frames in chunks with their end, but not all of them, break off
pub ended_prefix : (texts : List (List ℕ)) (n : ℕ) → AreTexts texts
    → n < length (chunks texts ++ frame_end Chunked)
    → BreaksOff (take n (chunks texts ++ frame_end Chunked)) (prefix_carried Chunked texts n)
ended_prefix texts n are less = elim (cases_lt n (length (chunks texts))) [
  | inl within ↦
      let few : n ≤ length (chunks texts) = omega (arith, within) in
      rw (take-append-le n (chunks texts) end few) (chunks_prefix texts n are)
  | inr behind ↦
      let framed = frames_are texts are in
      let all = all_carried Chunked texts n behind in
      let k = n - length (chunks texts) in
      record {
        chunks = framed.chunks;
        rest = take k end;
        bytes = [];
        are_chunks = framed.are_chunks;
        is_break = end_prefix k (omega (arith, less, behind, length-append (chunks texts) end));
        spelled = take_past n (chunks texts) end behind ∙ ap (λ t. t ++ take k end) framed.spelled;
        payload_is = take_all _ (joined texts) (omega (arith, all)) ∙ framed.payload_is
            ∙ sym (append-nil _);
      }
]
  where
    end : List ℕ
    end = frame_end Chunked
