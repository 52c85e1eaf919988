-- How a chunked body is read byte by byte (RFC 9112, section 7.1, within this profile's limits).
use Rattle.std.specs.Prelude.{◌≡◌, ℕ, ◌+◌, ◌-◌, ◌*◌, ◌<◌, ◌≤◌, ◌^◌, ◌==◌, nat_lt, List, [], ◌∷◌, ◌++◌, Option, Some, None, if◌then◌else◌}
use Rattle.std.specs.Char.{is_ascii_hexdigit, digit_value}
use Rattle.httparse.specs.Ascii.{carriage_return, line_feed, semicolon}
use Rattle.httparse.specs.Grammar.{is_ows}
use Rattle.feed_wire.specs.ChunkedBody.{trailer_bytes}
use Rattle.feed_wire.specs.declared.chunk.Chunking.{Chunking}
use Rattle.feed_wire.specs.declared.chunk.Chunking.TheVariants.{LineStart, InDigits, InPad, InExtension, LineCr, InBytes, BytesEnd, BytesCr, TrailerStart, InTrailer, TrailerCr, EndCr, Whole}

-- what a hexadecimal digit is worth
abbrev pub hex_value : ℕ → Option ℕ
hex_value b = if is_ascii_hexdigit b then Some (digit_value b) else None

-- a size line after its digits
abbrev pub after_size : ℕ → ℕ → ℕ → Option Chunking
after_size n size b =
    if b == carriage_return then Some (LineCr size)
    else (if nat_lt n 1024
    then (if is_ows b then Some (InPad (n + 1) size) else (if b == semicolon then Some
    (InExtension (n + 1) size) else None))
    else None)

-- a further digit, of at most sixteen
abbrev pub more_digits : ℕ → ℕ → ℕ → Option Chunking
more_digits n size b =
    if nat_lt n 16 then Some (InDigits (n + 1) (size * 16 + digit_value b)) else None

-- a trailer line goes on; with the CR LF that ends it, it is counted
abbrev pub in_trailer : ℕ → ℕ → Option Chunking
in_trailer n b =
    if b == line_feed then None else (if nat_lt n 8190 then Some (InTrailer (n + 1)) else None)

-- what follows a size line: the bytes of its chunk, or the trailer lines behind the last one
abbrev pub after_line : ℕ → Chunking
after_line size = if size == 0 then TrailerStart 0 else InBytes size

-- where the body stands after one more byte; nowhere, if the byte can't stand there
abbrev pub next : Chunking → ℕ → Option Chunking
next LineStart b = if is_ascii_hexdigit b then Some (InDigits 1 (digit_value b)) else None
next (InDigits n size) b = if is_ascii_hexdigit b then more_digits n size b else after_size n size b
next (InPad n size) b = after_size n size b
next (InExtension n size) b =
    if b == carriage_return then Some (LineCr size)
    else (if b == line_feed then None else (if nat_lt n 1024 then Some (InExtension
    (n + 1) size) else None))
next (LineCr size) b = if b == line_feed then Some (after_line size) else None
next (InBytes left) b = if left == 1 then Some BytesEnd else Some (InBytes (left - 1))
next BytesEnd b = if b == carriage_return then Some BytesCr else None
next BytesCr b = if b == line_feed then Some LineStart else None
next (TrailerStart n) b = if b == carriage_return then Some EndCr else in_trailer n b
next (InTrailer n) b = if b == carriage_return then Some (TrailerCr n) else in_trailer n b
next (TrailerCr n) b = if b == line_feed then Some (TrailerStart (n + 2)) else None
next EndCr b = if b == line_feed then Some Whole else None
next Whole b = None

-- the byte, where it is one of a chunk's
abbrev pub brought_by : Chunking → ℕ → List ℕ
brought_by LineStart b = []
brought_by (InDigits n size) b = []
brought_by (InPad n size) b = []
brought_by (InExtension n size) b = []
brought_by (LineCr size) b = []
brought_by (InBytes left) b = b ∷ []
brought_by BytesEnd b = []
brought_by BytesCr b = []
brought_by (TrailerStart n) b = []
brought_by (InTrailer n) b = []
brought_by (TrailerCr n) b = []
brought_by EndCr b = []
brought_by Whole b = []

-- the numbers of a place, as far as code needs them
abbrev pub IsChunkPlace : Chunking → Type 0
IsChunkPlace LineStart = Unit {0}
IsChunkPlace (InDigits n size) = (n ≤ 16) × (size < 16 ^ n)
IsChunkPlace (InPad n size) = Unit {0}
IsChunkPlace (InExtension n size) = Unit {0}
IsChunkPlace (LineCr size) = Unit {0}
IsChunkPlace (InBytes left) = 0 < left
IsChunkPlace BytesEnd = Unit {0}
IsChunkPlace BytesCr = Unit {0}
IsChunkPlace (TrailerStart n) = n ≤ trailer_bytes
IsChunkPlace (InTrailer n) = n ≤ 8190
IsChunkPlace (TrailerCr n) = n ≤ 8190
IsChunkPlace EndCr = Unit {0}
IsChunkPlace Whole = Unit {0}

-- the bytes bring a body from one place to another, and these are the bytes of chunks among them
pub data ReadsChunks : Chunking → List ℕ → List ℕ → Chunking → Type 0 where
  stays : (at : Chunking) → ReadsChunks at [] [] at
  goes : (at behind to : Chunking) (b : ℕ) (bytes payload : List ℕ) → next at b ≡ Some behind
      → ReadsChunks behind bytes payload to
      → ReadsChunks at (b ∷ bytes) (brought_by at b ++ payload) to
