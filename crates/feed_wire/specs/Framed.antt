-- How the body of an answer is framed (RFC 9112, sections 6 and 7.1).
use Rattle.std.specs.Prelude.{ℕ, List, [], ◌∷◌, ◌++◌, length, codes, false}
use Rattle.std.specs.Fmt.{digits}
use Rattle.httparse.specs.Ascii.{crlf_bytes}
use Rattle.feed_settings.specs.declared.framing.Framing.{Framing}
use Rattle.feed_settings.specs.declared.framing.Framing.TheVariants.{Close, Chunked}

-- one chunk: the number of its bytes in lower-case hexadecimal, and the bytes
abbrev pub chunk_text : List ℕ → List ℕ
chunk_text bytes = digits 16 false (length bytes) ++ crlf_bytes ++ bytes ++ crlf_bytes

-- the bytes as they stand in a body; no bytes are no chunk, which would end the body
abbrev pub frame : Framing → List ℕ → List ℕ
frame Close bytes = bytes
frame Chunked [] = []
frame Chunked (b ∷ bytes) = chunk_text (b ∷ bytes)

-- what ends a body
abbrev pub frame_end : Framing → List ℕ
frame_end Close = []
frame_end Chunked = codes "0" ++ crlf_bytes ++ crlf_bytes
