-- The laws of chunked bodies that are read byte by byte.
use Rattle.std.specs.Prelude.{◌≡◌, List, ◌++◌, ◌∷◌, [], ℕ, None}
use Rattle.feed_wire.specs.declared.chunk.Chunking.{Chunking}
use Rattle.feed_wire.specs.declared.chunk.Chunking.TheVariants.{LineStart, Whole}
use Rattle.feed_wire.specs.ChunkedBody.{IsChunkedPrefix, IsChunkedBody}
use Rattle.feed_wire.specs.ChunkReading.{ReadsChunks, next}

-- bytes that can stand one after the other are the prefix of a body
abbrev pub ReadsArePrefixes : Type 0
ReadsArePrefixes =
    (text payload : List ℕ) (to : Chunking) → ReadsChunks LineStart text payload to
    → IsChunkedPrefix text payload

-- the prefix of a body is read, and a whole body to its end
abbrev pub PrefixesAreRead : Type 0
PrefixesAreRead =
    (text payload : List ℕ) → IsChunkedPrefix text payload → (to : Chunking)
    × ReadsChunks LineStart text payload to

abbrev pub BodiesAreRead : Type 0
BodiesAreRead =
    (text payload : List ℕ) → IsChunkedBody text payload → ReadsChunks LineStart text payload Whole

-- a byte that can't stand behind bytes is the prefix of no body with them
abbrev pub OthersAreRefused : Type 0
OthersAreRefused =
    (at : Chunking) (b : ℕ) (text payload other : List ℕ) → ReadsChunks LineStart text payload at
    → next at b ≡ None → ¬ (IsChunkedPrefix (text ++ b ∷ []) other)

-- bytes bring one payload
abbrev pub ReadsOnce : Type 0
ReadsOnce =
    (text payload other : List ℕ) (to too : Chunking) → ReadsChunks LineStart text payload to
    → ReadsChunks LineStart text other too → payload ≡ other
