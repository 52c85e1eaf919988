-- What is framed carries what was framed (RFC 9112, sections 6.3 and 7.1).
use Rattle.std.specs.Prelude.{◌≡◌, ℕ, ◌<◌, ◌^◌, List, ◌++◌, length}
use Rattle.std.specs.List.{flat_map, AllByRecursion}
use Rattle.feed_settings.specs.declared.framing.Framing.{Framing}
use Rattle.feed_settings.specs.declared.framing.Framing.TheVariants.{Close, Chunked}
use Rattle.feed_wire.specs.ChunkedBody.{BreaksOff, IsChunkedBody}
use Rattle.feed_wire.specs.Framed.{frame, frame_end}

-- the bytes are a body so framed that isn't whole, and this is its payload; one to the end of the
-- connection has no end of its own
abbrev pub IsUnfinished : Framing → List ℕ → List ℕ → Type 0
IsUnfinished Close text payload = payload ≡ text
IsUnfinished Chunked text payload = BreaksOff text payload

-- texts that fit into memory
abbrev pub AreTexts : List (List ℕ) → Type 0
AreTexts texts = AllByRecursion (λ text. length text < 2 ^ 64) texts

-- the texts, one behind the other
abbrev pub joined : List (List ℕ) → List ℕ
joined texts = flat_map (λ text. text) texts

-- texts that are framed one behind the other are a body that isn't whole and carries them
abbrev pub FramesCarry : Type 0
FramesCarry =
    (framing : Framing) (texts : List (List ℕ)) → AreTexts texts
    → IsUnfinished framing (flat_map (frame framing) texts) (joined texts)

-- in chunks, and with the end of a body behind them, they are a whole body that carries them
abbrev pub FramesEnd : Type 0
FramesEnd =
    (texts : List (List ℕ)) → AreTexts texts
    → IsChunkedBody (flat_map (frame Chunked) texts ++ frame_end Chunked) (joined texts)
