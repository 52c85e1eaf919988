-- How much the first bytes of a response carry (RFC 9112, sections 6.3 and 7.1).
use Rattle.std.specs.Prelude.{ℕ, ◌+◌, ◌-◌, min, false, List, [], ◌∷◌, ◌++◌, length}
use Rattle.std.specs.Fmt.{digits}
use Rattle.std.specs.List.{flat_map}
use Rattle.feed_settings.specs.declared.framing.Framing.{Framing}
use Rattle.feed_settings.specs.declared.framing.Framing.TheVariants.{Close, Chunked}
use Rattle.feed_wire.specs.Answer.{feed_head}
use Rattle.feed_wire.specs.Framed.{frame, frame_end}

-- how many bytes of a frame stand before those that it carries: in chunks, the size line
abbrev pub bytes_before : Framing → List ℕ → ℕ
bytes_before Close text = 0
bytes_before Chunked text = length (digits 16 false (length text)) + 2

-- how many bytes of these texts stand in the first n bytes of their frames
abbrev pub carried_in : Framing → List (List ℕ) → ℕ → ℕ
carried_in framing [] n = 0
carried_in framing (text ∷ texts) n =
    min (n - bytes_before framing text) (length text)
    + carried_in framing texts (n - length (frame framing text))

-- an answer with the feed, as far as these texts; and with the end of its body
abbrev pub response_text : Framing → List (List ℕ) → List ℕ
response_text framing texts = feed_head framing ++ flat_map (frame framing) texts

abbrev pub ended_text : Framing → List (List ℕ) → List ℕ
ended_text framing texts = response_text framing texts ++ frame_end framing

-- how many bytes of the texts stand in the first n bytes of the answer
abbrev pub carried_by : Framing → List (List ℕ) → ℕ → ℕ
carried_by framing texts n = carried_in framing texts (n - length (feed_head framing))
