-- The text that a server writes on one connection.
use Rattle.std.specs.Prelude.{ℕ, List, [], ◌∷◌, ◌++◌, Bool, true, false}
use Rattle.std.specs.List.{flat_map}
use Rattle.httparse.specs.Ascii.{line_feed}
use Rattle.feed_settings.specs.declared.framing.Framing.{Framing}
use Rattle.feed_wire.specs.Framed.{frame, frame_end}
use Rattle.feed_wire.specs.Answer.{feed_head}

-- the answer with the feed: its head, and the text with which the session opened
abbrev pub opening_text : Framing → List ℕ → List ℕ
opening_text framing opened = feed_head framing ++ frame framing opened

-- the keep-alive that ends a session which is up to date; one whose token is gone ends without it
abbrev pub farewell : Framing → Bool → List ℕ
farewell framing true = []
farewell framing false = frame framing (line_feed ∷ [])

-- what is written behind the opening: a frame for each text, and the end
abbrev pub behind_opening : Framing → List (List ℕ) → Bool → List ℕ
behind_opening framing texts gone =
    flat_map (frame framing) texts ++ (farewell framing gone ++ frame_end framing)
