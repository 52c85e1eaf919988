-- What one line is.
use Rattle.std.specs.Prelude.{◌≡◌, ℕ, List, [], ◌∷◌, ◌++◌}
use Rattle.feed_text.specs.Ascii.{line_feed}
use Rattle.feed_note.specs.Lines.{HasNoLineFeed}

-- one line with its line feed
abbrev pub IsOneLine : List ℕ → Type 0
IsOneLine bytes = (line : List ℕ) × HasNoLineFeed line × (bytes ≡ line ++ line_feed ∷ [])
