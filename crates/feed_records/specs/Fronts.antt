-- What stands at the front of what is left of a text (NDJSON: each line ends in a line feed).
use Rattle.std.specs.Prelude.{◌≡◌, ℕ, ◌<◌, ◌≤◌, List, [], ◌∷◌, ◌++◌, length, Option, Some}
use Rattle.feed_text.specs.Ascii.{line_feed}
use Rattle.feed_text.specs.Limits.{line_bytes}
use Rattle.feed_note.specs.Lines.{HasNoLineFeed}
use Rattle.feed_records.specs.declared.reading.Front.{Front}
use Rattle.feed_records.specs.declared.reading.Front.TheVariants.{Line, Rest, Long}

-- these bytes are a line with its line feed
pub record IsLineAtFront (front text : List ℕ) : Type 0 where
  pub line : List ℕ
  pub behind : List ℕ
  pub unbroken : HasNoLineFeed line
  pub short : length line ≤ line_bytes
  pub front_is : front ≡ line ++ line_feed ∷ []
  pub text_is : text ≡ line ++ line_feed ∷ behind

-- the same, with what is behind it
pub record IsLineBefore (behind front : List ℕ) (left : Option (List ℕ)) : Type 0 where
  pub line : List ℕ
  pub unbroken : HasNoLineFeed line
  pub front_is : front ≡ line ++ line_feed ∷ []
  pub left_is : left ≡ Some (line ++ line_feed ∷ behind)

-- these bytes are all that is left, and no line
pub record IsRestAtFront (front text : List ℕ) : Type 0 where
  pub unbroken : HasNoLineFeed front
  pub short : length front ≤ line_bytes
  pub text_is : text ≡ front

-- these bytes end no line, and are too many for one
pub record IsLongAtFront (front text : List ℕ) : Type 0 where
  pub behind : List ℕ
  pub unbroken : HasNoLineFeed front
  pub long : line_bytes < length front
  pub text_is : text ≡ front ++ behind

-- a text begins with these bytes, which are that
abbrev pub IsFront : Front → List ℕ → List ℕ → Type 0
IsFront Line front text = IsLineAtFront front text
IsFront Rest front text = IsRestAtFront front text
IsFront Long front text = IsLongAtFront front text

-- the bytes that are left are known, and this is so of them
abbrev pub IsLeft : Option (List ℕ) → (List ℕ → Type 0) → Type 0
IsLeft left P = (behind : List ℕ) × (left ≡ Some behind) × P behind
