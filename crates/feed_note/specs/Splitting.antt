-- What a splitter gives of the bytes that were pushed and not yet given (NDJSON).
use Rattle.std.specs.Prelude.{◌≡◌, ◌<◌, ◌≤◌, ◌+◌, ℕ, List, [], ◌∷◌, ◌++◌, length, take, drop}
use Rattle.feed_text.specs.Ascii.{line_feed}
use Rattle.feed_text.specs.Limits.{line_bytes}
use Rattle.feed_note.specs.Lines.{HasNoLineFeed, lines, rest}
use Rattle.feed_note.specs.declared.splitter.SplitFault.{SplitFault}
use Rattle.feed_note.specs.declared.splitter.SplitFault.TheVariants as fault

-- the first line is taken away with its line feed
pub record Gives (old line new : List ℕ) : Type 0 where
  pub first : old ≡ line ++ line_feed ∷ new
  pub whole : HasNoLineFeed line
  pub short : length line ≤ line_bytes

-- there is no whole line, and what there is may still become one
pub record GivesNone (old new : List ℕ) : Type 0 where
  pub none : lines old ≡ []
  pub short : length (rest old) ≤ line_bytes
  pub same : new ≡ old

-- the first of the lines, and the rest where there are none
abbrev pub first_or : List ℕ → List (List ℕ) → List ℕ
first_or unfinished [] = unfinished
first_or unfinished (l ∷ ls) = l

-- the next line, ended or not
abbrev pub next_of : List ℕ → List ℕ
next_of bytes = first_or (rest bytes) (lines bytes)

-- the next line, ended or not, is too long
abbrev pub IsLongNext : List ℕ → Type 0
IsLongNext bytes = line_bytes < length (next_of bytes)

-- why no line is given: the next one is too long; or there is one to give, for which memory runs
-- out
abbrev pub FailsOnLine : List ℕ → SplitFault → Type 0
FailsOnLine bytes fault.LongLine = IsLongNext bytes
FailsOnLine bytes fault.Memory = (line : List ℕ) × (behind : List ℕ) × Gives bytes line behind

-- a next line that is too long stays so, whatever follows
abbrev pub LongNextStays : Type 0
LongNextStays = (bytes more : List ℕ) → IsLongNext bytes → IsLongNext (bytes ++ more)

-- ---- the search of a line's end

-- the first line feed stands at this place
pub record EndsAt (text : List ℕ) (end : ℕ) : Type 0 where
  pub within : end < length text
  pub line : HasNoLineFeed (take end text)
  pub whole : text ≡ take end text ++ line_feed ∷ drop (end + 1) text

-- so many bytes behind the start have no line feed
pub record IsSearched (bytes : List ℕ) (start searched : ℕ) : Type 0 where
  pub within : start + searched ≤ length bytes
  pub unbroken : HasNoLineFeed (take searched (drop start bytes))
