-- What a survey of a feed counts, and where the reading of a feed stops.
use Rattle.std.specs.Prelude.{◌≡◌, ◌⊎◌, ◌+◌, ◌<◌, ◌≤◌, ℕ, Bool, true, false, List, ◌∷◌, ◌++◌, length, count_by, sum_by, is_some}
use Rattle.std.specs.List.{AllZip}
use Rattle.feed_text.specs.Limits.{line_bytes}
use Rattle.feed_note.specs.Lines.{lines, rest}
use Rattle.feed_note.specs.Meaning.{Means, Reason}
use Rattle.feed_note.specs.Notes.{changes_in, token_in}
use Rattle.feed_note.specs.declared.line.Line.{Line}
use Rattle.feed_note.specs.declared.line.Line.TheVariants.{KeepAlive, Note}
use Rattle.feed_note.specs.declared.stop.LineStop.{LineStop}
use Rattle.feed_note.specs.declared.stop.LineStop.TheVariants as stop
use Rattle.feed_note.specs.declared.counts.Counts.{Counts}

-- the line is within the limit and means this
pub record IsRead (x : List ℕ) (note : Line) : Type 0 where
  pub size : length x ≤ line_bytes
  pub means : Means x note

-- why the line x stops the reading
abbrev pub Stops : List ℕ → LineStop → Type 0
Stops x stop.LongLine = line_bytes < length x
Stops x (stop.Line why) = (length x ≤ line_bytes) × Reason x why
Stops x stop.Memory = ⊥

-- each line of the text is read, as these in order, and the rest is within the limit
pub record AreRead (text : List ℕ) (notes : List Line) : Type 0 where
  pub each : AllZip IsRead (lines text) notes
  pub unfinished : length (rest text) ≤ line_bytes

-- the line of this number, counted from 1, is the first that stops the reading, and why
pub record StopsAtLine (text : List ℕ) (number : ℕ) (why : LineStop) : Type 0 where
  pub good : List (List ℕ)
  pub bad : List ℕ
  pub more : List (List ℕ)
  pub notes : List Line
  pub whole : lines text ≡ good ++ bad ∷ more
  pub meant : AllZip IsRead good notes
  pub is : number ≡ length good + 1
  pub stops : Stops bad why

-- each line is read, and the rest is the line that is too long
pub record StopsAtRest (text : List ℕ) (number : ℕ) (why : LineStop) : Type 0 where
  pub notes : List Line
  pub meant : AllZip IsRead (lines text) notes
  pub long : line_bytes < length (rest text)
  pub is : number ≡ length (lines text) + 1
  pub stops : why ≡ stop.LongLine

abbrev pub StopsAt : List ℕ → ℕ → LineStop → Type 0
StopsAt text number why = StopsAtLine text number why ⊎ StopsAtRest text number why

-- ---- what is counted

abbrev pub is_keep_alive : Line → Bool
is_keep_alive KeepAlive = true
is_keep_alive (Note changes token) = false

abbrev pub is_note : Line → Bool
is_note KeepAlive = false
is_note (Note changes token) = true

abbrev pub has_token : Line → Bool
has_token note = is_some (token_in note)

-- what these lines and so many bytes behind the last line feed come to
abbrev pub counts_of : List Line → ℕ → Counts
counts_of notes unfinished = record {
  lines = length notes;
  keepalives = count_by is_keep_alive notes;
  notes = count_by is_note notes;
  changes = sum_by (λ note. length (changes_in note)) notes;
  tokens = count_by has_token notes;
  rest = unfinished;
}

-- the text is read, and comes to this
pub record Counted (text : List ℕ) (counts : Counts) : Type 0 where
  pub notes : List Line
  pub read : AreRead text notes
  pub is : counts ≡ counts_of notes (length (rest text))
