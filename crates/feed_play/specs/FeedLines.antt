-- The feed lines that a commit of a script announces.
use Rattle.std.specs.Prelude.{◌≡◌, ℕ, ◌<◌, ◌≤◌, ◌+◌, ◌⊎◌, List, ◌∷◌, ◌++◌, length}
use Rattle.std.specs.List.{AllZip}
use Rattle.feed_text.specs.Limits.{line_bytes}
use Rattle.feed_changes.specs.declared.change.Change.{Change}
use Rattle.feed_note.specs.Counts.{IsRead}
use Rattle.feed_note.specs.Meaning.{Reason}
use Rattle.feed_note.specs.Notes.{all_changes}
use Rattle.feed_note.specs.declared.line.Line.{Line as Note}
use Rattle.feed_play.specs.Lines.{LinesLeft}
use Rattle.feed_play.specs.declared.fault.PlayCause.{PlayCause}
use Rattle.feed_play.specs.declared.fault.PlayCause.TheVariants.{Script, Limits, Shape, Line, World, Memory}
use Rattle.feed_play.specs.declared.fault.PlayFault.{PlayFault}

-- why a feed line stops a script: it is longer than a line of a feed may be, or it has no meaning
abbrev pub StopsFeed : List ℕ → PlayCause → Type 0
StopsFeed line Script = line_bytes < length line
StopsFeed line (Line why) = (length line ≤ line_bytes) × Reason line why
StopsFeed line Limits = ⊥
StopsFeed line Shape = ⊥
StopsFeed line (World why) = ⊥
StopsFeed line Memory = ⊥

-- the next lines, so many, were read as feed lines, and these are their changes
pub record TakesFeed (old new : LinesLeft) (count : ℕ) (changes : List Change) : Type 0 where
  pub feed : List (List ℕ)
  pub notes : List Note
  pub left : old.left ≡ feed ++ new.left
  pub many : length feed ≡ count
  pub read : new.read ≡ old.read + count
  pub meant : AllZip IsRead feed notes
  pub are : changes ≡ all_changes notes

-- fewer lines follow than were announced: that stops the script at the line that announced them
pub record HasTooFew (old : LinesLeft) (count : ℕ) (why : PlayFault) : Type 0 where
  pub few : length old.left < count
  pub is : why ≡ record { line = old.read; cause = Script }

-- a feed line stops the script, and those before it are read
pub record HasBadFeed (old : LinesLeft) (count : ℕ) (why : PlayFault) : Type 0 where
  pub good : List (List ℕ)
  pub bad : List ℕ
  pub more : List (List ℕ)
  pub notes : List Note
  pub left : old.left ≡ good ++ bad ∷ more
  pub enough : count ≤ length old.left
  pub announced : length good < count
  pub meant : AllZip IsRead good notes
  pub line : why.line ≡ old.read + length good + 1
  pub stops : StopsFeed bad why.cause

-- why the feed lines that are announced stop a script
abbrev pub StopsCommit : LinesLeft → ℕ → PlayFault → Type 0
StopsCommit old count why = HasTooFew old count why ⊎ HasBadFeed old count why
