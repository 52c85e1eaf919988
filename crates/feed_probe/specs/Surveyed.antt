-- What the lines of a record are, up to the first that can't be read.
use Rattle.std.specs.Prelude.{◌≡◌, ◌≤◌, ℕ, ◌+◌, List, ◌++◌, Option, Some, None, length, take}
use Rattle.std.specs.List.{AllByRecursion}
use Rattle.feed_note.specs.Counts.{Counted, StopsAt}
use Rattle.feed_note.specs.Lines.{HasNoLineFeed, ended}
use Rattle.feed_note.specs.declared.counts.SurveyFault.{SurveyFault}
use Rattle.feed_commands.specs.Findings.{AreFound}
use Rattle.feed_probe.specs.declared.surveyed.Surveyed.{Surveyed}

-- the line of this number, counted from 1, begins at this place: so many whole lines are before it
pub record StartsLine (text : List ℕ) (number place : ℕ) : Type 0 where
  pub before : List (List ℕ)
  pub whole : AllByRecursion HasNoLineFeed before
  pub is : take place text ≡ ended before
  pub count : number ≡ length before + 1

-- all of a text can be read; or the line that begins here can't, and why
abbrev pub IsReadUpTo : List ℕ → ℕ → Option SurveyFault → Type 0
IsReadUpTo text good None = good ≡ length text
IsReadUpTo text good (Some why) = StopsAt text why.line why.stop × StartsLine text why.line good

-- what a record has up to the first line that can't be read
pub record IsSurveyed (text : List ℕ) (surveyed : Surveyed) : Type 0 where
  pub within : surveyed.good ≤ length text
  pub counted : Counted (take surveyed.good text) surveyed.counts
  pub found : AreFound (take surveyed.good text) surveyed.findings
  pub up_to : IsReadUpTo text surveyed.good surveyed.fault
