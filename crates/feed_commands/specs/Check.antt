-- What the command `check` reads and prints.
use Rattle.std.specs.Prelude.{◌≡◌, ◌⊎◌, ℕ, ◌+◌, ◌<◌, ◌≤◌, Bool, true, false, List, [], ◌∷◌, ◌++◌, length, codes, decimal, Option, None, Some}
use Rattle.std.specs.Io.KnownBytes.{Appends, Consumes, IsAtEnd, Keeps}
use Rattle.feed_text.specs.Ascii.{line_feed}
use Rattle.feed_note.specs.Counts.{Counted, StopsAt}
use Rattle.feed_note.specs.Lines.{lines, rest}
use Rattle.feed_note.specs.declared.counts.Counts.{Counts}
use Rattle.feed_note.specs.declared.counts.SurveyFault.{SurveyFault}
use Rattle.feed_http.specs.Device.{AppendsPrefix}
use Rattle.feed_commands.specs.Fault.{StandsInLine}
use Rattle.feed_commands.specs.Findings.{AreFound, findings_text}
use Rattle.feed_commands.specs.Streams.{Streams}
use Rattle.feed_commands.specs.declared.commands.findings.Findings.{Findings}
use Rattle.feed_arguments.specs.declared.request.CheckOptions.{CheckOptions}
use Rattle.feed_commands.specs.declared.fault.SurveyStop.{SurveyStop}
use Rattle.feed_commands.specs.declared.placing.Spot.{Spot}
use Rattle.feed_commands.specs.declared.fault.Fault.{Fault}
use Rattle.feed_commands.specs.declared.fault.Fault.TheVariants as fault

-- the greatest number of bytes of an input that is read whole
abbrev pub input_bytes : ℕ
input_bytes = 67108864

-- the line that tells the counts
abbrev pub counts_text : Counts → List ℕ
counts_text counts =
    codes "lines " ++ decimal counts.lines
    ++ codes " keepalives " ++ decimal counts.keepalives
    ++ codes " notes " ++ decimal counts.notes
    ++ codes " changes " ++ decimal counts.changes
    ++ codes " tokens " ++ decimal counts.tokens
    ++ codes " rest " ++ decimal counts.rest ++ line_feed ∷ []

-- the whole input was read, and has at most so many bytes
pub record IsWholeWithin (most : ℕ) (old new : Option (List ℕ)) (bytes : List ℕ) : Type 0 where
  pub read : Consumes old new bytes
  pub end : IsAtEnd new
  pub short : length bytes ≤ most

-- the whole input was read, and is within the limit
abbrev pub IsWhole : Option (List ℕ) → Option (List ℕ) → List ℕ → Type 0
IsWhole old new bytes = IsWholeWithin input_bytes old new bytes

-- these lines tell what is found besides, if that was asked for
abbrev pub TellsMore : Bool → List ℕ → List ℕ → Type 0
TellsMore false bytes lines = lines ≡ []
TellsMore true bytes lines =
    (findings : Findings) × AreFound bytes findings × (lines ≡ findings_text findings)

-- the text with its last line ended
abbrev pub closed : List ℕ → List ℕ
closed text = text ++ line_feed ∷ []

-- each line of the text can be read
abbrev pub IsReadable : List ℕ → Type 0
IsReadable text = (counts : Counts) × Counted text counts

-- no line of the text is a notification
abbrev pub HasNoNotes : List ℕ → Type 0
HasNoNotes text = (counts : Counts) × Counted text counts × (counts.notes ≡ 0)

-- How an input is read: as it is. If what is found is asked for, and no line is a notification, it
-- is read with its last line ended, too.
abbrev pub IsReadAs : Bool → List ℕ → List ℕ → Type 0
IsReadAs verbose bytes text =
    (text ≡ bytes) ⊎ ((verbose ≡ true) × HasNoNotes bytes × (text ≡ closed bytes))

-- the text tells what the lines of the feed are
pub record TellsCounts (options : CheckOptions) (bytes text : List ℕ) : Type 0 where
  pub counts : Counts
  pub counted : Counted bytes counts
  pub closes : options.verbose ≡ true → counts.notes ≡ 0 → IsReadable (closed bytes)
  pub more : List ℕ
  pub says : TellsMore options.verbose bytes more
  pub is : text ≡ counts_text counts ++ more

-- the whole input was read, and this tells what its lines are
pub record InputCounted (options : CheckOptions) (old new : Option (List ℕ))
    (text : List ℕ) : Type 0 where
  pub bytes : List ℕ
  pub whole : IsWhole old new bytes
  pub tells : TellsCounts options bytes text

-- the line of this number of the text, counted from 1: behind the lines that are ended stands what
-- is left
pub record IsLineAt (text : List ℕ) (number : ℕ) (line : List ℕ) : Type 0 where
  pub before : List (List ℕ)
  pub later : List (List ℕ)
  pub whole : lines text ++ rest text ∷ [] ≡ before ++ line ∷ later
  pub is : number ≡ length before + 1

-- the place, if one is reported, is a byte of the line of this number, or the one behind its last
abbrev pub IsPlaced : List ℕ → ℕ → Option Spot → Type 0
IsPlaced text number None = Unit {0}
IsPlaced text number (Some spot) =
    (line : List ℕ) × IsLineAt text number line × StandsInLine line (Some spot)

-- the whole input was read, and stops at this line
pub record InputStops (old new : Option (List ℕ)) (why : SurveyFault) : Type 0 where
  pub bytes : List ℕ
  pub whole : IsWhole old new bytes
  pub stops : StopsAt bytes why.line why.stop

-- the same of the input as it is read, and the place that is reported is one in that line
pub record InputStopsWithin (verbose : Bool) (old new : Option (List ℕ))
    (why : SurveyStop) : Type 0 where
  pub bytes : List ℕ
  pub whole : IsWhole old new bytes
  pub text : List ℕ
  pub read_as : IsReadAs verbose bytes text
  pub stops : StopsAt text why.fault.line why.fault.stop
  pub placed : IsPlaced text why.fault.line why.spot

-- the input has more bytes than that
pub record IsTooLong (most : ℕ) (old new : Option (List ℕ)) : Type 0 where
  pub bytes : List ℕ
  pub read : Consumes old new bytes
  pub long : most < length bytes

-- what was read where the input is not read whole
abbrev pub FailsWithin : ℕ → Fault → Option (List ℕ) → Option (List ℕ) → Type 0
FailsWithin most fault.Memory old new = Unit {0}
FailsWithin most fault.Read old new = Unit {0}
FailsWithin most fault.TooLong old new = IsTooLong most old new
FailsWithin most why old new = ⊥

-- the same of the limit
abbrev pub InputFails : Fault → Option (List ℕ) → Option (List ℕ) → Type 0
InputFails why old new = FailsWithin input_bytes why old new

-- the feed stops at this line, and the place that is reported is one in it; unless memory ran out
abbrev pub SurveyFails : Fault → List ℕ → Type 0
SurveyFails (fault.Survey why) bytes =
    StopsAt bytes why.fault.line why.fault.stop × IsPlaced bytes why.fault.line why.spot
SurveyFails fault.Memory bytes = Unit {0}
SurveyFails why bytes = ⊥

-- the same of a feed as it is read
abbrev pub ReadingFails : Bool → Fault → List ℕ → Type 0
ReadingFails verbose why bytes =
    (text : List ℕ) × IsReadAs verbose bytes text × SurveyFails why text

-- what was read where the input can't be counted
abbrev pub CountFails : Bool → Fault → Option (List ℕ) → Option (List ℕ) → Type 0
CountFails verbose (fault.Survey why) old new = InputStopsWithin verbose old new why
CountFails verbose why old new = InputFails why old new

-- the input was counted, and the counts were printed
pub record CountsPrinted (options : CheckOptions) (s : Streams) : Type 0 where
  pub text : List ℕ
  pub counted : InputCounted options s.input_old s.input_new text
  pub printed : Appends s.out_old s.out_new text

-- the input was counted, and a prefix of the counts was printed
pub record CountsPrintedPrefix (options : CheckOptions) (s : Streams) : Type 0 where
  pub text : List ℕ
  pub counted : InputCounted options s.input_old s.input_new text
  pub printed : AppendsPrefix s.out_old s.out_new text

-- a prefix of the counts was printed where a write failed, and nothing where the input can't be
-- counted
abbrev pub CheckFails : CheckOptions → Fault → Streams → Type 0
CheckFails options fault.Write s = CountsPrintedPrefix options s
CheckFails options why s =
    CountFails options.verbose why s.input_old s.input_new × Keeps s.out_old s.out_new
