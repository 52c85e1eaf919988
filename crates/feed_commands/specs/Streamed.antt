-- What the command `check --stream` reads and prints: a feed of any length, read piece by piece.
use Rattle.std.specs.Prelude.{◌≡◌, ◌⊎◌, ◌+◌, ◌<◌, ◌≤◌, ◌^◌, ◌*◌, ℕ, Bool, true, List, [], ◌++◌, length, Option}
use Rattle.std.specs.List.{AllByRecursion, AllZip, list_any}
use Rattle.std.specs.BTreeSet.{contains_text}
use Rattle.std.specs.Io.KnownBytes.{Appends, Consumes, IsAtEnd, Keeps}
use Rattle.feed_text.specs.Limits.{line_bytes}
use Rattle.feed_note.specs.Counts.{IsRead, StopsAt, counts_of, has_token}
use Rattle.feed_note.specs.Lines.{HasNoLineFeed, ended}
use Rattle.feed_note.specs.Steps.{with_note}
use Rattle.feed_note.specs.declared.line.Line.{Line}
use Rattle.feed_note.specs.declared.counts.SurveyFault.{SurveyFault}
use Rattle.feed_note.specs.declared.stop.LineStop.{LineStop}
use Rattle.feed_http.specs.Device.{AppendsPrefix}
use Rattle.feed_commands.specs.Check.{TellsCounts, HasNoNotes, closed}
use Rattle.feed_commands.specs.Findings.{has_this, comes_again, is_tokenless, of_each, IsFound, IsOlder, IsMisnamed, ReadsOneLine}
use Rattle.feed_commands.specs.Streams.{Streams}
use Rattle.feed_commands.specs.declared.commands.findings.Reader.{Reader}
use Rattle.feed_commands.specs.declared.commands.streamed.Tally.{Tally}
use Rattle.feed_commands.specs.declared.commands.streamed.Reading.{Reading}
use Rattle.feed_arguments.specs.declared.request.CheckOptions.{CheckOptions}
use Rattle.feed_commands.specs.declared.fault.Fault.{Fault}
use Rattle.feed_commands.specs.declared.fault.Fault.TheVariants as fault

-- how many reads are made at most
abbrev pub most_stream_reads : ℕ
most_stream_reads = 1099511627776

-- the line of this number stops the reading of the text, whatever comes behind the text
abbrev pub StopsForGood : List ℕ → ℕ → LineStop → Type 0
StopsForGood text line why = (more : List ℕ) → StopsAt (text ++ more) line why

-- ---- what was read and printed

-- the whole input was read, however long it is, and this tells what its lines are
pub record StreamCounted (options : CheckOptions) (old new : Option (List ℕ))
    (text : List ℕ) : Type 0 where
  pub bytes : List ℕ
  pub read : Consumes old new bytes
  pub end : IsAtEnd new
  pub tells : TellsCounts options bytes text

-- this was read of the input, and whatever else it has, it stops at this line
pub record StreamStops (old new : Option (List ℕ)) (why : SurveyFault) : Type 0 where
  pub bytes : List ℕ
  pub read : Consumes old new bytes
  pub stops : StopsForGood bytes why.line why.stop

-- as many reads as are made each gave something
pub record StreamReadOn (old new : Option (List ℕ)) : Type 0 where
  pub bytes : List ℕ
  pub read : Consumes old new bytes
  pub many : most_stream_reads ≤ length bytes

-- what was read where the input can't be counted
abbrev pub StreamFails : Fault → Option (List ℕ) → Option (List ℕ) → Type 0
StreamFails (fault.Survey why) old new = StreamStops old new why.fault
StreamFails fault.Memory old new = Unit {0}
StreamFails fault.Read old new = Unit {0}
StreamFails fault.TooManyReads old new = StreamReadOn old new
StreamFails why old new = ⊥

-- the whole input was read, no line of it is a notification, and it stops at this line once its
-- last line has ended
pub record ClosedStops (old new : Option (List ℕ)) (why : SurveyFault) : Type 0 where
  pub bytes : List ℕ
  pub read : Consumes old new bytes
  pub end : IsAtEnd new
  pub none : HasNoNotes bytes
  pub stops : StopsAt (closed bytes) why.line why.stop

abbrev pub ClosingFails : Fault → Option (List ℕ) → Option (List ℕ) → Type 0
ClosingFails (fault.Survey why) old new = ClosedStops old new why.fault
ClosingFails fault.Memory old new = Unit {0}
ClosingFails why old new = ⊥

-- what was read where the input can't be counted; its last line is ended at the end where what is
-- found is asked for
abbrev pub StreamCountFails : Bool → Fault → Option (List ℕ) → Option (List ℕ) → Type 0
StreamCountFails verbose why old new =
    StreamFails why old new ⊎ ((verbose ≡ true) × ClosingFails why old new)

-- the input was counted, and the counts were printed
pub record StreamPrinted (options : CheckOptions) (s : Streams) : Type 0 where
  pub text : List ℕ
  pub counted : StreamCounted options s.input_old s.input_new text
  pub printed : Appends s.out_old s.out_new text

-- the input was counted, and a prefix of the counts was printed
pub record StreamPrintedPrefix (options : CheckOptions) (s : Streams) : Type 0 where
  pub text : List ℕ
  pub counted : StreamCounted options s.input_old s.input_new text
  pub printed : AppendsPrefix s.out_old s.out_new text

-- a prefix of the counts was printed where a write failed, and nothing where the input can't be
-- counted
abbrev pub StreamCheckFails : CheckOptions → Fault → Streams → Type 0
StreamCheckFails options fault.Write s = StreamPrintedPrefix options s
StreamCheckFails options why s =
    StreamCountFails options.verbose why s.input_old s.input_new × Keeps s.out_old s.out_new

-- ---- one line more

-- what is found on a line is noted where that is asked for
pub record NotesFound (line : List ℕ) (old new : Tally) : Type 0 where
  pub counts : new.counts ≡ old.counts
  pub verbose : new.verbose ≡ old.verbose
  pub found : old.verbose ≡ true → ReadsOneLine line old.reader new.reader

-- a line is read and counted, and what is found on it is noted where that is asked for
pub record CountsLine (line : List ℕ) (old new : Tally) : Type 0 where
  pub note : Line
  pub read : IsRead line note
  pub counts : new.counts ≡ with_note old.counts note
  pub verbose : new.verbose ≡ old.verbose
  pub found : old.verbose ≡ true → ReadsOneLine line old.reader new.reader

-- ---- all lines so far

-- the reader knows the tokens of these lines, and what is found on them
pub record AreNoted (passed : List (List ℕ)) (notes : List Line) (reader : Reader) : Type 0 where
  pub older : List Bool
  pub misnamed : List Bool
  pub are_older : AllZip IsOlder passed older
  pub are_misnamed : AllZip IsMisnamed passed misnamed
  pub count : reader.lines ≡ length notes
  pub seen : (other : List ℕ) → contains_text reader.seen other ≡ list_any (has_this other) notes
  pub has_token : reader.has_token ≡ list_any has_token notes
  pub repeats_is : IsFound (of_each comes_again [] notes) reader.findings.repeats
  pub tokenless_is : IsFound (of_each is_tokenless [] notes) reader.findings.tokenless
  pub older_is : IsFound older reader.findings.older
  pub misnamed_is : IsFound misnamed reader.findings.misnamed

-- these lines were read as these notes, and are counted
pub record AreTallied (passed : List (List ℕ)) (notes : List Line) (tally : Tally) : Type 0 where
  pub whole : AllByRecursion HasNoLineFeed passed
  pub read : AllZip IsRead passed notes
  pub counts_are : tally.counts ≡ counts_of notes 0
  pub found : tally.verbose ≡ true → AreNoted passed notes tally.reader

-- the lines so far are tallied, and with so many bytes more they are fewer than can't be counted
pub record HasRoomFor (more : ℕ) (tally : Tally) : Type 0 where
  pub passed : List (List ℕ)
  pub notes : List Line
  pub tallied : AreTallied passed notes tally
  pub few : length (ended passed) + more < 2 ^ 64

-- the lines of the text are tallied, and the bytes behind its last line feed are left
pub record HasTaken (verbose : Bool) (text : List ℕ) (reading : Reading) : Type 0 where
  pub passed : List (List ℕ)
  pub notes : List Line
  pub tallied : AreTallied passed notes reading.tally
  pub is : text ≡ ended passed ++ reading.left.items
  pub part : HasNoLineFeed reading.left.items
  pub short : length reading.left.items ≤ line_bytes
  pub verbose_is : reading.tally.verbose ≡ verbose

-- the same of some text, which is short enough for so many bytes more
pub record HasRoomOn (more : ℕ) (reading : Reading) : Type 0 where
  pub verbose : Bool
  pub text : List ℕ
  pub taken : HasTaken verbose text reading
  pub few : length text + more < 2 ^ 64

-- This was read of the input in so many reads that each gave something, and taken.
pub record WasTaken (verbose : Bool) (reads : ℕ) (old new : Option (List ℕ))
    (reading : Reading) : Type 0 where
  pub bytes : List ℕ
  pub read : Consumes old new bytes
  pub many : reads ≤ length bytes
  pub few : length bytes ≤ 4096 * reads
  pub taken : HasTaken verbose bytes reading

-- the same of the whole input
pub record IsAllTaken (verbose : Bool) (old new : Option (List ℕ))
    (reading : Reading) : Type 0 where
  pub bytes : List ℕ
  pub read : Consumes old new bytes
  pub end : IsAtEnd new
  pub few : length bytes + 1 < 2 ^ 64
  pub taken : HasTaken verbose bytes reading
