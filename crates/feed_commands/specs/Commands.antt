-- What the commands do, by what a command line asks for.
use Rattle.std.specs.Prelude.{◌≡◌, ◌≢◌, ◌⊎◌, ◌≤◌, ℕ, Bool, true, false, List, Option, None, Some, option_map, string_bytes}
use Rattle.std.specs.Io.KnownBytes.{Appends, Keeps}
use Rattle.feed_http.specs.Device.{AppendsPrefix, HasFailed as HasDeviceFailed}
use Rattle.feed_commands.specs.Check.{CountsPrinted, CheckFails}
use Rattle.feed_commands.specs.Play.{Played, PlayFails}
use Rattle.feed_settings.specs.Limits.{Limits}
use Rattle.feed_commands.specs.StateAt.{PrintedAt, FailsAt}
use Rattle.feed_commands.specs.Streamed.{StreamPrinted, StreamCheckFails}
use Rattle.feed_commands.specs.Streams.{Streams}
use Rattle.feed_http.specs.Exchange.{Wrote}
use Rattle.feed_commands.specs.Tables.{PrintedSome, TablesFail}
use Rattle.feed_commands.specs.Reporting.{IsReportedStatus, ReportsLines}
use Rattle.feed_commands.specs.declared.fault.Fault.{Fault}
use Rattle.feed_commands.specs.declared.fault.Fault.TheVariants as fault
use Rattle.feed_arguments.specs.declared.request.CheckOptions.{CheckOptions}
use Rattle.feed_arguments.specs.declared.request.Local.{Local}
use Rattle.feed_arguments.specs.declared.request.Local.TheVariants as local
use Rattle.feed_arguments.specs.Words.{Asks, AsksNothing}
use Rattle.feed_arguments.specs.declared.request.Request.{Request}
use Rattle.feed_arguments.specs.declared.request.Request.TheVariants as request
use Rattle.feed_arguments.specs.declared.request.NoCommand.{NoCommand}
use Rattle.feed_arguments.specs.declared.request.NoCommand.TheVariants as reply

-- the tables were printed that are shown at the end of the input, or at this token
abbrev pub TablesPrinted : Limits → Option (List ℕ) → Streams → Type 0
TablesPrinted limits None s = PrintedSome limits s
TablesPrinted limits (Some token) s = PrintedAt limits token s

-- the same where they were not printed
abbrev pub NotPrinted : Limits → Option (List ℕ) → Fault → Streams → Type 0
NotPrinted limits None why s = TablesFail limits why s
NotPrinted limits (Some token) why s = FailsAt limits token why s

-- what the lines are was printed, of an input that was read whole or as a stream
abbrev pub CheckPrinted : Bool → CheckOptions → Streams → Type 0
CheckPrinted false options s = CountsPrinted options s
CheckPrinted true options s = StreamPrinted options s

-- the same where it was not printed
abbrev pub CheckNotPrinted : Bool → CheckOptions → Fault → Streams → Type 0
CheckNotPrinted false options why s = CheckFails options why s
CheckNotPrinted true options why s = StreamCheckFails options why s

-- the command did what was asked for
abbrev pub CommandSucceeds : Local → Streams → Type 0
CommandSucceeds (local.Tables options) s =
    TablesPrinted options.limits (option_map (λ text. text.now) options.at) s
CommandSucceeds (local.Check options) s = CheckPrinted options.stream options s
CommandSucceeds local.Play s = Played s

-- the command failed like this
abbrev pub CommandFails : Local → Fault → Streams → Type 0
CommandFails (local.Tables options) why s =
    NotPrinted options.limits (option_map (λ text. text.now) options.at) why s
CommandFails (local.Check options) why s = CheckNotPrinted options.stream options why s
CommandFails local.Play why s = PlayFails why s

-- where the fault is a device's, that one failed; where memory ran out, none did
abbrev pub IsDeviceFault : Fault → Streams → Type 0
IsDeviceFault fault.Read s = HasDeviceFailed s.failed_reads_old s.failed_reads_new
IsDeviceFault fault.Write s = HasDeviceFailed s.failed_writes_old s.failed_writes_new
IsDeviceFault fault.Memory s =
    (s.failed_reads_new ≡ s.failed_reads_old) × (s.failed_writes_new ≡ s.failed_writes_old)
IsDeviceFault why s = Unit {0}

-- the command failed, and this is the status for it, behind what was reported of it
pub record EndsWithStatus (asked : Local) (status : ℕ) (s : Streams) (err : Wrote) : Type 0 where
  pub why : Fault
  pub failed : CommandFails asked why s
  pub device : IsDeviceFault why s
  pub reported : IsReportedStatus why err status

-- all of the text was written, or the device failed, and a prefix of it was
abbrev pub IsWritten : List ℕ → Wrote → Type 0
IsWritten text wrote =
    Appends wrote.old wrote.new text
    ⊎ (HasDeviceFailed wrote.failed_old wrote.failed_new × AppendsPrefix wrote.old wrote.new text)

-- the status for words that ask for no command, and what was printed for them
abbrev pub RepliesToWords : NoCommand → ℕ → Wrote → Type 0
RepliesToWords reply.Memory status wrote = (status ≡ 5) × Keeps wrote.old wrote.new
RepliesToWords (reply.Refused text) status wrote = (status ≡ 1) × Keeps wrote.old wrote.new
RepliesToWords (reply.Shown text) status wrote =
    ((status ≡ 0) × Appends wrote.old wrote.new (string_bytes text))
    ⊎ ((status ≡ 4) × HasDeviceFailed wrote.failed_old wrote.failed_new
    × AppendsPrefix wrote.old wrote.new (string_bytes text))

-- why they are refused was reported, and that memory ran out, unless the device failed
abbrev pub ReportsRefusal : NoCommand → Wrote → Type 0
ReportsRefusal (reply.Refused text) wrote = IsWritten (string_bytes text) wrote
ReportsRefusal reply.Memory wrote =
    ReportsLines wrote.old wrote.new ⊎ HasDeviceFailed wrote.failed_old wrote.failed_new
ReportsRefusal (reply.Shown text) wrote = Unit {0}

-- ---- by the words

-- the command opens no connection, and reads standard input alone
abbrev pub is_local : Request → Bool
is_local (request.Local asked) = true
is_local other = false

-- the standard streams
pub record Standard (R W E : Type 0) : Type 0 where
  pub input : R
  pub out : W
  pub err : E

abbrev pub standard : {R W E : Type 0} → R → W → E → Standard R W E
standard input out err = record { input = input; out = out; err = err }

-- what was printed
abbrev pub printed_by : Streams → Wrote
printed_by s = record {
  old = s.out_old;
  new = s.out_new;
  failed_old = s.failed_writes_old;
  failed_new = s.failed_writes_new;
}

module _ {R W E : Type 0} (words : List (List ℕ)) (status : ℕ) (s : Streams) (reported : Wrote)
    (old new : Standard R W E) where
  -- the words ask for such a command, it was run, and this is its status
  pub record RunsLocal : Type 0 where
    pub asked : Local
    pub asks : Asks words (request.Local asked)
    pub done : status ≡ 0 → CommandSucceeds asked s × (new.err ≡ old.err)
    pub failed : status ≢ 0 → EndsWithStatus asked status s reported
    pub unrefused : status ≢ 1
    pub greatest : status ≤ 5

  -- the words ask for another command: nothing is read or written
  pub record LeavesOther : Type 0 where
    pub asked : Request
    pub asks : Asks words asked
    pub other : is_local asked ≡ false
    pub refused : status ≡ 1
    pub untouched : new ≡ old

  -- the words ask for no command, and are replied to
  pub record StatusOfWords : Type 0 where
    pub reply : NoCommand
    pub asks : AsksNothing words reply
    pub unread : new.input ≡ old.input
    pub replied : RepliesToWords reply status (printed_by s)
    pub reports : ReportsRefusal reply reported

  -- what the words of a command line come to
  abbrev pub RunsBy : Type 0
  RunsBy = RunsLocal ⊎ (LeavesOther ⊎ StatusOfWords)
