-- What the command `tables` reads and prints.
use Rattle.std.specs.Prelude.{◌≡◌, ℕ, ◌≤◌, Bool, true, false, List, [], ◌++◌, length, Option, Some, None, Result, Ok, Err, is_some}
use Rattle.std.specs.Io.KnownBytes.{Appends, Consumes, IsAtEnd, Keeps}
use Rattle.feed_settings.specs.Limits.{Limits}
use Rattle.feed_note.specs.declared.line.Line.{Line}
use Rattle.feed_node.specs.Publishing.{Published}
use Rattle.feed_node.specs.Texts.{published_text}
use Rattle.feed_node.specs.Mirroring.{MirrorState, StandsAt, first_opening}
use Rattle.feed_node.specs.Reading.{Reads, FaultsAt, reads}
use Rattle.feed_http.specs.Device.{AppendsPrefix}
use Rattle.feed_relay.specs.Serving.{most_reads}
use Rattle.feed_commands.specs.Streams.{Streams}
use Rattle.feed_commands.specs.declared.fault.Fault.{Fault}
use Rattle.feed_commands.specs.declared.fault.FeedStop.{FeedStop}
use Rattle.feed_commands.specs.declared.fault.Fault.TheVariants as fault

-- At least so many bytes were read. But for those behind, they were fed to a mirror on its first
-- connection, and nothing is wrong with them.
pub record FedSoFar (limits : Limits) (least : ℕ) (old new : Option (List ℕ)) (behind : List ℕ)
    (mirror : MirrorState) : Type 0 where
  pub bytes : List ℕ
  pub notes : List Line
  pub many : least ≤ length (bytes ++ behind)
  pub read : Consumes old new (bytes ++ behind)
  pub stands : StandsAt first_opening bytes notes mirror
  pub limits_are : mirror.limits ≡ limits

-- these bytes were read, nothing is wrong with them, and this is what their lines publish
pub record HasRead (limits : Limits) (old new : Option (List ℕ)) (shown : Option Published)
    : Type 0 where
  pub bytes : List ℕ
  pub notes : List Line
  pub read : Consumes old new bytes
  pub good : Reads limits first_opening bytes notes
  pub shown_is : shown ≡ (reads limits.history first_opening notes).published

-- the same, where each of the reads that are allowed gave something
pub record HasReadOn (limits : Limits) (old new : Option (List ℕ)) (shown : Option Published)
    : Type 0 where
  pub whole : HasRead limits old new shown
  pub many : most_reads ≤ length whole.bytes

-- all that was read was fed; or, where the fault's line is reported, what was read up to that line
abbrev pub WasFed : Option ℕ → List ℕ → Type 0
WasFed None behind = behind ≡ []
WasFed (Some line) behind = Unit {0}

-- these bytes and those behind were read, the fault is that of their first bad line, and this is
-- what the lines before it publish
pub record HasFaulted (limits : Limits) (why : FeedStop) (old new : Option (List ℕ))
    (shown : Option Published) : Type 0 where
  pub bytes : List ℕ
  pub behind : List ℕ
  pub notes : List Line
  pub read : Consumes old new (bytes ++ behind)
  pub left : WasFed why.line behind
  pub first : FaultsAt limits first_opening bytes notes why.fault
  pub shown_is : shown ≡ (reads limits.history first_opening notes).published

-- what was read of the input, how that ended, and what is published then
abbrev pub IsFed : Limits → Result (Unit {0}) Fault → Option (List ℕ) → Option (List ℕ)
    → Option Published → Type 0
IsFed limits (Ok all) old new shown = HasRead limits old new shown × IsAtEnd new
IsFed limits (Err fault.Read) old new shown = HasRead limits old new shown
IsFed limits (Err fault.TooManyReads) old new shown = HasReadOn limits old new shown
IsFed limits (Err (fault.Feed why)) old new shown = HasFaulted limits why old new shown
IsFed limits (Err why) old new shown = ⊥

-- the input was read like that, and the snapshot of what is published was printed
pub record Printed (limits : Limits) (ended : Result (Unit {0}) Fault) (s : Streams) : Type 0 where
  pub shown : Option Published
  pub fed : IsFed limits ended s.input_old s.input_new shown
  pub printed : Appends s.out_old s.out_new (published_text shown)

-- the same, where something is published
pub record PrintedSome (limits : Limits) (s : Streams) : Type 0 where
  pub whole : Printed limits (Ok tt) s
  pub some : is_some whole.shown ≡ true

-- the same, where nothing is
pub record PrintedNone (limits : Limits) (s : Streams) : Type 0 where
  pub whole : Printed limits (Ok tt) s
  pub none : whole.shown ≡ None

-- the input was read, and a prefix of the snapshot was printed
pub record PrintedPrefix (limits : Limits) (s : Streams) : Type 0 where
  pub ended : Result (Unit {0}) Fault
  pub shown : Option Published
  pub fed : IsFed limits ended s.input_old s.input_new shown
  pub printed : AppendsPrefix s.out_old s.out_new (published_text shown)

-- what the command comes to whose feeding ended like this and whose text was printed
abbrev pub outcome_of : Result (Unit {0}) Fault → Bool → Result (Unit {0}) Fault
outcome_of (Ok all) true = Ok tt
outcome_of (Ok all) false = Err fault.Unpublished
outcome_of (Err why) is_published = Err why

-- what was read and printed where the command fails
abbrev pub TablesFail : Limits → Fault → Streams → Type 0
TablesFail limits fault.Memory s = Keeps s.out_old s.out_new
TablesFail limits fault.Read s = Printed limits (Err fault.Read) s
TablesFail limits fault.TooManyReads s = Printed limits (Err fault.TooManyReads) s
TablesFail limits fault.Write s = PrintedPrefix limits s
TablesFail limits (fault.Feed why) s = Printed limits (Err (fault.Feed why)) s
TablesFail limits fault.Unpublished s = PrintedNone limits s
TablesFail limits why s = ⊥
