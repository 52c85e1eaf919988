-- What the command `play` reads and prints.
use Rattle.std.specs.Prelude.{◌≡◌, ◌⊎◌, ℕ, ◌+◌, true, false, List, length}
use Rattle.std.specs.Io.KnownBytes.{Appends, Keeps}
use Rattle.feed_note.specs.Lines.{lines}
use Rattle.feed_http.specs.Device.{AppendsPrefix, HasFailed}
use Rattle.feed_play.specs.Fault.{is_play_memory}
use Rattle.feed_play.specs.Lines.{IsLineFrom}
use Rattle.feed_play.specs.Player.{Plays, StopsScript}
use Rattle.feed_play.specs.declared.fault.PlayFault.{PlayFault}
use Rattle.feed_commands.specs.Check.{IsWhole, InputFails}
use Rattle.feed_commands.specs.Streams.{Streams}
use Rattle.feed_commands.specs.declared.fault.Fault.{Fault}
use Rattle.feed_commands.specs.declared.fault.Fault.TheVariants as fault

-- the whole input was read, and what its lines ask for was printed
pub record Played (s : Streams) : Type 0 where
  pub script : List ℕ
  pub told : List ℕ
  pub whole : IsWhole s.input_old s.input_new script
  pub plays : Plays script told
  pub printed : Appends s.out_old s.out_new told

-- the script stops at a fault, and not for want of memory; this is told before
pub record StopsByFault (script told : List ℕ) : Type 0 where
  pub why : PlayFault
  pub stops : StopsScript script told why
  pub no_memory : is_play_memory why.cause ≡ false

-- the same, up to the first fault if there is one, but that only a prefix was printed
pub record PlayedPrefix (s : Streams) : Type 0 where
  pub script : List ℕ
  pub told : List ℕ
  pub whole : IsWhole s.input_old s.input_new script
  pub plays : Plays script told ⊎ StopsByFault script told
  pub printed : AppendsPrefix s.out_old s.out_new told

-- a write failed, and a prefix of the text was printed
pub record IsPlayedInPart (s : Streams) (told : List ℕ) : Type 0 where
  pub failed : HasFailed s.failed_writes_old s.failed_writes_new
  pub printed : AppendsPrefix s.out_old s.out_new told

-- the text was printed; or, where memory ran out and a write failed too, a prefix of it
abbrev pub IsPrinted : PlayFault → Streams → List ℕ → Type 0
IsPrinted why s told =
    Appends s.out_old s.out_new told ⊎ ((is_play_memory why.cause ≡ true) × IsPlayedInPart s told)

-- the whole input was read, and stops at one of its lines, or at the one that is missing; what the
-- lines before it ask for was printed
pub record Stopped (why : PlayFault) (s : Streams) : Type 0 where
  pub script : List ℕ
  pub told : List ℕ
  pub whole : IsWhole s.input_old s.input_new script
  pub stops : StopsScript script told why
  pub line : IsLineFrom 1 (length (lines script) + 1) why.line
  pub printed : IsPrinted why s told

-- what was read and printed where the command fails
abbrev pub PlayFails : Fault → Streams → Type 0
PlayFails fault.Write s = PlayedPrefix s
PlayFails (fault.Play why) s = Stopped why s
PlayFails why s = InputFails why s.input_old s.input_new × Keeps s.out_old s.out_new
