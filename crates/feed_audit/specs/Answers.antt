-- What an audit answers.
use Rattle.std.specs.Prelude.{◌≡◌, ◌≢◌, ℕ, ◌+◌, min, Option, None, Some, List, [], ◌∷◌, ◌++◌, length, IfSome, false}
use Rattle.feed_settings.specs.Limits.{Limits}
use Rattle.feed_note.specs.Lines.{lines, ended}
use Rattle.feed_node.specs.Publishing.{Published}
use Rattle.feed_note.specs.declared.line.Line.{Line}
use Rattle.feed_node.specs.Mirroring.{MirrorState, first_opening, mirror_after, present_opening, publications}
use Rattle.feed_node.specs.Reading.{AllGood, Reads}
use Rattle.feed_node.specs.States.{NodeState, token_of}
use Rattle.feed_node.specs.declared.fault.FeedFault.{FeedFault}
use Rattle.feed_audit.specs.Differences.{Explains}
use Rattle.feed_records.specs.Fronts.{IsLeft}
use Rattle.feed_audit.specs.States.{Start, afresh, published_from, IsStateFrom, IsStateOf, AgreesFrom}
use Rattle.feed_audit.specs.Stops.{IsOfRecord}
use Rattle.feed_audit.specs.Walks.{Walked, Counts, AllAre, FaultsIn, FaultsFirst}
use Rattle.feed_audit.specs.Along.{IsAlong}
use Rattle.feed_audit.specs.declared.ours.Ours.{Ours}
use Rattle.feed_audit.specs.declared.verdict.AuditFault.{AuditFault}
use Rattle.feed_audit.specs.declared.verdict.AuditFault.TheVariants as fault
use Rattle.feed_audit.specs.declared.verdict.Stray.{Stray}
use Rattle.feed_audit.specs.declared.verdict.Verdict.{Verdict}
use Rattle.feed_audit.specs.declared.verdict.Verdict.TheVariants as verdict

-- nothing is wrong with the screen's text, it publishes so many times, and each state of it is one
-- of the primary's
pub record AgreementFrom (start : Start) (primary screen : List ℕ) (states : ℕ) : Type 0 where
  pub notes : List Line
  pub read : Reads start.limits start.opening screen notes
  pub counted : states
      ≡ min (publications start.limits.history start.opening notes) 18446744073709551615
  pub agrees : AgreesFrom start primary screen

-- A line of the screen's text brings a state that is none of the primary's; all those of the lines
-- before it are.
pub record StrayingFrom (start : Start) (primary screen : List ℕ) (stray : Stray) : Type 0 where
  pub earlier : List (List ℕ)
  pub line : List ℕ
  pub later : List (List ℕ)
  pub whole : lines screen ≡ earlier ++ line ∷ later
  pub counted : stray.line ≡ min (length earlier + 1) 18446744073709551615
  pub notes : List Line
  pub good : AllGood start.limits start.opening earlier notes
  pub before : stray.before
      ≡ min (publications start.limits.history start.opening notes) 18446744073709551615
  pub agrees : AgreesFrom start primary (ended earlier)
  pub state : Published
  pub is : IsStateFrom start (ended (earlier ++ line ∷ [])) state
  pub named : stray.token ≡ state.token
  pub strays : ¬ (IsStateOf start.limits primary state)
  pub explained : Explains start.limits primary (token_of (published_from start notes)) state
      stray.difference

abbrev pub IsVerdictFrom : Start → List ℕ → List ℕ → Verdict → Type 0
IsVerdictFrom start primary screen (verdict.Agrees states) =
    AgreementFrom start primary screen states
IsVerdictFrom start primary screen (verdict.Strays stray) = StrayingFrom start primary screen stray

-- The first lines of the primary's text are good, up to one with this fault. They publish something
-- else than the screen's text does at some place.
pub record PrimaryFaults (start : Start) (primary screen : List ℕ) (line : ℕ)
    (why : FeedFault) : Type 0 where
  pub faults : FaultsIn (afresh start.limits) primary line why
  pub state : Published
  pub is : IsStateFrom start screen state
  pub lacks : AllAre (afresh start.limits) (λ shown. shown ≢ state) faults.notes

-- the first lines of the screen's text are good, up to one with this fault, and each state that
-- they publish is one of the primary's
pub record ScreenFaults (start : Start) (primary screen : List ℕ) (line : ℕ)
    (why : FeedFault) : Type 0 where
  pub faults : FaultsIn start screen line why
  pub agrees : AllAre start (IsStateOf start.limits primary) faults.notes

-- a line of a text can't be read; a want of memory says nothing
abbrev pub FailsFrom : Start → List ℕ → List ℕ → AuditFault → Type 0
FailsFrom start primary screen (fault.Primary line why) =
    PrimaryFaults start primary screen line why
FailsFrom start primary screen (fault.Screen line why) = ScreenFaults start primary screen line why
FailsFrom start primary screen (fault.Chunked line) = ⊥
FailsFrom start primary screen (fault.OtherToken line) = ⊥
FailsFrom start primary screen (fault.PrimaryUnread why) = IsOfRecord why
FailsFrom start primary screen (fault.ScreenUnread why) = IsOfRecord why
FailsFrom start primary screen fault.Memory = Unit {0}

-- on a connection of this mirror that begins now
abbrev pub begun_by : Limits → MirrorState → Start
begun_by limits mirror = record { limits = limits; opening = present_opening mirror }

-- what is answered, and that the mirror has read all lines where the text agrees
abbrev pub IsVerdictOn : Start → List ℕ → List ℕ → Verdict → MirrorState → Type 0
IsVerdictOn start primary screen (verdict.Agrees states) mirror =
    (a : AgreementFrom start primary screen states)
    × (mirror ≡ mirror_after start.limits start.opening a.notes [])
IsVerdictOn start primary screen (verdict.Strays stray) mirror =
    StrayingFrom start primary screen stray

-- this is so where the text agrees
abbrev pub IfAgrees : Verdict → Type 0 → Type 0
IfAgrees (verdict.Agrees states) P = P
IfAgrees (verdict.Strays stray) P = Unit {0}

-- the same of a screen's text that a fresh connection carried
abbrev pub IsVerdict : Limits → List ℕ → List ℕ → Verdict → Type 0
IsVerdict limits primary screen verdict = IsVerdictFrom (afresh limits) primary screen verdict

abbrev pub FailsToAudit : Limits → List ℕ → List ℕ → AuditFault → Type 0
FailsToAudit limits primary screen fault = FailsFrom (afresh limits) primary screen fault

-- nothing is wrong with the text, and it publishes so many times
pub record HasStates (limits : Limits) (text : List ℕ) (states : ℕ) : Type 0 where
  pub notes : List Line
  pub read : Reads limits first_opening text notes
  pub counted : states ≡ min (publications limits.history first_opening notes) 18446744073709551615

-- the fault is that of the primary's first bad line
abbrev pub FailsToCount : Limits → List ℕ → AuditFault → Type 0
FailsToCount limits primary (fault.Primary line why) = FaultsIn (afresh limits) primary line why
FailsToCount limits primary (fault.Screen line why) = ⊥
FailsToCount limits primary (fault.Chunked line) = ⊥
FailsToCount limits primary (fault.OtherToken line) = ⊥
FailsToCount limits primary (fault.PrimaryUnread why) = IsOfRecord why
FailsToCount limits primary (fault.ScreenUnread why) = ⊥
FailsToCount limits primary fault.Memory = Unit {0}

-- the same, where the lines before that one don't publish what a node shows
abbrev pub FailsToLocate : Limits → List ℕ → NodeState → AuditFault → Type 0
FailsToLocate limits primary wanted (fault.Primary line why) =
    FaultsFirst (afresh limits) primary [] wanted line why
FailsToLocate limits primary wanted (fault.Screen line why) = ⊥
FailsToLocate limits primary wanted (fault.Chunked line) = ⊥
FailsToLocate limits primary wanted (fault.OtherToken line) = ⊥
FailsToLocate limits primary wanted (fault.PrimaryUnread why) = IsOfRecord why
FailsToLocate limits primary wanted (fault.ScreenUnread why) = ⊥
FailsToLocate limits primary wanted fault.Memory = Unit {0}

-- A mirror has read some of the lines of a text on a fresh connection, which are so many and
-- publish so many states, and the others are left.
abbrev pub HasReadLines : Limits → List ℕ → Option (List ℕ) → ℕ → ℕ → MirrorState → Type 0
HasReadLines limits text left lines states mirror =
    IsLeft left (λ behind. Counts (afresh limits) text behind lines states mirror)

-- nothing of it was read, and all of it is left
pub record StartsReading (limits : Limits) (text : List ℕ) (left : Option (List ℕ))
    (mirror : MirrorState) : Type 0 where
  pub whole : left ≡ Some text
  pub walked : Walked (afresh limits) text text [] 0 mirror

-- so it is of the primary's text, of which nothing was read, and both sides never showed the same
pub record StartsOurs (limits : Limits) (text : List ℕ) (left : Option (List ℕ))
    (ours : Ours) : Type 0 where
  pub whole : left ≡ Some text
  pub walked : Walked (afresh limits) text text [] ours.lines ours.mirror
  pub none : ours.states ≡ 0
  pub apart : ours.since.is_known ≡ false
  pub past : ours.past ≡ None

-- what the node shows is no state of the text
abbrev pub IsStrange : Limits → List ℕ → NodeState → Type 0
IsStrange limits text node =
    (state : Published) → node.published ≡ Some state → ¬ (IsStateOf limits text state)

-- So far was the primary's text read where the screen's mirror shows this, which is one of the
-- primary's states.
pub record Finds (limits : Limits) (text : List ℕ) (left : Option (List ℕ)) (ours : Ours)
    (theirs : NodeState) : Type 0 where
  pub read : HasReadLines limits text left ours.lines ours.states ours.mirror
  pub along : IsAlong limits text ours.since ours.past ours.mirror.node theirs
  pub shown : IfSome theirs.published (IsStateOf limits text)

abbrev pub IsBeside : Limits → List ℕ → Option (List ℕ) → Ours → MirrorState → Type 0
IsBeside limits text left ours theirs = Finds limits text left ours theirs.node
