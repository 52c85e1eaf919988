-- What an audit of a record of several connections answers. Each is read as a fresh one, or goes on
-- where those before it ended.
use Rattle.std.specs.Prelude.{◌≡◌, ◌⊎◌, ◌≤◌, ℕ, ◌+◌, min, Bool, true, false, List, [], ◌∷◌, ◌++◌, Option, None, Some}
use Rattle.feed_settings.specs.Limits.{Limits}
use Rattle.feed_node.specs.Mirroring.{MirrorState, new_mirror, mirror_after, first_opening, present_opening}
use Rattle.feed_node.specs.Reading.{Opening}
use Rattle.feed_node.specs.declared.fault.FeedFault.{FeedFault}
use Rattle.feed_audit.specs.Answers.{AgreementFrom, StrayingFrom, PrimaryFaults, ScreenFaults, HasStates, FailsToCount}
use Rattle.feed_records.specs.Connections.{AreConnectionsOf, Recorded, is_chunked}
use Rattle.feed_audit.specs.States.{Start}
use Rattle.feed_audit.specs.Stops.{IsOfRecord}
use Rattle.feed_audit.specs.declared.verdict.AuditFault.{AuditFault}
use Rattle.feed_audit.specs.declared.verdict.AuditFault.TheVariants as fault
use Rattle.feed_audit.specs.declared.verdict.Comparison.{Comparison}
use Rattle.feed_audit.specs.declared.verdict.Comparison.TheVariants as comparison
use Rattle.feed_audit.specs.declared.verdict.Stray.{Stray}
use Rattle.feed_audit.specs.declared.verdict.Verdict.{Verdict}
use Rattle.feed_audit.specs.declared.verdict.Verdict.TheVariants as verdict

-- the most that is counted
abbrev pub most_counted : ℕ
most_counted = 18446744073709551615

-- how a connection begins: afresh, or as the one of a mirror that goes on
abbrev pub opening_of : MirrorState → Option (List ℕ) → Opening
opening_of mirror None = first_opening
opening_of mirror (Some token) = present_opening mirror

-- a mirror goes on with the token alone that it would ask with: that of the last state so far
abbrev pub MayGoOn : MirrorState → Option (List ℕ) → Type 0
MayGoOn mirror None = Unit {0}
MayGoOn mirror (Some token) = mirror.since ≡ Some token

module _ (limits : Limits) (primary : List ℕ) where
  abbrev pub start_of : MirrorState → Option (List ℕ) → Start
  start_of mirror since = record { limits = limits; opening = opening_of mirror since }

  -- nothing is wrong with what a feed carried, and each of its states, so many, is one of the
  -- primary's; and this is what is left of the mirror that read on
  pub record FeedAgrees (old : MirrorState) (at : Recorded) (states : ℕ)
      (new : MirrorState) : Type 0 where
    pub may : MayGoOn old at.since
    pub agrees : AgreementFrom (start_of old at.since) primary at.body states
    pub left : new ≡ mirror_after limits (opening_of old at.since) agrees.notes []

  -- the same of a connection; what is no feed has no states, and is not read
  abbrev pub AgreesBy : Bool → MirrorState → Recorded → ℕ → MirrorState → Type 0
  AgreesBy true old at states new = FeedAgrees old at states new
  AgreesBy false old at states new = (states ≡ 0) × (new ≡ old)

  abbrev pub AgreesAt : MirrorState → Recorded → ℕ → MirrorState → Type 0
  AgreesAt old at states new = AgreesBy at.is_feed old at states new

  -- the same of each of these connections, and together they have so many states
  abbrev pub AllAgree : MirrorState → List Recorded → ℕ → MirrorState → Type 0
  AllAgree old [] states new = (states ≡ 0) × (new ≡ old)
  AllAgree old (part ∷ parts) states new =
      (here : ℕ) × (later : ℕ) × (between : MirrorState) × AgreesAt old part here between
      × AllAgree between parts later new × (states ≡ here + later)

  -- the same of each connection of a record
  pub record RecordAgrees (screen : List ℕ) (states : ℕ) : Type 0 where
    pub parts : List Recorded
    pub cut : AreConnectionsOf screen parts
    pub all : ℕ
    pub mirror : MirrorState
    pub agree : AllAgree (new_mirror limits) parts all mirror
    pub counted : states ≡ min all most_counted

  -- the connections before this feed of the record agree, and this is the mirror then
  pub record Reaches (screen : List ℕ) (at : Recorded) (states : ℕ)
      (mirror : MirrorState) : Type 0 where
    pub earlier : List Recorded
    pub later : List Recorded
    pub cut : AreConnectionsOf screen (earlier ++ at ∷ later)
    pub agree : AllAgree (new_mirror limits) earlier states mirror
    pub is_feed : at.is_feed ≡ true

  -- A connection has this state, which is none of the primary's, and all those before it agree.
  pub record RecordStrays (screen : List ℕ) (stray : Stray) : Type 0 where
    pub at : Recorded
    pub states : ℕ
    pub mirror : MirrorState
    pub reaches : Reaches screen at states mirror
    pub may : MayGoOn mirror at.since
    pub its_own : Stray
    pub strays : StrayingFrom (start_of mirror at.since) primary at.body its_own
    pub token : stray.token ≡ its_own.token
    pub difference : stray.difference ≡ its_own.difference
    pub before : stray.before ≡ min (states + its_own.before) most_counted
    pub line : stray.line ≡ min (at.before + its_own.line) most_counted

  abbrev pub IsRecordVerdict : List ℕ → Verdict → Type 0
  IsRecordVerdict screen (verdict.Agrees states) = RecordAgrees screen states
  IsRecordVerdict screen (verdict.Strays stray) = RecordStrays screen stray

  -- a connection of the record is a feed, this is so of the mirror and of what it carried, and all
  -- connections before it agree
  pub record FailsAtPart (screen : List ℕ) (P : MirrorState → Recorded → Type 0) : Type 0 where
    pub at : Recorded
    pub states : ℕ
    pub mirror : MirrorState
    pub reaches : Reaches screen at states mirror
    pub fails : P mirror at

  -- the same of one of its lines, too
  pub record FailsInPart (screen : List ℕ) (line : ℕ)
      (P : MirrorState → Recorded → ℕ → Type 0) : Type 0 where
    pub at : Recorded
    pub states : ℕ
    pub mirror : MirrorState
    pub reaches : Reaches screen at states mirror
    pub its_own : ℕ
    pub fails : P mirror at its_own
    pub counted : line ≡ min (at.before + its_own) most_counted

  -- a line of it is the first that can't be read, and the states before it are the primary's
  pub record FaultsInFeed (why : FeedFault) (mirror : MirrorState) (at : Recorded)
      (line : ℕ) : Type 0 where
    pub may : MayGoOn mirror at.since
    pub faults : ScreenFaults (start_of mirror at.since) primary at.body line why

  -- a line of the primary's is the first that can't be read, and the lines before it lack a state
  -- of what the connection carried
  pub record FaultsBesideFeed (why : FeedFault) (line : ℕ) (mirror : MirrorState)
      (at : Recorded) : Type 0 where
    pub may : MayGoOn mirror at.since
    pub faults : PrimaryFaults (start_of mirror at.since) primary at.body line why

  -- what it carried begins with a chunk's size
  pub record BeginsInChunks (mirror : MirrorState) (at : Recorded) (line : ℕ) : Type 0 where
    pub chunked : is_chunked at.body ≡ true
    pub first : line ≡ 1

  -- it was asked for with another token than that of the last state so far
  pub record HasOtherToken (mirror : MirrorState) (at : Recorded) (line : ℕ) : Type 0 where
    pub other : ¬ (MayGoOn mirror at.since)
    pub first : line ≡ 1

  -- the first lines of the primary's record are good, or of a connection of the screen's, up to one
  -- with this fault; or that was carried in chunks, or can't go on; a want of memory says nothing
  abbrev pub FailsToAuditRecord : List ℕ → AuditFault → Type 0
  FailsToAuditRecord screen (fault.Primary line why) =
      FailsAtPart screen (FaultsBesideFeed why line)
  FailsToAuditRecord screen (fault.Screen line why) = FailsInPart screen line (FaultsInFeed why)
  FailsToAuditRecord screen (fault.Chunked line) = FailsInPart screen line BeginsInChunks
  FailsToAuditRecord screen (fault.OtherToken line) = FailsInPart screen line HasOtherToken
  FailsToAuditRecord screen (fault.PrimaryUnread why) = IsOfRecord why
  FailsToAuditRecord screen (fault.ScreenUnread why) = IsOfRecord why
  FailsToAuditRecord screen fault.Memory = Unit {0}

  -- the records agree, and the primary's has a line further on that can't be read
  abbrev pub FailsBehind : List ℕ → AuditFault → Type 0
  FailsBehind screen why =
      (states : ℕ) × RecordAgrees screen states × FailsToCount limits primary why

  -- a line of a record can't be read
  abbrev pub FailsToCompare : List ℕ → AuditFault → Type 0
  FailsToCompare screen why = FailsToAuditRecord screen why ⊎ FailsBehind screen why

  -- nothing is wrong with the records, each state of the screen's, one or more, is one of the
  -- primary's, and so many states both have
  pub record BothAgree (screen : List ℕ) (states all : ℕ) : Type 0 where
    pub some : 1 ≤ states
    pub agrees : RecordAgrees screen states
    pub has : HasStates limits primary all

  abbrev pub IsComparison : List ℕ → Comparison → Type 0
  IsComparison screen comparison.Unpublished = RecordAgrees screen 0
  IsComparison screen (comparison.Agrees states all) = BothAgree screen states all
  IsComparison screen (comparison.Strays stray) = RecordStrays screen stray
