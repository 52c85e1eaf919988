-- The audit of a record, connection by connection.
use Rattle.std.specs.Prelude.{◌≡◌, ℕ, ◌+◌, min, Bool, true, false, List, ◌++◌, Option, IfSome}
use Rattle.feed_settings.specs.Limits.{Limits}
use Rattle.feed_node.specs.Mirroring.{MirrorState, new_mirror}
use Rattle.feed_records.specs.Connections.{Cut, Recorded, part, AreConnectionsOf}
use Rattle.feed_records.specs.Parting.{most, since_of}
use Rattle.feed_records.specs.declared.connections.Opened.{Opened}
use Rattle.feed_audit.specs.Answers.{StrayingFrom}
use Rattle.feed_audit.specs.Records.{AllAgree, FeedAgrees, FaultsInFeed, FaultsBesideFeed, BeginsInChunks, HasOtherToken, MayGoOn, start_of}
use Rattle.feed_audit.specs.States.{IsStateOf}
use Rattle.feed_audit.specs.Stops.{IsOfRecord}
use Rattle.feed_audit.specs.declared.verdict.AuditFault.{AuditFault}
use Rattle.feed_audit.specs.declared.verdict.AuditFault.TheVariants as fault
use Rattle.feed_audit.specs.declared.verdict.Verdict.{Verdict}
use Rattle.feed_audit.specs.declared.verdict.Verdict.TheVariants as verdict

-- a connection that carries this, behind so many lines
abbrev pub recorded_of : ℕ → Opened → List ℕ → Recorded
recorded_of before opened body = part before opened.is_feed (since_of opened) body

-- what is answered of a feed, and what is left of the mirror
abbrev pub IsFeedVerdict : Limits → List ℕ → MirrorState → Recorded → Verdict → MirrorState → Type 0
IsFeedVerdict limits primary old at (verdict.Agrees states) new =
    FeedAgrees limits primary old at states new
IsFeedVerdict limits primary old at (verdict.Strays stray) new =
    MayGoOn old at.since × StrayingFrom (start_of limits primary old at.since) primary at.body stray

-- of a connection: where it is no feed, that it has no states
abbrev pub IsPartVerdict : Limits → List ℕ → Bool → MirrorState → Recorded → Verdict → MirrorState
    → Type 0
IsPartVerdict limits primary true old at answer new = IsFeedVerdict limits primary old at answer new
IsPartVerdict limits primary false old at answer new = (answer ≡ verdict.Agrees 0) × (new ≡ old)

abbrev pub FailsInBody : Limits → List ℕ → MirrorState → Recorded → AuditFault → Type 0
FailsInBody limits primary old at (fault.Primary line why) =
    FaultsBesideFeed limits primary why line old at
FailsInBody limits primary old at (fault.Screen line why) =
    FaultsInFeed limits primary why old at line
FailsInBody limits primary old at (fault.Chunked line) = BeginsInChunks limits primary old at line
FailsInBody limits primary old at (fault.OtherToken line) = HasOtherToken limits primary old at line
FailsInBody limits primary old at (fault.PrimaryUnread why) = IsOfRecord why
FailsInBody limits primary old at (fault.ScreenUnread why) = IsOfRecord why
FailsInBody limits primary old at fault.Memory = Unit {0}

-- the connections before this text agree, and this is the mirror then
pub record Reached (limits : Limits) (primary screen text : List ℕ) (before states : ℕ)
    (is_feed : Bool)
    (since : Option (List ℕ)) (mirror : MirrorState) : Type 0 where
  pub parts : List Recorded
  pub at : ℕ
  pub before_is : before ≡ min at most
  pub all : ℕ
  pub agree : AllAgree limits primary (new_mirror limits) parts all mirror
  pub limits_are : mirror.limits ≡ limits
  pub shown : IfSome mirror.node.published (IsStateOf limits primary)
  pub counted : states ≡ min all most
  pub cut : (later : List Recorded) → Cut at is_feed since text later
      → AreConnectionsOf screen (parts ++ later)

-- a fault of a connection, by its line in the record
abbrev pub faults_behind : AuditFault → ℕ → AuditFault
faults_behind (fault.Primary line why) before = fault.Primary line why
faults_behind (fault.Screen line why) before = fault.Screen (min (before + line) most) why
faults_behind (fault.Chunked line) before = fault.Chunked (min (before + line) most)
faults_behind (fault.OtherToken line) before = fault.OtherToken (min (before + line) most)
faults_behind (fault.PrimaryUnread why) before = fault.PrimaryUnread why
faults_behind (fault.ScreenUnread why) before = fault.ScreenUnread why
faults_behind fault.Memory before = fault.Memory
