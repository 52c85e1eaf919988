-- What the command `serve` starts from, and what it commits.
use Rattle.std.specs.Prelude.{◌≡◌, ◌⊎◌, ◌<◌, ℕ, max, true, false, List, [], ◌∷◌, ◌++◌, length, Option, Some, None, unwrap_or, Result}
use Rattle.feed_settings.specs.Limits.{Limits}
use Rattle.feed_note.specs.Batches.{batch_changes}
use Rattle.feed_note.specs.Counts.{AreRead}
use Rattle.feed_note.specs.declared.line.Line.{Line}
use Rattle.feed_changes.specs.declared.change.Change.{Change}
use Rattle.feed_node.specs.Log.{new_primary, RefusesBatch}
use Rattle.feed_node.specs.declared.primary.CommitFault.{CommitFault}
use Rattle.feed_node.specs.declared.primary.CommitFault.TheVariants as commit
use Rattle.feed_http.specs.Device.{HasFailed}
use Rattle.feed_http.specs.Live.{Accepts, Intake}
use Rattle.feed_http.specs.declared.fault.Served.{Served}
use Rattle.feed_http.specs.declared.service.Service.{Service}
use Rattle.feed_http.specs.declared.fault.EngineFault.TheVariants as engine
use Rattle.feed_relay.specs.Dialing.{Links}
use Rattle.feed_relay.specs.Serving.{ServesLiveNext, most_reads}
use Rattle.feed_relay.specs.declared.fault.NetworkFault.{NetworkFault}
use Rattle.feed_relay.specs.declared.fault.NetworkFault.TheVariants as network
use Rattle.feed_arguments.specs.declared.request.ServeOptions.{ServeOptions}
use Rattle.feed_commands.specs.Check.{IsWhole, InputStops, InputFails}
use Rattle.feed_commands.specs.Fault.{goes_on}
use Rattle.feed_commands.specs.InTurn.{InTurn}
use Rattle.feed_commands.specs.Reporting.{FailsAs}
use Rattle.feed_commands.specs.declared.fault.Fault.{Fault}
use Rattle.feed_commands.specs.declared.fault.Fault.TheVariants as fault

-- a new primary, for which these batches wait
abbrev pub new_source : Limits → List (List Change) → Intake
new_source limits all = record { primary = new_primary limits; batches = all }

-- all batches are accepted at once; or, where they are taken in turns, they all wait
abbrev pub TakesAtStart : Option ℕ → Limits → List (List Change) → Intake → Type 0
TakesAtStart None limits all source =
    Accepts (new_primary limits) all source.primary × (source.batches ≡ [])
TakesAtStart (Some turn) limits all source = source ≡ new_source limits all

-- the whole input was read, and its batches are taken
pub record StartsServing (turn : Option ℕ) (limits : Limits) (old new : Option (List ℕ))
    (source : Intake)
    : Type 0 where
  pub bytes : List ℕ
  pub notes : List Line
  pub whole : IsWhole old new bytes
  pub read : AreRead bytes notes
  pub takes : TakesAtStart turn limits (batch_changes notes) source

-- ---- while it serves

-- The batches that were taken, in order, each once, are what the primary committed. Those behind
-- them are left.
pub record TakesBatches (start now : Intake) : Type 0 where
  pub taken : List (List Change)
  pub accepted : Accepts start.primary taken now.primary
  pub batches : start.batches ≡ taken ++ now.batches

-- that, and the next batch was taken too, but was refused
pub record TakesAndDrops (start : Intake) (why : CommitFault) (now : Intake) : Type 0 where
  pub taken : List (List Change)
  pub batch : List Change
  pub accepted : Accepts start.primary taken now.primary
  pub batches : start.batches ≡ taken ++ batch ∷ now.batches
  pub refused : RefusesBatch now.primary batch why

-- what was taken where serving ended with this fault
abbrev pub EndsTaking : Fault → Intake → Intake → Type 0
EndsTaking fault.Memory start now = TakesBatches start now ⊎ TakesAndDrops start commit.Memory now
EndsTaking fault.Write start now = TakesBatches start now
EndsTaking (fault.Network network.Accept) start now = TakesBatches start now
EndsTaking (fault.Network (network.Engine (engine.Commit why))) start now =
    TakesAndDrops start why now
EndsTaking why start now = ⊥

-- ---- what it does on connections

-- how many batches are taken each time that a session is up to date
abbrev pub turn_of : Option ℕ → ℕ
turn_of turn = max (unwrap_or turn 1) 1

-- how each connection is served
abbrev pub serve_service : ServeOptions → Service
serve_service options =
    record {
      contest = options.contest;
      framing = options.framing;
      back = options.back;
      most_reads = most_reads;
    }

-- a primary with its batches, and what followers connect to
pub record ServingPrimary (A : Type 0) : Type 0 where
  pub intake : Intake
  pub listener : A

abbrev pub serving : {A : Type 0} → Intake → A → ServingPrimary A
serving intake listener = record { intake = intake; listener = listener }

module _ {A R W : Type 0} (links : Links A R W) (turn : ℕ) (service : Service) where
  -- one connection was accepted and served
  abbrev pub ServesOne : ServingPrimary A → Result Served NetworkFault → ServingPrimary A → Type 0
  ServesOne start served end =
      ServesLiveNext links turn service start.intake start.listener served end.intake end.listener

  -- and others can be served after it
  abbrev pub ServesOn : ServingPrimary A → Result Served NetworkFault → ServingPrimary A → Type 0
  ServesOn start served end = ServesOne start served end × (goes_on served ≡ true)

  -- it was the last, for this fault
  abbrev pub EndsServing : ServingPrimary A → Fault → ServingPrimary A → Type 0
  EndsServing start why end =
      (served : Result Served NetworkFault) × ServesOne start served end
      × (goes_on served ≡ false) × FailsAs served why

  -- so many connections were served, one after another
  abbrev pub ServesAll : ℕ → ServingPrimary A → ServingPrimary A → Type 0
  ServesAll count start end =
      (all : List (Result Served NetworkFault)) × (length all ≡ count)
      × InTurn ServesOn start all end

  -- fewer connections were served, and then the last one
  pub record StopsServing (count : ℕ) (start : ServingPrimary A) (why : Fault)
      (end : ServingPrimary A) : Type 0 where
    pub served : ℕ
    pub fewer : served < count
    pub middle : ServingPrimary A
    pub before : ServesAll served start middle
    pub last : EndsServing middle why end

  -- where the command fails: all connections were served, but a fault was not reported; or it
  -- stopped
  abbrev pub ServingFails : ℕ → Fault → ServingPrimary A → ServingPrimary A → ℕ → ℕ → Type 0
  ServingFails count why start end unreported_old unreported_new =
      ((why ≡ fault.Write) × ServesAll count start end × HasFailed unreported_old unreported_new)
      ⊎ StopsServing count start why end

-- ---- where it can't start

-- the whole input was read, its batches are committed at once, and one of them is refused
pub record RefusedAtStart (turn : Option ℕ) (limits : Limits) (old new : Option (List ℕ))
    (why : CommitFault) : Type 0 where
  pub bytes : List ℕ
  pub notes : List Line
  pub now : Intake
  pub at_once : turn ≡ None
  pub whole : IsWhole old new bytes
  pub read : AreRead bytes notes
  pub refuses : TakesAndDrops (new_source limits (batch_changes notes)) why now

-- why there is no primary to serve
abbrev pub StartFails : Option ℕ → Limits → Fault → Option (List ℕ) → Option (List ℕ) → Type 0
StartFails turn limits (fault.Batches why) old new = InputStops old new why
StartFails turn limits (fault.Commit why) old new = RefusedAtStart turn limits old new why
StartFails turn limits why old new = InputFails why old new
