-- Why a command fails, for the fault of what it calls, and the statuses that the program ends with.
use Rattle.std.specs.Prelude.{◌≡◌, ◌⊎◌, ◌+◌, ◌≤◌, ℕ, Bool, true, false, List, length, Option, None, Some, Result, Ok, Err, if◌then◌else◌}
use Rattle.feed_records.specs.declared.reading.Unread.TheVariants as unread
use Rattle.feed_audit.specs.declared.verdict.AuditFault.{AuditFault}
use Rattle.feed_audit.specs.declared.verdict.AuditFault.TheVariants as audit
use Rattle.feed_settings.specs.declared.place.PlaceFault.{PlaceFault}
use Rattle.feed_settings.specs.declared.place.PlaceFault.TheVariants as place
use Rattle.feed_http.specs.declared.fault.EngineFault.{EngineFault}
use Rattle.feed_http.specs.declared.fault.Served.{Served}
use Rattle.feed_http.specs.declared.fault.EngineFault.TheVariants as engine
use Rattle.feed_node.specs.declared.primary.CommitFault.{CommitFault}
use Rattle.feed_node.specs.declared.primary.CommitFault.TheVariants as commit
use Rattle.feed_node.specs.declared.fault.FeedFault.{FeedFault}
use Rattle.feed_node.specs.declared.fault.FeedFault.TheVariants as feed
use Rattle.feed_note.specs.declared.counts.SurveyFault.{SurveyFault}
use Rattle.feed_note.specs.declared.stop.LineStop.{LineStop}
use Rattle.feed_note.specs.declared.stop.LineStop.TheVariants as stop
use Rattle.feed_play.specs.Fault.{is_play_memory}
use Rattle.feed_relay.specs.Fault.{is_network_memory}
use Rattle.feed_relay.specs.declared.fault.NetworkFault.{NetworkFault}
use Rattle.feed_relay.specs.declared.fault.NetworkFault.TheVariants as network
use Rattle.feed_arguments.specs.declared.address.AddressFault.{AddressFault}
use Rattle.feed_arguments.specs.declared.address.AddressFault.TheVariants as address
use Rattle.feed_commands.specs.declared.placing.Spot.{Spot}
use Rattle.feed_commands.specs.declared.fault.SurveyStop.{SurveyStop}
use Rattle.feed_commands.specs.declared.fault.Fault.{Fault}
use Rattle.feed_commands.specs.declared.fault.Fault.TheVariants as fault

-- at this line, where it is to be reported
abbrev pub fault_of_feed : FeedFault → Option ℕ → Fault
fault_of_feed feed.Memory line = fault.Memory
fault_of_feed why line = fault.Feed (record { fault = why; line = line })

abbrev pub fault_at : LineStop → SurveyFault → Fault
fault_at stop.Memory why = fault.Memory
fault_at other why = fault.Survey (record { fault = why; spot = None })

abbrev pub fault_of_survey : SurveyFault → Fault
fault_of_survey why = fault_at why.stop why

-- the same of an input whose batches are to be served
abbrev pub fault_behind : LineStop → SurveyFault → Fault
fault_behind stop.Memory why = fault.Memory
fault_behind other why = fault.Batches why

abbrev pub fault_of_batches : SurveyFault → Fault
fault_of_batches why = fault_behind why.stop why

abbrev pub fault_of_audit : AuditFault → Fault
fault_of_audit audit.Memory = fault.Memory
fault_of_audit why = fault.Audit why

abbrev pub fault_of_place : PlaceFault → Fault
fault_of_place place.Memory = fault.Memory
fault_of_place why = fault.Place why

abbrev pub fault_of_addresses : AddressFault → Fault
fault_of_addresses address.Memory = fault.Memory
fault_of_addresses why = fault.Address why

abbrev pub fault_of_commit : CommitFault → Fault
fault_of_commit commit.Memory = fault.Memory
fault_of_commit why = fault.Commit why

abbrev pub fault_of_network : NetworkFault → Fault
fault_of_network why =
    if is_network_memory why then fault.Memory else fault.Network why

-- a refused batch and a faulty response are faults of what came in, all else is a device's
abbrev pub status_of_engine : EngineFault → ℕ
status_of_engine (engine.Commit why) = 2
status_of_engine (engine.Follow why) = 2
status_of_engine why = 4

abbrev pub status_of_network : NetworkFault → ℕ
status_of_network (network.Engine why) = status_of_engine why
status_of_network why = 4

-- only a refused batch is more than one connection's fault
abbrev pub is_engine_connections : EngineFault → Bool
is_engine_connections (engine.Commit why) = false
is_engine_connections why = true

-- a fault of one connection, after which others can be made
abbrev pub is_one_connections : Fault → Bool
is_one_connections (fault.Network network.Connect) = true
is_one_connections (fault.Network (network.Engine why)) = is_engine_connections why
is_one_connections why = false

-- another connection can be served after one that came to this
abbrev pub goes_on : Result Served NetworkFault → Bool
goes_on (Ok served) = true
goes_on (Err why) = is_one_connections (fault_of_network why)

-- a record that can't be read is a device's fault, but for one that is too long
abbrev pub status_of_audit : AuditFault → ℕ
status_of_audit (audit.PrimaryUnread unread.Failed) = 4
status_of_audit (audit.ScreenUnread unread.Failed) = 4
status_of_audit why = 2

-- 5 for want of memory, 4 for a device's fault, 2 for a faulty input or response and for records
-- that differ, 3 where nothing is published, no state has the token or a record ends too soon, 1 for
-- servers that can't be named so
abbrev pub status_of : Fault → ℕ
status_of fault.Memory = 5
status_of fault.Read = 4
status_of fault.Write = 4
status_of fault.TooManyReads = 4
status_of fault.TooLong = 2
status_of (fault.Feed why) = 2
status_of (fault.Survey why) = 2
status_of (fault.Batches why) = 2
status_of (fault.Play why) = if is_play_memory why.cause then 5 else 2
status_of (fault.Audit why) = status_of_audit why
status_of fault.Differs = 2
status_of fault.Ended = 3
status_of fault.Unpublished = 3
status_of fault.NoToken = 3
status_of (fault.Place why) = 1
status_of (fault.Address why) = 1
status_of (fault.Commit why) = 2
status_of (fault.Network why) = status_of_network why

-- the place is a byte of the line, counted from 1, or the one behind its last
abbrev pub StandsInLine : List ℕ → Option Spot → Type 0
StandsInLine line None = Unit {0}
StandsInLine line (Some spot) = (1 ≤ spot.byte) × (spot.byte ≤ length line + 1)

-- the same fault; or that of a line, which says where in the line it is, or doesn't
abbrev pub SaysMore : List ℕ → Fault → Fault → Type 0
SaysMore line why reported =
    (reported ≡ why)
    ⊎ ((stop : SurveyStop) × (spot : Option Spot) × (why ≡ fault.Survey stop)
    × (reported ≡ fault.Survey (record { fault = stop.fault; spot = spot }))
    × StandsInLine line spot)
