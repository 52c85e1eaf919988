-- A run of a relay: what it begins with, and turn after turn, to its end.
use Rattle.std.specs.Prelude.{◌≡◌, ◌≢◌, ◌⊎◌, ◌↔◌, ℕ, suc, ◌+◌, ◌-◌, ◌^◌, ◌<◌, ◌≤◌, min, Bool, true, false, List, [], ◌∷◌, ◌++◌, length, map, Option, Some, None, option_map, is_none, ◌&&◌, IfSome, IsSome, Contains, Result, OnOk, IsErr}
use Rattle.std.specs.List.{AllByRecursion}
use Rattle.slab.specs.Slab.{slab_len}
use Rattle.feed_settings.specs.Limits.{Limits}
use Rattle.feed_node.specs.declared.fault.FeedFault.{FeedFault}
use Rattle.feed_node.specs.Mirroring.{MirrorState, new_mirror}
use Rattle.feed_node.specs.States.{NodeState}
use Rattle.feed_world.specs.Log.{Log, IsLog}
use Rattle.feed_laws.specs.Laws.{AreInLog}
use Rattle.feed_device.specs.Calls.{CalledOnce}
use Rattle.feed_device.specs.Files.{StateFiles, IsKnown}
use Rattle.feed_device.specs.Links.{Exchanges}
use Rattle.feed_device.specs.Sockets.{AllSockets, IsUnused}
use Rattle.feed_live.specs.declared.options.Setup.{Setup}
use Rattle.feed_live.specs.declared.running.RunFault.{RunFault}
use Rattle.feed_live.specs.declared.running.RunFault.TheVariants.{Memory, Host}
use Rattle.feed_live.specs.declared.turn.Input.{Input}
use Rattle.feed_live.specs.declared.turn.Input.TheVariants.{Nothing, Bytes, End}
use Rattle.feed_live.specs.declared.turn.Live.{Live}
use Rattle.feed_live.specs.declared.turn.Turn.{Turn}
use Rattle.feed_live.specs.Due.{IsDueInTime}
use Rattle.feed_live.specs.Ending.{EndsWithInput}
use Rattle.feed_live.specs.Laws.{ShowsTheLog}
use Rattle.feed_live.specs.Relaying.{IsRelaying, MayFollow, pursuit_of, RestsAway, SameWaiting, StillRelaying}
use Rattle.feed_live.specs.Leaving.{IsToStay}
use Rattle.feed_live.specs.declared.source.Reach.TheVariants.{Away}
use Rattle.feed_files.specs.Saved.{ArePartsOfRecords, KeepsFiles}
use Rattle.feed_live.specs.States.{states_of}
use Rattle.feed_live.specs.Taking.{IsTakingInput, StillTaking, StopsTaking, bytes_in}
use Rattle.feed_live.specs.Times.{AreBy, HeedsTime, KeepsTimes, times_of}
use Rattle.feed_files.specs.Input.{TakesInput, StopsInput}
use Rattle.feed_live.specs.Upstream.{Servers, AreKnownHonest}
use Rattle.feed_files.specs.Input.{IsHonestInput}

-- ---- what stands around a relay

-- what an input gave: its bytes, and whether it has ended
pub record InputSoFar : Type 0 where
  pub bytes : List ℕ
  pub has_ended : Bool

abbrev pub nothing_came : InputSoFar
nothing_came = record { bytes = []; has_ended = false }

abbrev pub has_ended_by : Input → Bool → Bool
has_ended_by Nothing ended = ended
has_ended_by (Bytes piece) ended = ended
has_ended_by End ended = true

-- this came behind that
abbrev pub came_on : Input → InputSoFar → InputSoFar
came_on given came = record {
  bytes = came.bytes ++ bytes_in given;
  has_ended = has_ended_by given came.has_ended;
}

abbrev pub came_more : Input → Option InputSoFar → Option InputSoFar
came_more given = option_map (came_on given)

-- How a host was called, where that is counted: for what it was to wait, the latest first, and how
-- often it was to report what a turn did.
pub record HostCalls : Type 0 where
  pub waits : Option (List Turn)
  pub reports : Option ℕ

abbrev pub nothing_counted : HostCalls
nothing_counted = record { waits = None; reports = None }

abbrev pub waited_for : Turn → HostCalls → HostCalls
waited_for turn calls =
    record { waits = option_map (λ waits. turn ∷ waits) calls.waits; reports = calls.reports }

abbrev pub reported_once : HostCalls → HostCalls
reported_once calls =
    record { waits = calls.waits; reports = option_map (λ reports. suc reports) calls.reports }

-- What went over the connections to servers, and to screens; what the state files have, and ever
-- had; and what the input gave. Each as far as it is known.
pub record Surroundings : Type 0 where
  pub exchanges : Exchanges
  pub sockets : AllSockets
  pub files : StateFiles
  pub input : Option InputSoFar

abbrev pub surroundings : Exchanges → AllSockets → StateFiles → Option InputSoFar → Surroundings
surroundings exchanges sockets files input = record {
  exchanges = exchanges;
  sockets = sockets;
  files = files;
  input = input;
}

-- ---- a moment

-- A relay at a moment: its state, what it waits for next, the time where that is known, and what
-- stands around it.
pub record Moment : Type 0 where
  pub live : Live
  pub next : Turn
  pub time : Option ℕ
  pub around : Surroundings

abbrev pub moment_of : Live → Turn → Option ℕ → Surroundings → Moment
moment_of live next time around =
    record { live = live; next = next; time = time; around = around }

-- the first turn is due at once
abbrev pub at_once : Turn
at_once = record { due = 0; takes_input = true; is_over = false }

-- what it shows
abbrev pub mirror_at_moment : Moment → MirrorState
mirror_at_moment moment = moment.live.source.answers.shown.mirror

abbrev pub node_at_moment : Moment → NodeState
node_at_moment moment = (mirror_at_moment moment).node

-- what its state files have is of these nodes
abbrev pub KeepsFilesAt : List NodeState → Moment → Type 0
KeepsFilesAt nodes moment = KeepsFiles nodes moment.around.files moment.live.saved

-- A relay that ends with its input is over: its time has come; or nobody is connected, and the
-- state file has all that was published, as far as it can be written.
pub record IsRelayOver (live : Live) (now : ℕ) : Type 0 where
  pub at : ℕ
  pub ends : live.ends_at ≡ Some at
  pub over : (at ≤ now) ⊎ ((slab_len live.screens.conns ≡ 0)
      × IfSome live.saved (λ saved. saved.has_more ≡ false))

-- ---- a turn

-- A turn led from one moment to the next, with what the host gave for it: each part is a clause of
-- `Live::turn`.
pub record IsTurn (old new : Moment) : Type 0 where
  pub given : Input
  pub now : ℕ
  pub came : new.around.input ≡ came_more given old.around.input
  pub time : IfSome new.time (λ time. now ≡ time)
  pub relaying : StillRelaying old.live new.live old.around.exchanges new.around.exchanges
      old.around.sockets new.around.sockets
  pub taking : StillTaking old.live new.live (bytes_in given) old.around.sockets new.around.sockets
  pub stops : given ≢ End → StopsTaking old.live new.live (bytes_in given) old.around.sockets
  pub kept : (nodes : List NodeState) → Contains nodes (node_at_moment new) → KeepsFilesAt nodes old
      → KeepsFilesAt nodes new
  pub parts : (nodes : List NodeState) → Contains nodes (node_at_moment new)
      → KeepsFilesAt nodes old → ArePartsOfRecords nodes old.around.files.had
      → ArePartsOfRecords nodes new.around.files.had
  pub anew : new.live.source.epoch ≢ old.live.epoch → (nodes : List NodeState)
      → Contains nodes (node_at_moment new) → IsKnown old.around.files.next → KeepsFilesAt nodes new
  pub wakes : new.live.screens.has_more ≡ true → new.next.due ≤ now
  pub says : IfSome new.live.screens.saying.waits (λ at. now ≤ at → new.next.due ≤ at)
  pub awake : new.next.due ≤ min (new.live.reported + 60000) (2 ^ 64 - 1)
  pub due : IsDueInTime new.live now new.next.due
  pub keeps : old.live.feeds ≡ false → KeepsTimes old.live.source new.live.source now now
  pub rests : old.live.feeds ≡ false
      → RestsAway old.live.source → RestsAway new.live.source
  pub holds : old.live.feeds ≡ false → new.live.ends_at ≡ None
      → old.live.source.places.items ≢ [] → old.live.source.reach ≢ Away
      → IsToStay old.live.source old.live.limits.screens.idle now
      → HeedsTime old.live.source new.live.source now now
  pub pauses : old.live.feeds ≡ false → old.live.source.reach ≡ Away
      → old.live.source.has_more ≡ false → now < old.live.source.upstream.since
      → SameWaiting old.live.source new.live.source
  pub ends : EndsWithInput old.live new.live given
  pub takes : new.next.takes_input
      ≡ (is_none new.live.ends_at && is_none new.live.screens.saying.waits)
  pub over : (new.next.is_over ≡ true) ↔ IsRelayOver new.live now

-- all but what is reported of a relay stays
pub record IsSameRelay (old new : Live) : Type 0 where
  pub source : new.source ≡ old.source
  pub screens : new.screens ≡ old.screens
  pub saved : new.saved ≡ old.saved
  pub epoch : new.epoch ≡ old.epoch
  pub feeds : new.feeds ≡ old.feeds
  pub limits : new.limits ≡ old.limits
  pub ends_at : new.ends_at ≡ old.ends_at
  pub reported : new.reported ≡ old.reported

-- ---- turn after turn

-- Turn after turn led from the first moment to the last, by these before the last, the latest one
-- first.
abbrev pub IsRun : Moment → List Moment → Moment → Type 0
IsRun first [] last = last ≡ first
IsRun first (before ∷ earlier) last = IsTurn before last × IsRun first earlier before

-- what the relay waited for at each of these moments
abbrev pub waited_at : List Moment → List Turn
waited_at moments = map (λ (moment : Moment). moment.next) moments

-- the host was to wait for just that, and it was to report each turn
abbrev pub calls_in : List Moment → HostCalls → HostCalls
calls_in earlier calls = record {
  waits = option_map (λ waits. waited_at earlier ++ waits) calls.waits;
  reports = option_map (λ reports. length earlier + reports) calls.reports;
}

-- so many turns led from the first moment to the last
pub record HasRun (first last : Moment) (before after : HostCalls) (count : ℕ) : Type 0 where
  pub earlier : List Moment
  pub run : IsRun first earlier last
  pub turns : length earlier ≡ count
  pub calls : after ≡ calls_in earlier before

-- So it is to the end: turns that don't fail end with one that said it was the last, or as many
-- were had as can be counted.
pub record Ran {A E : Type 0} (first last : Moment) (before after : HostCalls)
    (result : Result A E) : Type 0 where
  pub count : ℕ
  pub run : HasRun first last before after count
  pub ends : OnOk result ((last.next.is_over ≡ true) ⊎ (count ≡ 2 ^ 64 - 1))

-- ---- the start

-- the servers that it asks
abbrev pub servers_of_setup : Setup → Servers
servers_of_setup setup = record { places = setup.places.items; identity = setup.identity }

-- no connection of a screen was there yet
abbrev pub AreUnused : AllSockets → Type 0
AreUnused sockets = (at : ℕ) → IsUnused (sockets at)

-- all that the state files ever had is some of what records of these nodes of the log wrote
pub record AreFilesOfLog (limits : Limits) (log : Log) (nodes : List NodeState)
    (files : StateFiles) : Type 0 where
  pub is_log : IsLog limits log
  pub in_log : AreInLog log nodes
  pub parts : ArePartsOfRecords nodes files.had

-- where a relay has state files, they are such
abbrev pub BeginsInLog : Setup → Log → StateFiles → Type 0
BeginsInLog setup log files = setup.limits.has_store ≡ true
    → (nodes : List NodeState) × AreFilesOfLog setup.kept log nodes files

-- such files, of which is known what they have, and whose nodes are all that the relay may show
pub record AreAllFilesOfLog (limits : Limits) (log : Log) (nodes : List NodeState)
    (files : StateFiles) : Type 0 where
  pub of_log : AreFilesOfLog limits log nodes files
  pub may_show : (node : NodeState) → Contains (states_of limits log) node → Contains nodes node
  pub written : IsKnown files.written
  pub next : IsKnown files.next

-- A relay of this setup begins so, where its state files were so before.
pub record BeginsAsSetUp (setup : Setup) (old new : StateFiles) (live : Live) : Type 0 where
  pub contest : live.contest ≡ setup.contest
  pub relaying : (log : Log) (exchanges : Exchanges) (sockets : AllSockets)
      → setup.places.items ≢ [] → BeginsInLog setup log old → AreUnused sockets
      → IsRelaying setup.kept log (servers_of_setup setup) exchanges live sockets
  pub taking : (log : Log) (sockets : AllSockets) → setup.places.items ≡ [] → AreUnused sockets
      → IsTakingInput setup.kept log (new_mirror setup.kept) [] live sockets
  pub feeds : setup.places.items ≡ [] → live.feeds ≡ true
  pub limits : live.limits ≡ setup.limits
  pub goes_on : live.ends_at ≡ None
  pub times : (latest : ℕ) → AreBy latest (times_of live.source)
  pub rests : RestsAway live.source
  pub kept : (log : Log) (nodes : List NodeState) → AreAllFilesOfLog setup.kept log nodes old
      → KeepsFiles nodes new live.saved
  pub had : new.had ≡ old.had

-- ---- the promise

-- what it shows, and all that was ever written to a connection of a screen, is of the log
abbrev pub ShowsTheLogAt : Limits → Log → Moment → Type 0
ShowsTheLogAt limits log moment = ShowsTheLog limits log moment.live moment.around.sockets

-- where these servers were honest up to this moment, it shows the log then
abbrev pub ShowsIfHonestAt : Limits → Log → Servers → Moment → Type 0
ShowsIfHonestAt limits log servers moment =
    AreKnownHonest limits log servers moment.around.exchanges → ShowsTheLogAt limits log moment

-- Whether these servers are honest or not: what was read on the latest connection is followed, each
-- byte once, in order, but for what is still unread; or there is none.
abbrev pub FollowsInOrderAt : Limits → Log → Servers → Moment → Type 0
FollowsInOrderAt limits log servers moment =
    IsSome moment.around.exchanges
    → MayFollow limits log servers moment.around.exchanges
    (pursuit_of moment.live.source moment.live.source.rest.items)

-- what the input gave is known, and honest to the mirror that the relay began with
abbrev pub IsKnownHonestInput : Limits → Log → MirrorState → Option InputSoFar → Type 0
IsKnownHonestInput limits log begun None = ⊥
IsKnownHonestInput limits log begun (Some came) = IsHonestInput limits log begun came.bytes

-- where its input was honest up to this moment, it shows the log then
abbrev pub ShowsIfInputIsHonestAt : Limits → Log → MirrorState → Moment → Type 0
ShowsIfInputIsHonestAt limits log begun moment =
    IsKnownHonestInput limits log begun moment.around.input → ShowsTheLogAt limits log moment

-- the relay takes all that its input gave: each byte was followed once, in order, or is kept
pub record TakesAllAt (begun : MirrorState) (moment : Moment) : Type 0 where
  pub came : InputSoFar
  pub known : moment.around.input ≡ Some came
  pub feeds : moment.live.feeds ≡ true
  pub takes : TakesInput begun came.bytes moment.live.source.rest.items (mirror_at_moment moment)

-- its input has ended
pub record HasEndedAt (moment : Moment) : Type 0 where
  pub came : InputSoFar
  pub known : moment.around.input ≡ Some came
  pub ended : came.has_ended ≡ true

-- it stopped in its input: at the first fault of that, or memory ran out
pub record HasStoppedAt (begun : MirrorState) (moment : Moment) : Type 0 where
  pub came : InputSoFar
  pub known : moment.around.input ≡ Some came
  pub fault : FeedFault
  pub stops : StopsInput begun came.bytes fault (mirror_at_moment moment)

-- at one of these moments its input has ended, or it stops there
abbrev pub EndsOrStops : MirrorState → List Moment → Type 0
EndsOrStops begun moments =
    (moment : Moment) × Contains moments moment × (HasEndedAt moment ⊎ HasStoppedAt begun moment)

-- at each of these moments, of which each comes before those behind it in the run, the relay takes
-- all that its input gave, until that ends, or it stops
abbrev pub TakesItsInput : MirrorState → List Moment → Type 0
TakesItsInput begun [] = Unit {0}
TakesItsInput begun (latest ∷ earlier) =
    (TakesAllAt begun latest ⊎ EndsOrStops begun (latest ∷ earlier)) × TakesItsInput begun earlier

-- at each of these moments, of which each comes before those behind it in the run: where the relay
-- showed the log up to that one, all that its state files ever had until then is some of what
-- records of these nodes wrote
abbrev pub KeepsPartsWhileShown : Limits → Log → List NodeState → List Moment → Type 0
KeepsPartsWhileShown limits log nodes [] = Unit {0}
KeepsPartsWhileShown limits log nodes (latest ∷ earlier) =
    (AllByRecursion (ShowsTheLogAt limits log) (latest ∷ earlier)
    → ArePartsOfRecords nodes latest.around.files.had)
    × KeepsPartsWhileShown limits log nodes earlier

-- It is set to what was asked for. It has an end only where it is to end with its input, and that
-- has ended, as far as it is known what the input gave.
pub record EndsWithItsInput (setup : Setup) (moment : Moment) : Type 0 where
  pub limits : moment.live.limits ≡ setup.limits
  pub ends : moment.live.ends_at ≢ None → (setup.limits.ends_with_input ≡ true)
      × IfSome moment.around.input (λ came. came.has_ended ≡ true)

-- THE PROMISE of a whole run, from the files that it finds to its end, at each of its moments, by
-- what came until then. It shows only states of the log, and all that was ever written to a
-- connection of a screen is faithful: where it follows servers, and these were honest so far; or
-- where its feed is its input, and that was honest so far. What comes later takes nothing of that
-- back. Whether they were honest or not, what came is followed byte by byte. And as long as the
-- relay shows the log, where all that the state files ever had was written by records of nodes of
-- the log, that stays so. It ends with its input, or not at all.
pub record KeepsToTheLog (setup : Setup) (found : Surroundings) (moments : List Moment)
    : Type 0 where
  pub servers : (log : Log) → setup.places.items ≢ [] → BeginsInLog setup log found.files
      → AreUnused found.sockets
      → AllByRecursion (ShowsIfHonestAt setup.kept log (servers_of_setup setup)) moments
  pub followed : (log : Log) → setup.places.items ≢ [] → BeginsInLog setup log found.files
      → AreUnused found.sockets
      → AllByRecursion (FollowsInOrderAt setup.kept log (servers_of_setup setup)) moments
  pub input : (log : Log) → setup.places.items ≡ [] → AreUnused found.sockets
      → found.input ≡ Some nothing_came
      → AllByRecursion (ShowsIfInputIsHonestAt setup.kept log (new_mirror setup.kept)) moments
  pub taken : setup.places.items ≡ [] → AreUnused found.sockets
      → found.input ≡ Some nothing_came → TakesItsInput (new_mirror setup.kept) moments
  pub files : (log : Log) (nodes : List NodeState)
      → AreAllFilesOfLog setup.kept log nodes found.files
      → KeepsPartsWhileShown setup.kept log nodes moments
  pub ends : AllByRecursion (EndsWithItsInput setup) moments

-- Turn after turn led from the start to what was left. The relay is of its contest, and begins as it
-- is set up; its first turn is due at once, and until then nothing around it is touched but the
-- state files. It keeps to the log from the first moment to the last.
pub record RunsFrom {A E : Type 0} (setup : Setup) (found left : Surroundings)
    (before after : HostCalls) (result : Result A E) : Type 0 where
  pub first : Moment
  pub contest : first.live.contest ≡ setup.contest
  pub begins : BeginsAsSetUp setup found.files first.around.files first.live
  pub exchanges : first.around.exchanges ≡ found.exchanges
  pub sockets : first.around.sockets ≡ found.sockets
  pub input : first.around.input ≡ found.input
  pub first_is : first.next ≡ at_once
  pub last : Moment
  pub last_is : last.around ≡ left
  pub ran : Ran first last before after result
  pub keeps : KeepsToTheLog setup found (last ∷ ran.run.earlier)

-- memory ran out before the start, or the host failed there: nothing was touched
pub record IsNotBegun {A E : Type 0} (found left : Surroundings) (before after : HostCalls)
    (result : Result A E) : Type 0 where
  pub failed : IsErr result
  pub same : left ≡ found
  pub calls : after ≡ before

-- whether the host failed, which counts that, or memory ran out
abbrev pub CountsHostFault : {E : Type 0} → RunFault E → Option ℕ → Option ℕ → Type 0
CountsHostFault Memory old new = new ≡ old
CountsHostFault (Host error) old new = CalledOnce old new
