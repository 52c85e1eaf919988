-- THE PROMISE of a relay whose feed is its input: what it shows, and what each socket was handed,
-- is of the log, as long as that input is honest.
use Rattle.std.specs.Prelude.{◌≡◌, ℕ, Bool, true, false, List, [], ◌++◌, Result, MatchResult, OnOk, string_bytes}
use Rattle.feed_settings.specs.Limits.{Limits}
use Rattle.feed_node.specs.declared.fault.FeedFault.{FeedFault}
use Rattle.feed_node.specs.Mirroring.{MirrorState, StandsAt, present_opening}
use Rattle.feed_world.specs.Log.{Log}
use Rattle.feed_device.specs.Sockets.{AllSockets}
use Rattle.feed_screens.specs.declared.screens.Screens.{Screens}
use Rattle.feed_live.specs.declared.source.Source.{Source}
use Rattle.feed_live.specs.declared.turn.Input.{Input}
use Rattle.feed_live.specs.declared.turn.Input.TheVariants.{Nothing, Bytes, End}
use Rattle.feed_live.specs.declared.turn.Live.{Live}
use Rattle.feed_live.specs.Relaying.{ShowsFromLog, servers_of}
use Rattle.feed_files.specs.Input.{IsHonestInput, TakesInput, StopsInput}

-- the bytes that came
abbrev pub bytes_in : Input → List ℕ
bytes_in Nothing = []
bytes_in (Bytes piece) = piece.now
bytes_in End = []

-- A relay of this contest shows the log where its input was honest so far, to the mirror that it
-- began with.
abbrev pub ShowsInput : Limits → Log → List ℕ → MirrorState → List ℕ → Source → Screens → AllSockets
    → Type 0
ShowsInput limits log contest begun input source screens sockets =
    IsHonestInput limits log begun input
    → ShowsFromLog limits log contest source screens sockets

-- THE PROMISE: so it is with a relay that follows no server. While its input goes on, nothing of
-- that is lost or read twice.
pub record IsTakingInput (limits : Limits) (log : Log) (begun : MirrorState) (input : List ℕ)
    (live : Live) (sockets : AllSockets) : Type 0 where
  pub no_places : live.source.places.items ≡ []
  pub shows : ShowsInput limits log (string_bytes live.contest) begun input live.source live.screens
      sockets
  pub takes : live.feeds ≡ true
      → TakesInput begun input live.source.rest.items live.source.answers.shown.mirror

-- ---- steps

-- it was so, and still is, where these bytes came
abbrev pub StillTaking : Live → Live → List ℕ → AllSockets → AllSockets → Type 0
StillTaking old new more sockets later =
    (limits : Limits) (log : Log) (begun : MirrorState) (input : List ℕ)
    → IsTakingInput limits log begun input old sockets
    → IsTakingInput limits log begun (input ++ more) new later

-- It took its input, of which this was unread, and still shows the log. It takes the rest, where
-- nothing failed.
abbrev pub StillTakes : {A E : Type 0} → Source → Source → List ℕ → List ℕ → Screens → Screens
    → Result A E → Type 0
StillTakes old new unread left screens later result =
    (limits : Limits) (log : Log) (contest : List ℕ) (begun : MirrorState) (input : List ℕ)
    (sockets : AllSockets) → ShowsInput limits log contest begun input old screens sockets
    → TakesInput begun input unread old.answers.shown.mirror
    → ShowsInput limits log contest begun input new later sockets
    × OnOk result (TakesInput begun input left new.answers.shown.mirror)

-- It took its input, of which this was unread. It takes the rest; or it stopped there, with a
-- fault.
abbrev pub TakesOrStops : {A : Type 0} → Source → Source → List ℕ → List ℕ → Result A FeedFault
    → Type 0
TakesOrStops old new unread left result =
    (begun : MirrorState) (input : List ℕ)
    → TakesInput begun input unread old.answers.shown.mirror
    → MatchResult result (λ _. TakesInput begun input left new.answers.shown.mirror)
    (λ fault. StopsInput begun input fault new.answers.shown.mirror)

-- so it is where these bytes came behind those that were kept
abbrev pub TakesMoreOrStops : {A : Type 0} → Source → Source → List ℕ → Result A FeedFault → Type 0
TakesMoreOrStops old new more result =
    (begun : MirrorState) (input : List ℕ)
    → TakesInput begun input old.rest.items old.answers.shown.mirror
    → MatchResult result
    (λ _. TakesInput begun (input ++ more) new.rest.items new.answers.shown.mirror)
    (λ fault. StopsInput begun (input ++ more) fault new.answers.shown.mirror)

-- where it stopped
abbrev pub StopsSomewhere : Source → Source → List ℕ → Type 0
StopsSomewhere old new more =
    (fault : FeedFault) × ((begun : MirrorState) (input : List ℕ)
    → TakesInput begun input old.rest.items old.answers.shown.mirror
    → StopsInput begun (input ++ more) fault new.answers.shown.mirror)

-- A relay took its input, which goes on with these bytes, and takes no more of it: it stopped
-- there.
abbrev pub StopsTaking : Live → Live → List ℕ → AllSockets → Type 0
StopsTaking old new more sockets =
    (limits : Limits) (log : Log) (begun : MirrorState) (input : List ℕ)
    → IsTakingInput limits log begun input old sockets → old.feeds ≡ true → new.feeds ≡ false
    → (fault : FeedFault)
    × StopsInput begun (input ++ more) fault new.source.answers.shown.mirror

-- so it is where these bytes came behind those that were kept, and it may go on
abbrev pub StillTakesMore : Source → Source → List ℕ → Screens → Screens → Bool → Type 0
StillTakesMore old new more screens later goes_on =
    (limits : Limits) (log : Log) (contest : List ℕ) (begun : MirrorState) (input : List ℕ)
    (sockets : AllSockets) → ShowsInput limits log contest begun input old screens sockets
    → TakesInput begun input old.rest.items old.answers.shown.mirror
    → ShowsInput limits log contest begun (input ++ more) new later sockets
    × (goes_on ≡ true
    → TakesInput begun (input ++ more) new.rest.items new.answers.shown.mirror)

-- the input is a feed from here on
pub record BeginsInput (old new : Source) : Type 0 where
  pub servers : servers_of new ≡ servers_of old
  pub stands : StandsAt (present_opening old.answers.shown.mirror) [] [] new.answers.shown.mirror
  pub limits : new.answers.shown.mirror.limits ≡ old.answers.shown.mirror.limits
  pub node : new.answers.shown.mirror.node ≡ old.answers.shown.mirror.node
  pub blank : new.answers.blank.mirror ≡ old.answers.blank.mirror
  pub rest : new.rest.items ≡ old.rest.items
