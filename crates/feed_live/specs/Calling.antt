-- What a relay does with its connection to a server, once an event came for it.
use Rattle.std.specs.Prelude.{◌≡◌, ◌≢◌, ◌⊎◌, ℕ, ◌+◌, List, [], ◌∷◌, ◌++◌, drop, Bool, true, false, Option, None, option_map, Result, Ok, Err}
use Rattle.feed_device.specs.Calls.{Answers, LinkCalls, HasAnswered, AnsweredAtLeastOnce}
use Rattle.feed_device.specs.declared.device.Stop.{Stop}
use Rattle.feed_device.specs.declared.device.Stop.TheVariants.{Waits}
use Rattle.feed_live.specs.declared.source.Reach.TheVariants.{Away, Connects, Asks, Reads}
use Rattle.feed_live.specs.declared.source.Source.{Source}
use Rattle.feed_live.specs.Relaying.{GoesOnTo}

-- The response may be read on: nothing of it is kept, and nothing is still to be said.
pub record MayReadOn (source : Source) (waits : Option ℕ) : Type 0 where
  pub reads : source.reach ≡ Reads
  pub rest : source.rest.items ≡ []
  pub said : waits ≡ None

-- A connection that is being made is looked at, whether it is open; if so the request is offered.
pub record LooksAndAsks (source : Source) (old new : LinkCalls) : Type 0 where
  pub answer : Result Bool Stop
  pub looks : HasAnswered answer old.looked new.looked
  pub asks : answer ≡ Ok true → source.request.items ≢ []
      → AnsweredAtLeastOnce old.written new.written

-- Of a request that isn't written whole some is offered. A response that may be read on is read.
pub record HeedsLink (source : Source) (waits : Option ℕ) (old new : LinkCalls) : Type 0 where
  pub looks : (since : ℕ) → source.reach ≡ Connects since → LooksAndAsks source old new
  pub asks : (count : ℕ) → source.reach ≡ Asks count → drop count source.request.items ≢ []
      → AnsweredAtLeastOnce old.written new.written
  pub reads : MayReadOn source waits → AnsweredAtLeastOnce old.read new.read

-- ---- what the device's answer changes, and whether there may be more to do at once

-- A connection that is open is asked, one that isn't yet is waited for, and one that failed is left
-- for the next server.
pub record AsLooked (answer : Result Bool Stop) (goes_on : Bool) (old new : Source) (now : ℕ)
    : Type 0 where
  pub opens : answer ≡ Ok true → (goes_on ≡ true) × (new ≡ record old { reach = Asks 0 })
  pub waits : answer ≡ Ok false → (goes_on ≡ false) × (new ≡ old)
  pub fails : (stop : Stop) → answer ≡ Err stop
      → (goes_on ≡ false) × (new.reach ≡ Away) × GoesOnTo old new now

-- What was written of the request counts. A server that can't take more now is waited for. One that
-- takes nothing is left for the next, as one that fails.
pub record AsWritten (answer : Result ℕ Stop) (count : ℕ) (goes_on : Bool) (old new : Source)
    (now : ℕ) : Type 0 where
  pub took : (more : ℕ) → answer ≡ Ok more → more ≢ 0
      → (goes_on ≡ true) × (new ≡ record old { reach = Asks (count + more) })
  pub waits : answer ≡ Err Waits → (goes_on ≡ false) × (new ≡ old)
  pub none : answer ≡ Ok 0 → (goes_on ≡ false) × (new.reach ≡ Away) × GoesOnTo old new now
  pub fails : (stop : Stop) → answer ≡ Err stop → stop ≢ Waits
      → (goes_on ≡ false) × (new.reach ≡ Away) × GoesOnTo old new now

-- A server that has sent no more yet is waited for, and one whose response ended or broke is left.
-- Else there may be more, as long as the response is read.
pub record AsRead (answer : Result ℕ Stop) (goes_on : Bool) (old new : Source) : Type 0 where
  pub waits : answer ≡ Err Waits → (goes_on ≡ false) × (new ≡ old)
  pub ends : answer ≡ Ok 0 → new.reach ≡ Away
  pub fails : (stop : Stop) → answer ≡ Err stop → stop ≢ Waits → new.reach ≡ Away
  pub more : goes_on ≡ false → (answer ≡ Err Waits) ⊎ (new.reach ≢ Reads)

-- the last call would have had to wait: an event comes once it need not
abbrev pub HadToWait : Answers ℕ → Type 0
HadToWait answers = (before : Answers ℕ) × HasAnswered (Err Waits) before answers

-- As long as a response is read, there is more of it, or all that came was read.
abbrev pub MarksMore : Source → Answers ℕ → Type 0
MarksMore source answers = source.reach ≡ Reads → (source.has_more ≡ true) ⊎ HadToWait answers

-- where a response is read, it was before, and as much is marked as left to be read
abbrev pub ReadsAsBefore : Source → Source → Type 0
ReadsAsBefore old new = new.reach ≡ Reads → (old.reach ≡ Reads) × (new.has_more ≡ old.has_more)

-- as long as a request is written, no more of it was taken
abbrev pub AsksAll : Source → Answers ℕ → Type 0
AsksAll source answers = (count : ℕ) → source.reach ≡ Asks count → HadToWait answers

-- nothing is kept, unless something waits to be said; or the server was left
abbrev pub KeepsNothing : Source → Option ℕ → Type 0
KeepsNothing source waits =
    (source.reach ≡ Away) ⊎ (waits ≢ None) ⊎ (source.rest.items ≡ [])

-- What came is taken, until something waits to be said: as much is kept as before. Or the server
-- was left.
abbrev pub TakesWhatCame : Source → Source → Option ℕ → Type 0
TakesWhatCame old new waits =
    (new.reach ≡ Away)
    ⊎ ((new.reach ≡ old.reach) × ((waits ≢ None) ⊎ (new.rest.items ≡ old.rest.items)))

-- No connection is begun, and nothing is read. As long as the server isn't left, what is kept
-- stays.
pub record ReadsNothing (old new : Source) (before after : LinkCalls) : Type 0 where
  pub begun : after.begun ≡ before.begun
  pub read : after.read ≡ before.read
  pub kept : new.reach ≢ Away → new.rest.items ≡ old.rest.items

-- ---- for what a server is left

-- a server is left for this alone
abbrev pub LeavesOnlyFor : Type 0 → Source → Source → Type 0
LeavesOnlyFor reason old new = new.reach ≡ Away → (old.reach ≡ Away) ⊎ reason

-- the device was called, and this is what it answered last
abbrev pub HasAnsweredLast : {A : Type 0} → Result A Stop → Answers A → Answers A → Type 0
HasAnsweredLast {A} answer old new =
    (more : List (Result A Stop)) × (new ≡ option_map (λ all. (answer ∷ more) ++ all) old)

-- the connection can't be made
abbrev pub FailsToConnect : Answers Bool → Answers Bool → Type 0
FailsToConnect old new = (stop : Stop) × HasAnswered (Err stop) old new

-- a write broke: nothing was taken, and it didn't have to wait
abbrev pub IsBreak : Result ℕ Stop → Type 0
IsBreak (Ok count) = count ≡ 0
IsBreak (Err stop) = stop ≢ Waits

-- the connection broke while the request was written
abbrev pub HasBroken : Answers ℕ → Answers ℕ → Type 0
HasBroken old new = (answer : Result ℕ Stop) × IsBreak answer × HasAnsweredLast answer old new

-- the last read didn't have to wait: it gave some of the response, or its end, or failed
abbrev pub ReadAtOnce : Answers ℕ → Answers ℕ → Type 0
ReadAtOnce old new =
    (answer : Result ℕ Stop) × (answer ≢ Err Waits) × HasAnsweredLast answer old new

-- Why a server is left once an event came for its connection: that can't be made, or broke while the
-- request was written; or for what came of the response, now or before, or since a read failed.
abbrev pub HasCause : Source → LinkCalls → LinkCalls → Type 0
HasCause source old new =
    FailsToConnect old.looked new.looked ⊎ HasBroken old.written new.written
    ⊎ ReadAtOnce old.read new.read ⊎ (source.rest.items ≢ [])
