-- What servers of other make send, in words and with tokens of their own, and when that is honest.
use Rattle.std.specs.Prelude.{◌≡◌, ℕ, ◌≤◌, Bool, false, List, [], ◌∷◌, ◌++◌, length, map, flat_map, get_or, Option, Some, is_none, is_some, AllPairs, ◌≢◌}
use Rattle.std.specs.List.{AllByRecursion}
use Rattle.feed_settings.specs.Limits.{Limits}
use Rattle.feed_changes.specs.declared.change.Change.{Change}
use Rattle.feed_changes.specs.Changes.{IsChange}
use Rattle.feed_changes.specs.Names.{IsName}
use Rattle.feed_note.specs.declared.line.Line.{Line}
use Rattle.feed_note.specs.Lines.{lines}
use Rattle.feed_note.specs.Meaning.{Means}
use Rattle.feed_note.specs.Written.{written}
use Rattle.feed_node.specs.Mirroring.{MirrorState, present_opening, first_opening}
use Rattle.feed_node.specs.Reading.{Reads, reads}
use Rattle.feed_follow.specs.Carrying.{CarryText, IsFeedOf}
use Rattle.feed_world.specs.Log.{Log, IsNamed}
use Rattle.feed_world.specs.Position.{Position, IsPlaceOfLog}
use Rattle.feed_world.specs.Reading.{opening_at}
use Rattle.feed_world.specs.Telling.{Tells}
use Rattle.feed_device.specs.Links.{Exchange, once_at}
use Rattle.feed_live.specs.Upstream.{AsksInLog, Servers, IsRequestOf, IsOfLog, IsHonest}
use Rattle.feed_files.specs.Input.{IsHonestInput}

-- the lines mean this, one after another
abbrev pub AreMeant : List (List ℕ) → List Line → Type 0
AreMeant [] [] = Unit {0}
AreMeant (x ∷ xs) (note ∷ notes) = Means x note × AreMeant xs notes
AreMeant [] (note ∷ notes) = ⊥
AreMeant (x ∷ xs) [] = ⊥

-- however many of the first lines of the text have a meaning, they tell the log from this number on
abbrev pub TextTells : Log → Bool → ℕ → List ℕ → Type 0
TextTells log fresh k text =
    (xs later : List (List ℕ)) (notes : List Line) → xs ++ later ≡ lines text
    → AreMeant xs notes → Tells log fresh k [] notes

-- it is enough that each line has a meaning, and all together tell the log
abbrev pub MeaningTells : Type 0
MeaningTells =
    (log : Log) (fresh : Bool) (k : ℕ) (text : List ℕ) (notes : List Line)
    → AreMeant (lines text) notes → Tells log fresh k [] notes → TextTells log fresh k text

-- a mirror at this place may be told the log from this number on: on a fresh connection from any,
-- and else from one of which it holds the token
abbrev pub MayBegin : Option Position → Bool → ℕ → Type 0
MayBegin place fresh k =
    fresh ≡ false → (own : Position) × (place ≡ Some own) × (own.low ≤ k) × (k ≤ own.at)

-- an input that tells a log is honest, whoever wrote it
abbrev pub ToldIsHonest : Type 0
ToldIsHonest =
    (limits : Limits) (log : Log) (place : Option Position) (fresh : Bool) (k : ℕ)
    (begun : MirrorState) (input : List ℕ) → IsNamed log → IsPlaceOfLog limits log place
    → MayBegin place fresh k → present_opening begun ≡ opening_at log place fresh
    → TextTells log fresh k input → IsHonestInput limits log begun input

-- ---- responses

-- what was read carries a text that tells the log to this mirror
pub record CarriesTheLog (limits : Limits) (log : Log) (exchange : Exchange) (begun : MirrorState)
    (asks : AsksInLog limits log begun) : Type 0 where
  pub k : ℕ
  pub text : List ℕ
  pub begins : MayBegin asks.place (is_none begun.since) k
  pub carries : CarryText (is_some begun.since) exchange.received text
  pub tells : TextTells log (is_none begun.since) k text

-- so a response that tells the log to each mirror that asked so is honest, whoever sent it
abbrev pub TellingIsHonest : Type 0
TellingIsHonest =
    (limits : Limits) (log : Log) (servers : Servers) (exchange : Exchange) → IsNamed log
    → ((begun : MirrorState) (request more : List ℕ) (asks : AsksInLog limits log begun)
    → IsRequestOf servers exchange.server begun request → exchange.asked ≡ request ++ more
    → CarriesTheLog limits log exchange begun asks) → IsHonest limits log servers exchange

-- the exchange was a response of whatever head and framing, whose body brings a text that tells the
-- log to this mirror
pub record IsFeedOfTheLog (limits : Limits) (log : Log) (exchange : Exchange) (begun : MirrorState)
    (asks : AsksInLog limits log begun) : Type 0 where
  pub k : ℕ
  pub text : List ℕ
  pub begins : MayBegin asks.place (is_none begun.since) k
  pub is_feed : IsFeedOf (is_some begun.since) exchange.received text
  pub tells : TextTells log (is_none begun.since) k text

-- so it is honest
abbrev pub FeedIsHonest : Type 0
FeedIsHonest =
    (limits : Limits) (log : Log) (servers : Servers) (exchange : Exchange) → IsNamed log
    → ((begun : MirrorState) (request more : List ℕ) (asks : AsksInLog limits log begun)
    → IsRequestOf servers exchange.server begun request → exchange.asked ≡ request ++ more
    → IsFeedOfTheLog limits log exchange begun asks) → IsHonest limits log servers exchange

-- ---- a server that replays

-- Nothing is wrong with any prefix of the text on a connection that begins so, and all of it leaves
-- a state of the log published, whatever states it goes through.
pub record Replays (log : Log) (begun : MirrorState) (text : List ℕ) : Type 0 where
  pub read : (prefix behind : List ℕ) → prefix ++ behind ≡ text
      → (notes : List Line) × Reads begun.limits (present_opening begun) prefix notes
  pub ends : (notes : List Line) → Reads begun.limits (present_opening begun) text notes
      → IsOfLog log (reads begun.limits.history (present_opening begun) notes).published

-- So a response is honest that carries such a text, where it is shown once, and all of it had come.
-- The log of a server that replays begins where that ends: its first state is what the replay
-- makes.
abbrev pub ReplayIsHonest : Type 0
ReplayIsHonest =
    (limits : Limits) (log : Log) (servers : Servers) (exchange : Exchange) (text : List ℕ)
    → exchange.shown ≡ once_at (length exchange.received)
    → ((begun : MirrorState) (request more : List ℕ) → AsksInLog limits log begun
    → IsRequestOf servers exchange.server begun request → exchange.asked ≡ request ++ more
    → IsFeedOf (is_some begun.since) exchange.received text × Replays log begun text)
    → IsHonest limits log servers exchange

-- ---- a feed that has a token on each line

-- the lines of such a feed
abbrev pub tokened_text : List (Change × List ℕ) → List ℕ
tokened_text entries = flat_map (λ e. written e.0 (Some e.1)) entries

-- the log that they tell, whose first state is that after the first line
abbrev pub tokened_log : Change × List ℕ → List (Change × List ℕ) → Log
tokened_log entry entries =
    record {
      first = entry.0 ∷ [];
      commits = map (λ e. e.0 ∷ []) entries;
      token = λ k. get_or (map (λ e. e.1) (entry ∷ entries)) k [];
    }

-- the changes and the tokens are within the limits, and no two tokens are the same
pub record AreEntries (entries : List (Change × List ℕ)) : Type 0 where
  pub changes : AllByRecursion (λ e. IsChange e.0) entries
  pub names : AllByRecursion (λ e. IsName e.1) entries
  pub distinct : AllPairs (λ x y. x ≢ y) (map (λ e. e.1) entries)

-- so a feed is honest, with whatever tokens, to a mirror that begins with nothing
abbrev pub TokenedIsHonest : Type 0
TokenedIsHonest =
    (limits : Limits) (entry : Change × List ℕ) (entries : List (Change × List ℕ))
    (begun : MirrorState) → AreEntries (entry ∷ entries) → present_opening begun ≡ first_opening
    → IsHonestInput limits (tokened_log entry entries) begun (tokened_text (entry ∷ entries))
