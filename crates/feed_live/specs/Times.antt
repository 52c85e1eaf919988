-- The times that a relay keeps of the server that it follows, in milliseconds.
use Rattle.std.specs.Prelude.{◌≡◌, ◌≢◌, ◌⊎◌, ℕ, ◌+◌, ◌≤◌, Option, Some, None, IfSome}
use Rattle.feed_live.specs.declared.source.Reach.{Reach}
use Rattle.feed_live.specs.declared.source.Reach.TheVariants.{Away, Connects, Asks, Reads}
use Rattle.feed_live.specs.declared.source.Source.{Source}
use Rattle.feed_live.specs.Relaying.{settings_of, RestsAway}

-- How far the connection is; when its last byte came or, while there is none, when one is due; when
-- the first server was asked last; when the connection was begun, and its head came; when something
-- was published last; and since when it sends everything.
pub record SourceTimes : Type 0 where
  pub reach : Reach
  pub since : ℕ
  pub began : ℕ
  pub opened : ℕ
  pub head : Option ℕ
  pub published : ℕ
  pub replays : ℕ

abbrev pub times_of : Source → SourceTimes
times_of source = record {
  reach = source.reach;
  since = source.upstream.since;
  began = source.upstream.began;
  opened = source.opened;
  head = source.body_since;
  published = source.returning.published;
  replays = source.settling.began;
}

-- a connection that is being made was begun by then
abbrev pub ConnectsBy : Reach → ℕ → Type 0
ConnectsBy Away latest = Unit {0}
ConnectsBy (Connects since) latest = since ≤ latest
ConnectsBy (Asks count) latest = Unit {0}
ConnectsBy Reads latest = Unit {0}

-- None of these times is later than the latest turn, but that of the next connection, which is half
-- a minute later at most.
pub record AreBy (latest : ℕ) (times : SourceTimes) : Type 0 where
  pub reach : ConnectsBy times.reach latest
  pub due : times.since ≤ latest + 30000
  pub heard : times.reach ≢ Away → times.since ≤ latest
  pub began : times.began ≤ latest
  pub opened : times.opened ≤ latest
  pub head : IfSome times.head (λ at. at ≤ latest)
  pub published : times.published ≤ latest
  pub replays : times.replays ≤ latest

-- So it is after a step at a time, if it was before. The relay is set to the same, and the clock
-- stands.
pub record KeepsTimes (old new : Source) (now after : ℕ) : Type 0 where
  pub set : settings_of new ≡ settings_of old
  pub times : (latest : ℕ) → now ≤ latest → AreBy latest (times_of old)
      → AreBy latest (times_of new)
  pub clock : after ≡ now

-- once the head of the answer came, that stays so; it comes now
abbrev pub HeadStays : Option ℕ → Option ℕ → ℕ → Type 0
HeadStays old new now = (new ≡ old) ⊎ ((old ≡ None) × (new ≡ Some now))

-- Within one connection, when that was begun, and when its head came, stays. No other one is begun.
-- Once there is none, nothing is marked as left to be read.
pub record HeedsTime (old new : Source) (now after : ℕ) : Type 0 where
  pub keeps : KeepsTimes old new now after
  pub away : old.reach ≡ Away → new.reach ≡ Away
  pub connects : (since : ℕ) → new.reach ≡ Connects since → old.reach ≡ Connects since
  pub opened : new.opened ≡ old.opened
  pub head : new.reach ≢ Away → HeadStays old.body_since new.body_since now
  pub rests : RestsAway old → RestsAway new

-- nothing of this changed
pub record SameTimes (old new : Source) : Type 0 where
  pub set : settings_of new ≡ settings_of old
  pub times : times_of new ≡ times_of old
  pub rests : RestsAway old → RestsAway new
