-- The first server of the command line is right: what is known of it while another one is followed.
-- All times are in milliseconds.
use Rattle.std.specs.Prelude.{◌≡◌, ℕ, ◌+◌, ◌-◌, ◌*◌, ◌^◌, Bool, false, not, ◌&&◌, ◌||◌, nat_eq, nat_le, nat_lt, min, max, if◌then◌else◌, Option, Some, None, is_some}
use Rattle.feed_hub.specs.Upstream.{later}
use Rattle.feed_device.specs.declared.report.Lack.{Lack}
use Rattle.feed_live.specs.declared.source.leading.Leading.{Leading}

-- a place is one of the first server
abbrev pub is_first : Leading → ℕ → Bool
is_first leading place = nat_lt place leading.places

-- its log was found to be behind ours less than a minute ago
abbrev pub was_behind : Option ℕ → ℕ → Bool
was_behind None now = false
was_behind (Some at) now = nat_lt (now - at) 60000

-- since when it refuses our newest token, where it refuses that now
abbrev pub refused_since : Option ℕ → ℕ → Option ℕ
refused_since None now = Some now
refused_since (Some at) now = Some at

-- it refused that a second ago or longer
abbrev pub has_refused : Option ℕ → ℕ → Bool
has_refused None now = false
has_refused (Some at) now = nat_le (later at 1000) now

-- One that refuses our newest token now has another log: it is the first one, and refused that
-- before. Where there is no other server, or its log was found to be behind ours not long ago, it
-- hasn't.
abbrev pub is_other_log : Leading → ℕ → ℕ → Bool
is_other_log leading place now =
    is_first leading place && has_refused leading.refused_at now
    && not (was_behind leading.behind_at now) && nat_lt 0 leading.others

-- All is to be asked of a server, though our token is known: of the first one, since it refused that
-- twice; of another one, since the first one's log took the place of ours. That one may have the
-- old log, with the same tokens.
abbrev pub asks_all : Leading → ℕ → Bool
asks_all leading place = if is_first leading place then leading.wants_all else leading.is_alone

-- What came of a server that was asked for everything is shown. Where that is the first one's other
-- log, which doesn't go on from what was shown, it stands alone: the others may have the old one.
abbrev pub stands_alone : Leading → ℕ → Bool → Bool
stands_alone leading place goes_on =
    is_first leading place && (leading.is_alone || leading.wants_all && not goes_on)

-- the first one hasn't been followed for a minute
abbrev pub has_lacked : Option (Lack × ℕ) → ℕ → Bool
has_lacked None now = false
has_lacked (Some lack) now = nat_le (later lack.1 60000) now

-- until then no other one is asked
abbrev pub is_shut_out : Leading → ℕ → ℕ → Bool
is_shut_out leading place now =
    leading.is_alone && not (is_first leading place) && not (has_lacked leading.lack now)

-- another server, of this place, is followed in place of the first one
abbrev pub is_instead : Leading → ℕ → Bool
is_instead leading place = is_some leading.lack && not (is_first leading place)

-- and that was reported
abbrev pub is_said : Option ℕ → ℕ → Bool
is_said None place = false
is_said (Some said) place = nat_eq said place

abbrev pub is_back : Leading → ℕ → Bool
is_back leading place = is_some leading.lack && is_said leading.said place

-- How long it may take to answer while another one would be followed: twice as long as the last
-- time, but two seconds at least, and twenty at most.
abbrev pub look_time : Leading → ℕ
look_time leading = min (max (min (leading.answer_time * 2) (2 ^ 64 - 1)) 2000) 20000

-- which of its places is looked at after the next one
abbrev pub looks_next : Leading → ℕ
looks_next leading =
    if nat_lt (min (leading.next + 1) (2 ^ 64 - 1)) leading.places
    then min (leading.next + 1) (2 ^ 64 - 1) else 0

-- Nothing changed of it but why it isn't followed, since when, when it is looked at, and what was
-- reported of that.
pub record SameLead (old new : Leading) : Type 0 where
  pub places : new.places ≡ old.places
  pub others : new.others ≡ old.others
  pub refused : new.refused_at ≡ old.refused_at
  pub all : new.wants_all ≡ old.wants_all
  pub behind : new.behind_at ≡ old.behind_at
  pub alone : new.is_alone ≡ old.is_alone
  pub time : new.answer_time ≡ old.answer_time
  pub next : new.next ≡ old.next
  pub from : new.looks_from ≡ old.looks_from
