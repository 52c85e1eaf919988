-- Lemmas on input that is read whole: where it isn't, a command fails so.
use Rattle.std.proofs.Common.{◌≡◌, ◌≢◌, ◌⊎◌, inl, inr, refl, sym, subst, List, ℕ, Bool, Option, None}
use Rattle.std.specs.Io.KnownBytes.{Keeps}
use Rattle.feed_settings.specs.Limits.{Limits}
use Rattle.feed_note.specs.Counts.{StopsAt}
use Rattle.feed_note.specs.declared.counts.SurveyFault.{SurveyFault}
use Rattle.feed_note.specs.declared.stop.LineStop.{LineStop}
use Rattle.feed_note.specs.declared.stop.LineStop.TheVariants as stop
use Rattle.feed_commands.specs.Check.{IsWhole, InputStops, InputStopsWithin, InputFails, FailsWithin, CountFails}
use Rattle.feed_commands.specs.Fault.{fault_at, fault_behind, fault_of_survey, fault_of_batches}
use Rattle.feed_commands.specs.Play.{PlayFails}
use Rattle.feed_commands.specs.Pull.{FailsToStart}
use Rattle.feed_commands.specs.Serve.{StartFails}
use Rattle.feed_commands.specs.Streams.{Streams}
use Rattle.feed_commands.specs.declared.fault.Fault.{Fault}
use Rattle.feed_commands.specs.declared.fault.Fault.TheVariants as fault

pub fails_so : (most : ℕ) (why : Fault) (old new : Option (List ℕ))
    → (why ≡ fault.Read) ⊎ (why ≡ fault.Memory) → FailsWithin most why old new
fails_so most why old new (inl e) = subst (λ w. FailsWithin most w old new) (sym e) tt
fails_so most why old new (inr e) = subst (λ w. FailsWithin most w old new) (sym e) tt

module _ (old new : Option (List ℕ)) where
  pub count_fails : (verbose : Bool) (why : Fault) → InputFails why old new → CountFails verbose why old new
  count_fails verbose (fault.Survey why) none = absurd none
  count_fails verbose why fails = fails

  pub start_fails : (turn : Option ℕ) (limits : Limits) (why : Fault) → InputFails why old new
      → StartFails turn limits why old new
  start_fails turn limits (fault.Batches why) none = absurd none
  start_fails turn limits (fault.Commit why) none = absurd none
  start_fails turn limits why fails = fails

  pub mirror_fails : (limits : Limits) (why : Fault) → InputFails why old new
      → FailsToStart limits why old new
  mirror_fails limits (fault.Feed why) none = absurd none
  mirror_fails limits why fails = fails

  -- the whole input was read, and a line stops its reading, unless memory ran out
  stops_so : (bytes : List ℕ) (why : SurveyFault) → IsWhole old new bytes
      → (why.stop ≢ stop.Memory → StopsAt bytes why.line why.stop)
      → why.stop ≢ stop.Memory → InputStops old new why
  stops_so bytes why whole stops other = record { bytes = bytes; whole = whole; stops = stops other }

  stops_within : (verbose : Bool) (bytes : List ℕ) (why : SurveyFault) → IsWhole old new bytes
      → (why.stop ≢ stop.Memory → StopsAt bytes why.line why.stop)
      → why.stop ≢ stop.Memory → InputStopsWithin verbose old new (record { fault = why; spot = None })
  stops_within verbose bytes why whole stops other =
      record { bytes = bytes; whole = whole; text = bytes; read_as = inl refl; stops = stops other; placed = tt }

  pub count_stops : (verbose : Bool) (bytes : List ℕ) (why : SurveyFault) → IsWhole old new bytes
      → (why.stop ≢ stop.Memory → StopsAt bytes why.line why.stop)
      → CountFails verbose (fault_of_survey why) old new
  count_stops verbose bytes why whole stops = by why.stop refl
    where
      by : (s : LineStop) → why.stop ≡ s → CountFails verbose (fault_at s why) old new
      by stop.Memory e = tt
      by stop.LongLine e = stops_within verbose bytes why whole stops (λ m. absurd (cc))
      by (stop.Line f) e = stops_within verbose bytes why whole stops (λ m. absurd (cc))

  pub start_stops : (turn : Option ℕ) (limits : Limits) (bytes : List ℕ) (why : SurveyFault)
      → IsWhole old new bytes → (why.stop ≢ stop.Memory → StopsAt bytes why.line why.stop)
      → StartFails turn limits (fault_of_batches why) old new
  start_stops turn limits bytes why whole stops = by why.stop refl
    where
      by : (s : LineStop) → why.stop ≡ s → StartFails turn limits (fault_behind s why) old new
      by stop.Memory e = tt
      by stop.LongLine e = stops_so bytes why whole stops (λ m. absurd (cc))
      by (stop.Line f) e = stops_so bytes why whole stops (λ m. absurd (cc))

-- nothing is printed then
pub play_fails : (s : Streams) (why : Fault) → InputFails why s.input_old s.input_new
    → Keeps s.out_old s.out_new → PlayFails why s
play_fails s fault.Write none keeps = absurd none
play_fails s (fault.Play why) none keeps = absurd none
play_fails s why fails keeps = (fails, keeps)
