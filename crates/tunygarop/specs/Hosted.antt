-- What a host gave and was called for, by its ledger.
use Rattle.std.specs.Prelude.{ℕ, suc, ◌==◌, cond, Bool, true, List, [], ◌∷◌, ◌++◌, take, Option, Some, None, option_map}
use Rattle.feed_ledger.specs.Entries.{Entry, came, came_to_end, waited, reported, failed}
use Rattle.feed_live.specs.Running.{HostCalls, InputSoFar, nothing_came}

-- these bytes more came
abbrev pub came_on_with : List ℕ → InputSoFar → InputSoFar
came_on_with bytes so_far =
    record { bytes = so_far.bytes ++ bytes; has_ended = so_far.has_ended }

-- it has ended
abbrev pub at_its_end : InputSoFar → InputSoFar
at_its_end so_far = record { bytes = so_far.bytes; has_ended = true }

-- so many bytes of a piece were read behind that, nothing was, or the end was
abbrev pub input_given : Option ℕ → List ℕ → InputSoFar → InputSoFar
input_given None piece so_far = so_far
input_given (Some count) piece so_far =
    cond (count == 0) (at_its_end so_far) (came_on_with (take count piece) so_far)

abbrev pub with_input : Entry → InputSoFar → InputSoFar
with_input (came bytes) so_far = came_on_with bytes so_far
with_input came_to_end so_far = at_its_end so_far
with_input other so_far = so_far

-- what the input gave
abbrev pub input_in : List Entry → InputSoFar
input_in [] = nothing_came
input_in (entry ∷ before) = with_input entry (input_in before)

abbrev pub with_host_call : Entry → HostCalls → HostCalls
with_host_call (waited due takes_input is_over) calls = record calls {
  waits = option_map
      (λ waits. record { due = due; takes_input = takes_input; is_over = is_over } ∷ waits)
      calls.waits;
}
with_host_call reported calls =
    record calls { reports = option_map (λ reports. suc reports) calls.reports }
with_host_call other calls = calls

-- for what it was to wait, the latest first, and how often it was to report
abbrev pub host_calls_in : List Entry → HostCalls
host_calls_in [] = record { waits = Some []; reports = Some 0 }
host_calls_in (entry ∷ before) = with_host_call entry (host_calls_in before)

-- how often it failed
abbrev pub failures_in : List Entry → ℕ
failures_in [] = 0
failures_in (failed ∷ before) = suc (failures_in before)
failures_in (other ∷ before) = failures_in before
