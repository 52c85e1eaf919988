-- How long a server may take to answer, in milliseconds.
use Rattle.std.specs.Prelude.{ℕ, ◌*◌, ◌-◌, ◌^◌, Bool, true, false, not, ◌&&◌, nat_eq, nat_le, min, if◌then◌else◌, Option, None, Some}
use Rattle.feed_hub.specs.Upstream.{later}
use Rattle.feed_device.specs.declared.report.Why.{Why}
use Rattle.feed_device.specs.declared.report.Why.TheVariants.{Unknown, Refuses, Late, NoAnswer, Broke, Ended, Silent, Fault, Memory}
use Rattle.feed_live.specs.declared.source.patience.Patience.{Patience}

-- the server did not answer in time
abbrev pub is_no_answer : Why → Bool
is_no_answer Unknown = false
is_no_answer Refuses = false
is_no_answer Late = false
is_no_answer NoAnswer = true
is_no_answer Broke = false
is_no_answer Ended = false
is_no_answer Silent = false
is_no_answer (Fault fault) = false
is_no_answer Memory = false

-- twenty seconds again, once the one that did not answer last answered within these
abbrev pub after_answer : ℕ → ℕ → Patience → Patience
after_answer place took patience = record {
  time = if nat_eq patience.slow place && nat_le took 20000 then 20000 else patience.time;
  slow = patience.slow;
  is_again = false;
  said = patience.said;
}

-- A server did not answer, in all the time that there is: not one that is only looked at, or asked
-- again since its feed ended.
abbrev pub is_slow : Why → Bool → Patience → Bool
is_slow why is_look patience = is_no_answer why && not is_look && not patience.is_again

-- Twice as long once one did not answer, two minutes at most.
abbrev pub after_loss_of : ℕ → Why → Bool → Patience → Patience
after_loss_of place why is_look patience = record {
  time = if is_slow why is_look patience then min (min (patience.time * 2) (2 ^ 64 - 1)) 120000
      else patience.time;
  slow = if is_slow why is_look patience then place else patience.slow;
  is_again = false;
  said = patience.said;
}

-- nothing was reported of it in the last ten minutes
abbrev pub is_to_say : Option ℕ → ℕ → Bool
is_to_say None now = true
is_to_say (Some said) now = nat_le (later said 600000) now
