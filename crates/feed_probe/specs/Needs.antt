-- Which options of `live` a server needs.
use Rattle.std.specs.Prelude.{ℕ, Bool, true, false, ◌==◌, Option, Some, None, if◌then◌else◌}
use Rattle.feed_probe.specs.declared.behaviour.Behaviour.{Behaviour}
use Rattle.feed_probe.specs.declared.behaviour.Behaviour.TheVariants.{Nothing, GoesOn, SendsAgain}
use Rattle.feed_probe.specs.declared.needs.Answer.{Answer}
use Rattle.feed_probe.specs.declared.needs.Answer.TheVariants.{Failed, Refused, Sent}
use Rattle.feed_probe.specs.declared.needs.Asked.{Asked}
use Rattle.feed_probe.specs.declared.needs.Asked.TheVariants.{Middle, Before, Newest, Unheld}

abbrev pub is_newest : Asked → Bool
is_newest Newest = true
is_newest other = false

abbrev pub is_other : Asked → Bool
is_other Newest = false
is_other other = true

-- who asks with a token has to be sent what came after it, or again from before; behind the newest
-- one nothing may be
abbrev pub is_wrong : Asked → Behaviour → Bool
is_wrong asked Nothing = is_other asked
is_wrong asked GoesOn = false
is_wrong asked SendsAgain = false
is_wrong asked other = true

-- A server that sends something else, or refuses its own newest token, has to be asked for
-- everything each time. What it makes of a token that it can't have given doesn't matter.
abbrev pub wants_fresh : Asked → Answer → Bool
wants_fresh Unheld answer = false
wants_fresh asked (Failed status) = false
wants_fresh asked Refused = is_newest asked
wants_fresh asked (Sent behaviour) = is_wrong asked behaviour

-- the usual pause needs no option
abbrev pub settle_of : ℕ → Option ℕ
settle_of pause = if pause == 2000 then None else Some pause
