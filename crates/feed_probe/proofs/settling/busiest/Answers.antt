use Rattle.std.proofs.Common.{refl, ap₂, ◌∙◌, add-one, ◌≡◌, ℕ, ◌+◌, List}
use Rattle.std.specs.Prelude.{max}
use Rattle.feed_probe.specs.Settling.{busiest, second_from}
use Rattle.feed_probe.proofs.settling.busiest.Goals as goal

one_more : (times totals : List ℕ) (number most second new : ℕ) → new ≡ max second most
    → second ≡ second_from times totals number → most ≡ busiest times totals number
    → new ≡ busiest times totals (number + 1)
unfolding busiest
one_more times totals number most second new is brings so_far =
    rw add-one (is ∙ ap₂ max brings so_far)

pub loop-number-init : goal.loop-number-init
unfolding busiest
loop-number-init c = refl

pub loop-number-preserved : goal.loop-number-preserved
loop-number-preserved c =
    one_more c.args.times.now c.args.totals.now c.loop-number.number c.loop-number.most
    c.second_from.result c.max-most.result c.max-most.ensures c.second_from.ensures
    c.loop-number.invariant
