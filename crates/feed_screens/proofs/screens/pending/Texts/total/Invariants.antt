use Rattle.std.proofs.Common.{◌≡◌, ◌-◌, ◌^◌, min, sum_by, take}
use Rattle.feed_screens.proofs.screens.pending.Texts.total.Given as goal

abbrev pub invariant-loop-text : goal.invariant-loop-text
invariant-loop-text l = l.total ≡ min (sum_by (λ text. text.length) (take l.text-index l.text-items)) (2 ^ 64 - 1)
