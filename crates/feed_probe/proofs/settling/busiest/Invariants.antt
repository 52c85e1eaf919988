-- It is the most so far.
use Rattle.std.proofs.Common.{◌≡◌}
use Rattle.feed_probe.specs.Settling.{busiest}
use Rattle.feed_probe.proofs.settling.busiest.Given as goal

abbrev pub invariant-loop-number : goal.invariant-loop-number
invariant-loop-number l = l.most ≡ busiest l.times l.totals l.number
