-- What was passed are whole lines, and not too many.
use Rattle.std.proofs.Common.{◌-◌, ◌≤◌, length}
use Rattle.feed_probe.proofs.SurveyedLemmas.{Passed}
use Rattle.feed_probe.proofs.surveyed.start_of.Given as goal

abbrev pub invariant-lines : goal.invariant-lines
invariant-lines l = Passed l.fn.text l.rest l.at × ((l.at ≤ l.number) × (length l.rest ≤ length l.fn.text))

abbrev pub decreases-lines : goal.decreases-lines
decreases-lines l = l.number - l.at
