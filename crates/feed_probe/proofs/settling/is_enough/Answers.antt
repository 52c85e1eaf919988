use Rattle.std.proofs.Common.{inr}
use Rattle.feed_probe.proofs.settling.is_enough.Goals as goal

pub returns-in-Some-burst_after-clause-no : goal.returns-in-Some-burst_after-clause-no
returns-in-Some-burst_after-clause-no c = λ e. inr (record {
  shown = c.in-Some.shown;
  number = c.in-Some-burst_after._number;
  is_shown = c.in-Some.ensures;
  is_more = c.in-Some-burst_after.ensures;
})
