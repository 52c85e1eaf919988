use Rattle.std.proofs.Common.{◌∙◌, ap, inr}
use Rattle.feed_live.proofs.source.Source.is_open.Goals as goal

pub returns-in-Err-clause-leaves : goal.returns-in-Err-clause-leaves
returns-in-Err-clause-leaves g c = λ away. inr (c.in-Err.field-0, ap (λ k. k.looked) c.lost.ensures.calls ∙ c.in-Err.ensures.calls.looked)
