use Rattle.std.proofs.Common.{◌∙◌}
use Rattle.feed_live.proofs.RelayLemmas.{with_same}
use Rattle.feed_live.proofs.source.Source.tick.Goals as goal

pub returns-then-is_due-clause-follows : goal.returns-then-is_due-clause-follows
returns-then-is_due-clause-follows g c =
    λ screens limits log servers contest sockets follows.
    let left = c.leave_due.ensures.follows screens limits log servers contest sockets follows in
    c.connect.ensures.follows screens limits log servers contest sockets
    (c.hear_quiet.ensures.same.servers ∙ left.0, with_same limits log servers c.hear_quiet.ensures.same _ _ _ c.hear_quiet.ensures.same.rest left.1)

pub returns-else-eq-clause-follows : goal.returns-else-eq-clause-follows
returns-else-eq-clause-follows g c =
    λ screens limits log servers contest sockets follows.
    let left = c.leave_due.ensures.follows screens limits log servers contest sockets follows in
    (c.hear_quiet.ensures.same.servers ∙ left.0, with_same limits log servers c.hear_quiet.ensures.same _ _ _ c.hear_quiet.ensures.same.rest left.1)
