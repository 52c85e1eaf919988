use Rattle.std.proofs.Common.{ap, sym, ◌∙◌}
use Rattle.slab.specs.Slab.{get}
use Rattle.feed_screens.proofs.ServingLemmas.{serving_removed, serving_noted}
use Rattle.feed_screens.proofs.screens.Screens.end.Goals as goal

pub returns-then-self-clause-serving : goal.returns-then-self-clause-serving
returns-then-self-clause-serving g c =
    λ nodes contest serving.
    serving_noted c.count.ensures.same
    (serving_removed c.pay.new.self.hub c.leave.new.hub c.pay.new.self.conns c.try_remove.new.self
    (g.S.Sockets.socket c.args.sockets.now) (g.S.Sockets.socket c.close.new.self) c.args.at c.in-Some.conn
    (sym c.try_remove.ensures.value ∙ c.in-Some.is) c.try_remove.ensures.updates c.leave.ensures
    c.close.ensures.closed c.close.ensures.others (serving_noted c.pay.ensures.same serving))

pub returns-else-self-clause-serving : goal.returns-else-self-clause-serving
returns-else-self-clause-serving g c =
    λ nodes contest serving.
    serving_noted c.count.ensures.same
    (serving_removed c.pay.new.self.hub c.leave.new.hub c.pay.new.self.conns c.try_remove.new.self
    (g.S.Sockets.socket c.args.sockets.now) (g.S.Sockets.socket c.close.new.self) c.args.at c.in-Some.conn
    (sym c.try_remove.ensures.value ∙ c.in-Some.is) c.try_remove.ensures.updates c.leave.ensures
    c.close.ensures.closed c.close.ensures.others (serving_noted c.pay.ensures.same serving))

pub returns-then-self-clause-others : goal.returns-then-self-clause-others
returns-then-self-clause-others g c =
    λ other differs.
    ap (λ s. get s other) c.count.ensures.conns ∙ c.try_remove.ensures.updates.others other differs ∙ c.pay.ensures.others other differs

pub returns-else-self-clause-others : goal.returns-else-self-clause-others
returns-else-self-clause-others g c =
    λ other differs.
    ap (λ s. get s other) c.count.ensures.conns ∙ c.try_remove.ensures.updates.others other differs ∙ c.pay.ensures.others other differs
