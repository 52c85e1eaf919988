use Rattle.std.proofs.Common.{sym, subst}
use Rattle.feed_hub.specs.Hub.{ChangesOnly}
use Rattle.feed_screens.proofs.ServingLemmas.{serving_finished}
use Rattle.feed_screens.proofs.screens.Screens.finish.Goals as goal

pub returns-clause-serving : goal.returns-clause-serving
returns-clause-serving g c =
    λ nodes contest keyed serving.
    serving_finished _ _ c.args.self.now.conns _ _ _ c.args.keyed.at c.args.keyed.key keyed c.linger.ensures.others c.linger.ensures.key
    (subst (λ h. ChangesOnly c.args.self.now.hub h c.args.keyed.key) (sym c.linger.ensures.hub) c.leave.ensures.rest)
    c.shut.ensures.sockets serving
