use Rattle.feed_screens.proofs.ServingLemmas.{serving_forgotten}
use Rattle.feed_screens.proofs.screens.Screens.dismiss.Goals as goal

pub returns-then-has_come-clause-serving : goal.returns-then-has_come-clause-serving
returns-then-has_come-clause-serving g c =
    λ nodes contest serving.
    c.end.ensures.serving nodes contest
    (serving_forgotten c.args.self.now.hub c.args.self.now.conns _ _ c.args.at c.read-read.result _ c.read-read.ensures.bytes c.read-read.ensures.others (c.lingers.ensures c.if-not-lingers.false) serving)

pub returns-else-has_come-clause-serving : goal.returns-else-has_come-clause-serving
returns-else-has_come-clause-serving g c =
    λ nodes contest serving.
    serving_forgotten c.args.self.now.hub c.args.self.now.conns _ _ c.args.at c.read-read.result _ c.read-read.ensures.bytes c.read-read.ensures.others (c.lingers.ensures c.if-not-lingers.false) serving
