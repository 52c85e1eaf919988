use Rattle.std.proofs.Common.{arith}
use Rattle.feed_screens.proofs.EndingLemmas.{all_ended}
use Rattle.feed_screens.proofs.ServingLemmas.{serving_on, still_sits, ended_stays}
use Rattle.feed_screens.proofs.screens.Screens.skip_unheard.Goals as goal

pub returns-clause-serving : goal.returns-clause-serving
returns-clause-serving c =
    λ nodes contest sockets serving.
    serving_on (λ key. still_sits contest (ended_stays nodes _ _ key _ _ _ (c.end_all.ensures.left key) (c.end_all.ensures.served nodes key))) (omega (arith, c.end_all.ensures.next)) serving

pub returns-clause-ended : goal.returns-clause-ended
returns-clause-ended c = λ ended. all_ended c.args.self.now.hub c.end_all.new.self _ _ _ c.end_all.ensures.left
