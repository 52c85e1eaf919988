use Rattle.std.proofs.Common.{arith}
use Rattle.feed_screens.proofs.EndingLemmas.{end_kept}
use Rattle.feed_screens.proofs.ServingLemmas.{serving_on, still_sits, kept_stays}
use Rattle.feed_screens.proofs.screens.Screens.trim.Goals as goal

pub returns-then-not-self-clause-serving : goal.returns-then-not-self-clause-serving
returns-then-not-self-clause-serving c =
    λ nodes contest sockets serving.
    serving_on (λ key. still_sits contest (kept_stays nodes _ _ key c.trim.ensures.cuts (c.trim.ensures.served nodes key))) (omega (arith, c.trim.ensures.next)) serving

pub returns-then-not-self-clause-ended : goal.returns-then-not-self-clause-ended
returns-then-not-self-clause-ended c = end_kept c.args.self.now.hub c.trim.new.self c.trim.ensures.cuts
