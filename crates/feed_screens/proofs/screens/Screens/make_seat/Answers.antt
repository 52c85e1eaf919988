use Rattle.std.proofs.Common.{sym, subst}
use Rattle.feed_screens.specs.Seating.{HasSentEnd}
use Rattle.feed_screens.proofs.ServingLemmas.{serving_changed, still_sits, cut_stays}
use Rattle.feed_screens.proofs.screens.Screens.make_seat.Goals as goal

pub returns-in-Some-clause-serving : goal.returns-in-Some-clause-serving
returns-in-Some-clause-serving c =
    λ nodes contest sockets serving.
    serving_changed c.in-Some.key c.leave.ensures.rest (still_sits contest (cut_stays nodes _ _ c.in-Some.key c.leave.ensures.seat)) serving

pub returns-in-Some-clause-seats : goal.returns-in-Some-clause-seats
returns-in-Some-clause-seats c =
    λ key not. c.leave.ensures.rest.others key (λ same. not (subst (HasSentEnd c.args.self.now.conns) (sym same) c.in-Some.ensures))
