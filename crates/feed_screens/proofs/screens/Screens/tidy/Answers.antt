use Rattle.std.proofs.Common.{◌≡◌, ap, arith}
use Rattle.feed_hub.specs.Seats.{seat_at}
use Rattle.feed_screens.proofs.ServingLemmas.{serving_on, still_sits, same_stays}
use Rattle.feed_screens.proofs.screens.Screens.tidy.Goals as goal

pub returns-clause-serving : goal.returns-clause-serving
returns-clause-serving c =
    λ nodes contest sockets serving.
    let next : c.tidy.new.self.seats.next ≡ c.args.self.now.hub.seats.next = ap (λ s. s.next) c.tidy.ensures.seats in
    serving_on (λ key. still_sits contest (same_stays nodes _ _ key (ap (λ s. seat_at s.slab key) c.tidy.ensures.seats) c.tidy.ensures.broadcast))
    (omega (arith, next)) serving
