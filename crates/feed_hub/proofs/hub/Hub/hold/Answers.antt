use Rattle.std.proofs.Common.{◌∙◌, ap}
use Rattle.feed_hub.specs.Seats.{seat_at}
use Rattle.feed_hub.proofs.HubLemmas.{held_at}
use Rattle.feed_hub.proofs.hub.Hub.hold.Goals as goal

pub returns-clause-held : goal.returns-clause-held
returns-clause-held c =
    held_at c.args.until c.args.piece.now c.in_ok-taken.taken c.in-Some.asking c.wait_until.new.self
    (seat_at c.args.self.now.seats.slab c.args.key) (seat_at c.put_back.new.self.slab c.args.key)
    c.in-Some.ensures.asking c.put_back.ensures.changes.changed c.in_ok-taken.ensures.takes
    (ap (λ h. h.items) c.wait_until.ensures.head ∙ c.in_ok-taken.ensures.taken) c.wait_until.ensures.until
