use Rattle.std.proofs.Common.{◌≡◌, ◌+◌, ◌≤◌, Some, arith}
use Rattle.slab.specs.Slab.{slab_len}
use Rattle.feed_hub.specs.declared.seats.Seat.TheVariants.{Watches}
use Rattle.feed_hub.proofs.HubLemmas.{fine_at, changed_on, kept_fine}
use Rattle.feed_hub.proofs.SeatLemmas.{out_and_in}
use Rattle.feed_hub.proofs.hub.Hub.probe.Goals as goal

pub invariant_of-self-in-Some : goal.invariant_of-self-in-Some
invariant_of-self-in-Some c =
    let b = c.args.self.now.broadcast in
    let here = c.in-Some.ensures.screen in
    let less : slab_len c.take_screen.new.self.slab + 1 ≡ slab_len c.args.self.now.seats.slab = c.in-Some.ensures.len in
    let more : slab_len c.put_back.new.self.slab ≡ slab_len c.take_screen.new.self.slab + 1 = c.put_back.ensures.len in
    let few : slab_len c.args.self.now.seats.slab ≤ c.args.self.now.most = c.args.self.now.few in
    record {
      on = changed_on b.framing b.told b.log c.args.self.now.seats.slab c.put_back.new.self.slab c.args.key c.args.self.now.on (Watches c.probe.new.self)
          (out_and_in c.args.self.now.seats.slab c.take_screen.new.self.slab c.put_back.new.self.slab c.args.key (Some (Watches c.probe.new.self))
          c.in-Some.ensures.changes c.put_back.ensures.changes)
          (kept_fine b.framing b.told b.log c.in-Some.screen (fine_at b.framing b.told b.log c.args.self.now.seats.slab c.args.key c.in-Some.screen c.args.self.now.on here) c.probe.new.self c.probe.ensures.way c.probe.ensures.framing);
      few = omega arith;
    }
