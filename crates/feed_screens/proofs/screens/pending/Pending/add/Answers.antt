use Rattle.std.proofs.Common.{◌∙◌, sym, arith}
use Rattle.feed_screens.proofs.PendingLemmas.{counted_more}
use Rattle.feed_screens.proofs.screens.pending.Pending.add.Goals as goal

pub invariant_of-self-2 : goal.invariant_of-self-2
invariant_of-self-2 c = record { counted = counted_more c.args.id c.args.length c.args.self.now.texts.list.items c.add.new.self.list.items c.reach.new.places.items c.args.at c.in_ok-add.ensures.ok c.in_ok-reach.ensures.ok (c.reach.ensures.same c.args.at ∙ c.requires) (omega (arith, c.reach.new.places.ok, c.reach.new.places.small)) (λ id. c.args.self.now.counted id ∙ sym (c.reach.ensures.takers id)) }
