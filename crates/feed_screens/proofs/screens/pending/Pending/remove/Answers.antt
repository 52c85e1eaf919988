use Rattle.std.proofs.Common.{◌∙◌, sym}
use Rattle.feed_screens.proofs.PendingLemmas.{counted_less}
use Rattle.feed_screens.proofs.screens.pending.Pending.remove.Goals as goal

pub invariant_of-self : goal.invariant_of-self
invariant_of-self c = record { counted = counted_less c.in-Some.id c.args.self.now.texts.list.items c.remove.new.self.list.items c.args.self.now.places.items c.args.at c.remove.ensures c.in-Some.ensures.place (sym c.text.ensures.is ∙ c.in-Some.is) c.args.self.now.counted }
