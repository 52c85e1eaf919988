use Rattle.std.proofs.Common.{sym}
use Rattle.feed_system.proofs.TallyLemmas.{counted_less, few_less, goes}
use Rattle.feed_system.proofs.tally.Tally.remove.Goals as goal

pub invariant_of-self : goal.invariant_of-self
invariant_of-self c =
    let going = goes c.in-Some.ensures.place (sym c.in-Some.ensures.is) in
    let old = c.args.self.now in
    record {
      counted = counted_less going c.count-count.result old.counts c.lower.new.counts c.count-count.ensures
          c.lower.ensures old.counted;
      few = few_less going old.most old.few;
    }
