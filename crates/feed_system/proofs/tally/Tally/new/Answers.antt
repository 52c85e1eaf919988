use Rattle.feed_system.proofs.TallyLemmas.{counted_nobody, few_nobody}
use Rattle.feed_system.proofs.tally.Tally.new.Goals as goal

pub invariant_of-result : goal.invariant_of-result
invariant_of-result c =
    let none = c.new.ensures.items in
    record {
      counted = counted_nobody c.new-2.result c.new.result.items c.new-2.ensures.empty none;
      few = few_nobody c.args.most c.new.result.items none;
    }
