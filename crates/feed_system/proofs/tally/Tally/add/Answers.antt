use Rattle.std.proofs.Common.{◌∙◌, sym, arith}
use Rattle.feed_system.proofs.TallyLemmas.{comes, counted_more, few_more}
use Rattle.feed_system.proofs.tally.Tally.add.Goals as goal

pub invariant_of-self-2 : goal.invariant_of-self-2
invariant_of-self-2 c =
    let reached = c.in_ok-reach.ensures in
    let coming = comes {k = c.args.owner} reached.ok (reached.same c.args.at ∙ c.remove.ensures.none) in
    let left = c.remove.new.self in
    let held = reached.holders c.args.owner in
    let fewer = c.remove.ensures.fewer c.args.owner in
    record {
      counted = counted_more coming c.count.result c.saturating_add-count.result left.counts c.insert.new.self
          (c.count.ensures ∙ sym held) c.saturating_add-count.ensures
          (omega (arith, c.reach.new.owners.ok, c.reach.new.owners.small)) c.in_ok-insert.ensures.updates
          (λ q. left.counted q ∙ sym (reached.holders q));
      few = few_more coming left.most (omega (arith, c.requires, held, fewer, c.remove.ensures.most))
          (λ q. let so = left.few q in let is = reached.holders q in omega (arith, so, is));
    }
