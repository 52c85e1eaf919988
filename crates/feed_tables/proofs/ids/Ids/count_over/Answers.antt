use Rattle.std.proofs.Common.{ap, ◌∙◌, sym, min, ℕ}
use Rattle.feed_tables.specs.ChangedIds.{over_ids}
use Rattle.feed_tables.proofs.ChangedSizes.{len_is}
use Rattle.feed_tables.proofs.ids.Ids.count_over.Goals as goal

pub weigh_over-requires : goal.weigh_over-requires
weigh_over-requires c = c.count.ensures ∙ ap (λ (n : ℕ). min n 18446744073709551615) (len_is c.args.objects.now)

pub returns : goal.returns
returns c = c.weigh_over.ensures ∙ ap (λ (n : ℕ). min n 18446744073709551615) (sym (len_is (over_ids c.args.objects.now c.args.self.now)))
