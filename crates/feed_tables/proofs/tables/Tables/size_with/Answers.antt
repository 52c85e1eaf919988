use Rattle.std.proofs.Common.{sym, ap, ◌∙◌, min, ℕ}
use Rattle.feed_tables.specs.Map.{map_over, map_less}
use Rattle.feed_tables.proofs.Sizes.{size_is}
use Rattle.feed_tables.proofs.tables.Tables.size_with.Goals as goal

pub weigh_over-requires : goal.weigh_over-requires
weigh_over-requires c = c.self.invariant.0 ∙ ap (λ (n : ℕ). min n 18446744073709551615) (size_is c.self.inside.types)

pub returns : goal.returns
returns c =
    rw (← c.self.view_is)
    (c.weigh_over.ensures
    ∙ ap (λ (n : ℕ). min n 18446744073709551615) (sym (size_is (map_over c.args.tables.now (map_less c.args.gone.now c.self.inside.types)))))
