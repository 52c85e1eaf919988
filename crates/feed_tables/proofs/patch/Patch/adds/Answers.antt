use Rattle.std.proofs.Common.{sym, ap, ◌∙◌, min, ℕ}
use Rattle.std.specs.FinMap.{len}
use Rattle.feed_tables.specs.Tables.{Contents}
use Rattle.feed_tables.proofs.Changing.{len-changed_less}
use Rattle.feed_tables.proofs.Patching.{over_of, added_are}
use Rattle.feed_tables.proofs.patch.Patch.adds.Goals as goal

pub returns : goal.returns
returns c =
    let p = c.args.self.now in
    let base = c.args.base.now.contents in
    rw (← c.types.ensures) c.count_besides.ensures
    ∙ ap (λ (m : Contents). min (len m) 18446744073709551615) (sym (added_are base p.gone p.tables))
    ∙ ap (λ (n : ℕ). min n 18446744073709551615) (sym (len-changed_less base p.ids (over_of base p.gone p.tables)))
