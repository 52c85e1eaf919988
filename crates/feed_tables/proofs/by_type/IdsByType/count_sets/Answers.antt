use Rattle.std.proofs.Common.{◌≡◌, sym, ap, ◌∙◌, arith}
use Rattle.std.specs.FinMap.{entries}
use Rattle.feed_tables.specs.ChangedIds.{ids_by_type, sets_in}
use Rattle.feed_tables.proofs.ByType.{Changed, alone, entries_alone}
use Rattle.feed_tables.proofs.by_type.IdsByType.count_sets.Goals as goal

pub returns-in-Alone : goal.returns-in-Alone
returns-in-Alone c =
    let held : alone c.in-Alone.field-0 c.in-Alone.ids ≡ c.args.self.now = ap ids_by_type (sym c.in-Alone.is) ∙ c.self.view_is in
    omega (arith, c.count_sets.ensures, ap sets_in (entries_alone c.in-Alone.field-0 c.in-Alone.ids), ap (λ (m : Changed). sets_in (entries m)) held)
