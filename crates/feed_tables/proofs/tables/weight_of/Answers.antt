use Rattle.std.proofs.Common.{◌≡◌, Option, Some, None, min, sym, ap, ◌∙◌}
use Rattle.std.specs.Option.{option_copied}
use Rattle.std.specs.FinMap.{get}
use Rattle.feed_tables.specs.Walks.{weight}
use Rattle.feed_tables.specs.declared.table.Table.{Table}
use Rattle.feed_tables.proofs.tables.weight_of.Goals as goal

pub returns-in-Some : goal.returns-in-Some
returns-in-Some g c =
    let there : Some c.in-Some.table.now ≡ get c.args.types.now c.args.kind.now = sym (ap option_copied c.in-Some.is) ∙ c.get.ensures in
    c.weigh.ensures ∙ ap (λ (o : Option Table). min (weight (g.S.Scale.weight c.args.scale.now) c.args.kind.now o) 18446744073709551615) there

pub returns-in-None : goal.returns-in-None
returns-in-None g c =
    let none : None ≡ get c.args.types.now c.args.kind.now = sym (ap option_copied c.in-None.is) ∙ c.get.ensures in
    ap (λ (o : Option Table). min (weight (g.S.Scale.weight c.args.scale.now) c.args.kind.now o) 18446744073709551615) none
