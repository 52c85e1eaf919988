use Rattle.std.proofs.Common.{◌≡◌, Some, None, true, false, refl, sym, ap, ◌∙◌}
use Rattle.std.specs.Option.{option_copied, is_some}
use Rattle.std.specs.FinMap.{get}
use Rattle.feed_tables.proofs.Layers.{held_new, held_gone, held_base}
use Rattle.feed_tables.proofs.Patching.{asked}
use Rattle.feed_tables.proofs.map.held_in.Goals as goal

pub returns-in-Some : goal.returns-in-Some
returns-in-Some g c =
    let k = c.args.name.now in
    let there : get c.args.items.now k ≡ Some c.in-Some.item.now = sym c.get.ensures ∙ ap option_copied c.in-Some.is in
    sym (held_new c.args.items.now c.args.gone.now c.args.held.now k c.in-Some.item.now there)

pub returns-then-is_some : goal.returns-then-is_some
returns-then-is_some g c =
    let k = c.args.name.now in
    let none : get c.args.items.now k ≡ None = sym c.get.ensures ∙ ap option_copied c.in-None.is in
    let away : is_some (get c.args.gone.now k) ≡ true = asked c.args.gone.now k k c.get-2.result _ refl c.get-2.ensures c.is_some.ensures ∙ c.if-is_some.true in
    sym (held_gone c.args.items.now c.args.gone.now c.args.held.now k none away)

pub returns : goal.returns
returns g c =
    let k = c.args.name.now in
    let none : get c.args.items.now k ≡ None = sym c.get.ensures ∙ ap option_copied c.in-None.is in
    let there : is_some (get c.args.gone.now k) ≡ false = asked c.args.gone.now k k c.get-2.result _ refl c.get-2.ensures c.is_some.ensures ∙ c.if-is_some.false in
    c.get-3.ensures ∙ sym (held_base c.args.items.now c.args.gone.now c.args.held.now k none there)
