use Rattle.std.proofs.Common.{sym, subst, length, ◌-◌, ◌≤◌, ◌≡◌, drop, IfSome}
use Rattle.feed_text.specs.Reading.{Foresees}
use Rattle.feed_text.proofs.Windows.{foresees_behind}
use Rattle.feed_text.proofs.window.pass_to.Goals as goal

pub returns-clause-mask : goal.returns-clause-mask
returns-clause-mask c =
    let whole = c.args.seen.text.now in
    let here = subst (λ o. IfSome o (λ r. (length r.now ≤ length whole) × (r.now ≡ drop (length whole - length r.now) whole))) c.in-Some.is c.requires.rest in
    subst (Foresees _) (sym here.1) (foresees_behind _ c.args.seen.stops whole c.requires.mask)
