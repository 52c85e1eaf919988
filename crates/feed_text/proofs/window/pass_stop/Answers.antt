use Rattle.std.proofs.Common.{arith, sym, subst, ap, Some, ◌∙◌}
use Rattle.feed_text.specs.Reading.{Foresees}
use Rattle.feed_text.proofs.Windows.{stop_inside, closing, foresees_closing}
use Rattle.feed_text.proofs.window.pass_stop.Goals as goal

pub bounds-seen-count : goal.bounds-seen-count
bounds-seen-count c = stop_inside c.args.seen.stops c.args.seen.text.now c.requires (omega (arith, c.if-seen-eq0.false))

pub returns-clause-text : goal.returns-clause-text
returns-clause-text c = ap Some c.behind-text.ensures ∙ closing c.args.seen.stops c.args.seen.text.now c.requires (omega (arith, c.if-seen-eq0.false)) c.if-seen-count-ne34.false

pub returns-clause-mask : goal.returns-clause-mask
returns-clause-mask c = subst (Foresees _) (sym c.behind-text.ensures) (foresees_closing _ c.args.seen.stops c.args.seen.text.now c.requires)
