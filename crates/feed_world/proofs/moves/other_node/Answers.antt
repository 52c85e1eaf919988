use Rattle.std.proofs.Common.{◌≡◌, sym, ap, ◌∙◌, arith, suc, ◌+◌, length, ◌∷◌, Some, ltb-true}
use Rattle.std.proofs.lemmas.Option.{slice_get-get_or}
use Rattle.feed_world.proofs.Moved.{found_before, found_there, shown_behind}
use Rattle.feed_world.proofs.moves.other_node.Goals as goal

pub returns-then-number-earlier-clause-some : goal.returns-then-number-earlier-clause-some
returns-then-number-earlier-clause-some c f = found_before c.args.primary.now c.args.earlier.now (f ∷ c.args.later.now) c.args.number c.node_among.result c.node_among.ensures

pub returns-then-number-earlier-clause-none : goal.returns-then-number-earlier-clause-none
returns-then-number-earlier-clause-none c = found_there c.args.primary.now c.args.earlier.now c.args.number _ c.node_among.result c.if-number-earlier.true c.node_among.ensures

pub returns-clause-some : goal.returns-clause-some
returns-clause-some c f =
    let one = c.in_ok-checked_sub.ensures in
    let two = c.in_ok-place.ensures in
    let same : c.args.number ≡ suc (suc (length c.args.earlier.now + c.in_ok-place.place)) = omega (arith, one, two) in
    shown_behind c.args.primary.now c.args.earlier.now c.args.later.now f c.in_ok-get.field-0.now c.in_ok-place.place c.args.number
    (slice_get-get_or c.args.later.now c.in_ok-place.place c.in_ok-get.field-0.now (ltb-true _ _ (sym c.in_ok-get.ensures.lookup.0)) ∙ ap Some (sym c.in_ok-get.ensures.lookup.1)) same
    ∙ ap Some (sym c.node.ensures)
