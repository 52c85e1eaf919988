use Rattle.std.proofs.Common.{rules, ◌+◌, ◌<◌, length, refl, subst, sym, arith}
use Rattle.std.proofs.lemmas.Bool.{false≢true}
use Rattle.feed_text.specs.Nesting.{NestsTo}
use Rattle.feed_text.proofs.Places.{places, is_inside, is_escaped}
use Rattle.feed_text.proofs.Advancing.{advance_opened, advance_closed, advance_inside, advance_escaped, none_below, more_below}
use Rattle.feed_text.proofs.Prefixes.{nests_to_nothing, nests_from_level, shallow_below}
use Rattle.feed_text.proofs.nesting.nests_to.Goals as goal

pub returns-then-level-eq0 : goal.returns-then-level-eq0
returns-then-level-eq0 c = (λ _. subst (NestsTo c.args.text.now) (sym c.if-level-eq0.true) (nests_to_nothing c.args.text.now), λ _. search rules)

pub loop-i-init : goal.loop-i-init
unfolding places is_inside is_escaped
loop-i-init c = record { opened = refl; closed = refl; inside = refl; escaped = refl; few_opened = omega arith; few_closed = omega arith; below = none_below c.args.text.now c.args.level (omega arith) }

pub returns-then-saturating_sub-level : goal.returns-then-saturating_sub-level
returns-then-saturating_sub-level c =
    let lt : c.loop-i.i < length c.args.text.now = omega arith in
    let opened = advance_opened c.args.text.now c.loop-i.i c.loop-i.opened c.count-opened.result c.loop-i.inside lt c.loop-i.invariant.opened c.loop-i.invariant.inside (cc) in
    let closed = advance_closed c.args.text.now c.loop-i.i c.loop-i.closed c.count-closed.result c.loop-i.inside lt c.loop-i.invariant.closed c.loop-i.invariant.inside (cc) in
    (λ _. nests_from_level c.args.text.now c.args.level (c.loop-i.i + 1, omega arith, omega (arith, opened, closed)), λ _. search rules)

pub loop-i-preserved : goal.loop-i-preserved
loop-i-preserved c =
    let lt : c.loop-i.i < length c.args.text.now = omega arith in
    let opened = advance_opened c.args.text.now c.loop-i.i c.loop-i.opened c.count-opened.result c.loop-i.inside lt c.loop-i.invariant.opened c.loop-i.invariant.inside (cc) in
    let closed = advance_closed c.args.text.now c.loop-i.i c.loop-i.closed c.count-closed.result c.loop-i.inside lt c.loop-i.invariant.closed c.loop-i.invariant.inside (cc) in
    record {
      opened = opened;
      closed = closed;
      inside = advance_inside c.args.text.now c.loop-i.i c.loop-i.inside c.loop-i.escaped c.is_inside_after-inside.result lt c.loop-i.invariant.inside c.loop-i.invariant.escaped c.is_inside_after-inside.ensures;
      escaped = advance_escaped c.args.text.now c.loop-i.i c.loop-i.escaped c.is_escaped_after-escaped.result lt c.loop-i.invariant.escaped c.is_escaped_after-escaped.ensures;
      few_opened = omega (arith, c.count-opened.ensures.small);
      few_closed = omega (arith, c.count-closed.ensures.small);
      below = more_below c.args.text.now c.args.level c.loop-i.i c.loop-i.invariant.below (omega (arith, opened, closed));
    }

pub returns : goal.returns
returns c = (λ t. absurd (false≢true t), λ nests. absurd (shallow_below c.args.text.now c.args.level c.loop-i.i (omega arith) c.loop-i.invariant.below nests))
