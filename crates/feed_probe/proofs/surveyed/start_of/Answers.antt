use Rattle.std.proofs.Common.{arith, ◌+◌, ◌-◌, ◌≡◌, length, subst}
use Rattle.feed_probe.proofs.SurveyedLemmas.{starts, more, begins, shorter}
use Rattle.feed_probe.specs.Surveyed.{StartsLine}
use Rattle.feed_probe.proofs.surveyed.start_of.Goals as goal

pub lines-init : goal.lines-init
lines-init c = (starts c.args.text.now, (c.requires, omega arith))

pub lines-preserved : goal.lines-preserved
lines-preserved c =
    let (unbroken, split) = c.in-Some.ensures.some in (
      more _ _ _ _ c.lines.at unbroken split c.lines.invariant.0,
      (omega arith, shorter _ _ _ _ split c.lines.invariant.1.1),
    )

pub returns-clause-starts : goal.returns-clause-starts
returns-clause-starts c =
    let same : c.lines.at ≡ c.args.number = omega (arith, c.lines.invariant.1.0) in
    subst (λ n. StartsLine c.args.text.now n (length c.args.text.now - length c.lines.rest.now)) same
    (begins c.args.text.now c.lines.rest.now c.lines.at _ (omega (arith, c.lines.invariant.1.1)) c.lines.invariant.0)
