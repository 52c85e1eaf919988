use Rattle.std.proofs.Common.{rules, subst, ◌∙◌}
use Rattle.std.specs.Prelude.{IfErr}
use Rattle.std.proofs.lemmas.Result.{IfOk-weaker, err_from_is_err_and}
use Rattle.feed_audit.specs.Answers.{IsVerdictOn, FailsFrom, begun_by}
use Rattle.feed_audit.specs.States.{afresh}
use Rattle.feed_audit.proofs.GoingOn.{verdict_of}
use Rattle.feed_audit.proofs.Missing.{unread_fails}
use Rattle.feed_audit.proofs.auditing.audit.Goals as goal

pub returns-in_err-sides-clause-err : goal.returns-in_err-sides-clause-err
returns-in_err-sides-clause-err c =
    let e = err_from_is_err_and c.from_residual.result c.from_residual.ensures.1 in
    rw (e.1, e.2) (unread_fails (afresh c.args.limits) c.args.primary.now c.args.screen.now _ c.in_err-sides.ensures.err)

pub returns-clause-ok : goal.returns-clause-ok
returns-clause-ok c =
    IfOk-weaker c.audit_on.result _ _ (λ v h. verdict_of (afresh c.args.limits) c.args.primary.now c.args.screen.now _ v
    (subst (λ m. IsVerdictOn (begun_by c.args.limits m) c.args.primary.now c.args.screen.now v c.audit_on.new.sides.theirs) c.in_ok-sides.ensures.theirs h))
    (c.audit_on.ensures.ok c.args.primary.now c.args.screen.now (c.begin.ensures.whole ∙ (search rules)) (search rules)
    (c.in_ok-sides.ensures.beside c.args.primary.now (search rules)))

pub returns-clause-err : goal.returns-clause-err
returns-clause-err c =
    subst (λ m. IfErr c.audit_on.result (λ why. FailsFrom (begun_by c.args.limits m) c.args.primary.now c.args.screen.now why)) c.in_ok-sides.ensures.theirs
    (c.audit_on.ensures.err c.args.primary.now c.args.screen.now (c.begin.ensures.whole ∙ (search rules)) (search rules)
    (c.in_ok-sides.ensures.beside c.args.primary.now (search rules)))
