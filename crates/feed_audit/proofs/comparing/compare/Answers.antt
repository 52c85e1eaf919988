use Rattle.std.proofs.Common.{◌≡◌, ◌∙◌, subst, inl, inr, arith}
use Rattle.std.proofs.lemmas.Result.{err_from_is_err_and}
use Rattle.feed_audit.specs.Records.{IsRecordVerdict, RecordAgrees}
use Rattle.feed_audit.proofs.GoingOn.{beside_on}
use Rattle.feed_audit.proofs.comparing.compare.Goals as goal

pub returns-in_err-audit_record-clause-err : goal.returns-in_err-audit_record-clause-err
returns-in_err-audit_record-clause-err g c text all is at =
    let e = err_from_is_err_and c.from_residual-in_err-audit_record.result c.from_residual-in_err-audit_record.ensures.1 in
    rw (e.1, e.2) (inl (c.in_err-audit_record.ensures.err text all (c.in_ok-sides.ensures.whole ∙ is) at (c.in_ok-sides.ensures.beside text is)))

pub returns-in-Agrees-eq0-clause-ok : goal.returns-in-Agrees-eq0-clause-ok
returns-in-Agrees-eq0-clause-ok g c text all is at =
    let none : c.in-Agrees-eq0.field-0 ≡ 0 = omega (arith, c.in-Agrees-eq0.field-0-test) in
    subst (RecordAgrees c.args.limits text all) none
    (subst (IsRecordVerdict c.args.limits text all) c.in-Agrees-eq0.is
    (c.in_ok-audit_record.ensures.ok text all (c.in_ok-sides.ensures.whole ∙ is) at (c.in_ok-sides.ensures.beside text is)))

pub returns-in_err-primary-in-Agrees-clause-err : goal.returns-in_err-primary-in-Agrees-clause-err
returns-in_err-primary-in-Agrees-clause-err g c text all is at =
    let e = err_from_is_err_and c.from_residual-in_err-primary-in-Agrees.result c.from_residual-in_err-primary-in-Agrees.ensures.1 in
    let whole = c.in_ok-sides.ensures.whole ∙ is in
    let begun = c.in_ok-sides.ensures.beside text is in
    let agrees = subst (IsRecordVerdict c.args.limits text all) c.in-Agrees.is (c.in_ok-audit_record.ensures.ok text all whole at begun) in
    let now = beside_on _ c.in-Agrees.states c.in-Agrees.is (c.in_ok-audit_record.ensures.beside text all whole at begun) in
    rw (e.1, e.2) (inr (c.in-Agrees.states, agrees, c.in_err-primary-in-Agrees.ensures.err text now.read))

pub returns-in-Agrees-clause-ok : goal.returns-in-Agrees-clause-ok
returns-in-Agrees-clause-ok g c text all is at =
    let whole = c.in_ok-sides.ensures.whole ∙ is in
    let begun = c.in_ok-sides.ensures.beside text is in
    let now = beside_on _ c.in-Agrees.states c.in-Agrees.is (c.in_ok-audit_record.ensures.beside text all whole at begun) in
    record {
      some = omega (arith, c.in-Agrees.states-is);
      agrees = subst (IsRecordVerdict c.args.limits text all) c.in-Agrees.is (c.in_ok-audit_record.ensures.ok text all whole at begun);
      has = c.in_ok-primary-in-Agrees.ensures.ok text now.read;
    }

pub returns-clause-ok : goal.returns-clause-ok
returns-clause-ok g c text all is at =
    subst (IsRecordVerdict c.args.limits text all) c.in-Strays.is
    (c.in_ok-audit_record.ensures.ok text all (c.in_ok-sides.ensures.whole ∙ is) at (c.in_ok-sides.ensures.beside text is))
