use Rattle.std.proofs.Common.{rules, sym, ◌∙◌}
use Rattle.std.proofs.lemmas.Result.{IfOk-weaker, IfErr-weaker, err_from_is_err_and}
use Rattle.feed_audit.specs.Reaching.{recorded_of}
use Rattle.feed_audit.proofs.GoingOn.{feed_part, feed_verdict, feed_fails, can_not_go_on, in_chunks, unread_part}
use Rattle.feed_audit.proofs.record.audit_connection.Goals as goal

pub returns-in_err-look_for_chunks-clause-err : goal.returns-in_err-look_for_chunks-clause-err
returns-in_err-look_for_chunks-clause-err g c text body is at beside before =
    let e = err_from_is_err_and c.from_residual.result c.from_residual.ensures.1 in
    rw (e.1, e.2) (unread_part c.args.limits text c.args.sides.now.theirs (recorded_of before c.args.opened.now body) _ c.in_err-look_for_chunks.ensures.err)

pub returns-then-branch-clause-err : goal.returns-then-branch-clause-err
returns-then-branch-clause-err g c text body is at beside before =
    in_chunks c.args.limits text c.args.sides.now.theirs (recorded_of before c.args.opened.now body) (sym (c.in_ok-look_for_chunks.ensures.chunked body at) ∙ c.if-branch.true)

pub returns-in_err-choose-clause-err : goal.returns-in_err-choose-clause-err
returns-in_err-choose-clause-err g c text body is at beside before =
    let e = err_from_is_err_and c.from_residual-in_err-choose.result c.from_residual-in_err-choose.ensures.1 in
    rw (e.1, e.2) (can_not_go_on c.args.limits text c.args.sides.now.theirs (recorded_of before c.args.opened.now body) _ c.in_err-choose.ensures.err)

pub returns-clause-ok : goal.returns-clause-ok
returns-clause-ok g c text body is at beside before =
    let part = recorded_of before c.args.opened.now body in
    IfOk-weaker c.audit_on.result _ _
    (λ v h. feed_part c.args.limits text c.args.opened.now.is_feed c.args.sides.now.theirs c.audit_on.new.sides.theirs part v (search rules)
    (feed_verdict c.args.limits text c.args.sides.now.theirs c.choose.new.sides.theirs part c.in_ok-choose.ensures.opening c.in_ok-choose.ensures.may c.audit_on.new.sides.theirs v h))
    (c.audit_on.ensures.ok text body is (c.in_ok-look_for_chunks.ensures.left body at)
    (c.in_ok-choose.ensures.beside text _ beside))

pub returns-clause-err : goal.returns-clause-err
returns-clause-err g c text body is at beside before =
    let part = recorded_of before c.args.opened.now body in
    IfErr-weaker c.audit_on.result _ _
    (λ why f. feed_fails c.args.limits text c.args.sides.now.theirs c.choose.new.sides.theirs part c.in_ok-choose.ensures.opening c.in_ok-choose.ensures.may why f)
    (c.audit_on.ensures.err text body is (c.in_ok-look_for_chunks.ensures.left body at)
    (c.in_ok-choose.ensures.beside text _ beside))

pub returns-clause-beyond : goal.returns-clause-beyond
returns-clause-beyond g c text body is at beside end e =
    c.audit_on.ensures.beyond text body is (c.in_ok-look_for_chunks.ensures.left body at)
    (c.in_ok-choose.ensures.beside text _ beside) end (c.in_ok-look_for_chunks.ensures.beyond end e)

pub returns-clause-beside : goal.returns-clause-beside
returns-clause-beside g c text body is at beside =
    c.audit_on.ensures.beside text body is (c.in_ok-look_for_chunks.ensures.left body at) (c.in_ok-choose.ensures.beside text _ beside)
