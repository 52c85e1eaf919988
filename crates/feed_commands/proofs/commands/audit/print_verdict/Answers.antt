use Rattle.std.proofs.Common.{◌∙◌, subst}
use Rattle.std.proofs.lemmas.Result.{err_from_is_err_and}
use Rattle.feed_audit.specs.Records.{IsComparison}
use Rattle.feed_commands.proofs.AuditLemmas.{compare_fails, stray_prefix, stray_fails, agreement_printed, agreement_prefix}
use Rattle.feed_commands.proofs.commands.audit.print_verdict.Goals as goal

pub returns-in_err-compare-clause-err : goal.returns-in_err-compare-clause-err
returns-in_err-compare-clause-err g c text all is at =
    let p = err_from_is_err_and c.from_residual.result c.from_residual.ensures.1 in
    rw (p.1, p.2) (compare_fails c.args.options.now text all _ c.in_err-compare.field-0.0 (c.in_err-compare.ensures.err text all is at))

pub returns-in_ok-text-in-Agrees-clause-ok : goal.returns-in_ok-text-in-Agrees-clause-ok
returns-in_ok-text-in-Agrees-clause-ok g c text all is at =
    let both = subst (IsComparison c.args.options.now.limits text all) c.in-Agrees.is (c.in_ok-compare.ensures.ok text all is at) in
    agreement_printed c.args.options.now text all _ _ c.print_text.result c.as_slice.result.now
    (record {
      states = c.in-Agrees.states;
      some = both.some;
      agrees = both.agrees;
      all = c.in-Agrees.all;
      has = both.has;
      text_is = c.as_slice.ensures.value ∙ c.in_ok-text-in-Agrees.ensures;
    })
    c.print_text.ensures.ok

pub returns-in_ok-text-in-Agrees-clause-err : goal.returns-in_ok-text-in-Agrees-clause-err
returns-in_ok-text-in-Agrees-clause-err g c text all is at =
    let both = subst (IsComparison c.args.options.now.limits text all) c.in-Agrees.is (c.in_ok-compare.ensures.ok text all is at) in
    agreement_prefix c.args.options.now text all _ _ c.print_text.result c.as_slice.result.now
    (record {
      states = c.in-Agrees.states;
      some = both.some;
      agrees = both.agrees;
      all = c.in-Agrees.all;
      has = both.has;
      text_is = c.as_slice.ensures.value ∙ c.in_ok-text-in-Agrees.ensures;
    })
    c.print_text.ensures.write c.print_text.ensures.err

pub returns-in_ok-print_text-in-Strays-clause-err : goal.returns-in_ok-print_text-in-Strays-clause-err
returns-in_ok-print_text-in-Strays-clause-err g c text all is at =
    stray_fails c.args.options.now text all _ _ c.fault_of.result c.in-Strays.stray c.as_slice-in-Strays.result.now c.fault_of.ensures
    (subst (IsComparison c.args.options.now.limits text all) c.in-Strays.is (c.in_ok-compare.ensures.ok text all is at))
    (c.as_slice-in-Strays.ensures.value ∙ c.in_ok-text-in-Strays.ensures) c.in_ok-print_text-in-Strays.ensures.ok

pub returns-in_err-print_text-in-Strays-clause-err : goal.returns-in_err-print_text-in-Strays-clause-err
returns-in_err-print_text-in-Strays-clause-err g c text all is at =
    let failed = c.in_err-print_text-in-Strays in
    let p = err_from_is_err_and c.from_residual-in_err-print_text-in-Strays.result c.from_residual-in_err-print_text-in-Strays.ensures.1 in
    rw (p.1, p.2) (stray_prefix c.args.options.now text all _ _ failed.field-0.0 c.in-Strays.stray c.as_slice-in-Strays.result.now
    failed.ensures.write (subst (IsComparison c.args.options.now.limits text all) c.in-Strays.is (c.in_ok-compare.ensures.ok text all is at))
    (c.as_slice-in-Strays.ensures.value ∙ c.in_ok-text-in-Strays.ensures) failed.ensures.err)
