use Rattle.std.proofs.Common.{rules, ap, ap₂, ◌∙◌, ◌++◌, string_bytes}
use Rattle.std.proofs.lemmas.Result.{err_from_is_err_and}
use Rattle.feed_commands.proofs.InputLemmas.{count_fails, count_stops}
use Rattle.feed_commands.proofs.PlacingLemmas.{survey_counts}
use Rattle.feed_commands.proofs.CheckLemmas.{tells_counts, tells_findings}
use Rattle.feed_commands.proofs.commands.check.count_input.Goals.{then-options+in_ok-findings+in_ok-findings_lines+in_ok-push_str, else-options}
use Rattle.feed_commands.proofs.commands.check.count_input.Goals as goal

pub returns-in_err-bytes-clause-err : goal.returns-in_err-bytes-clause-err
returns-in_err-bytes-clause-err g c =
    let p = err_from_is_err_and c.from_residual.result c.from_residual.ensures.1 in
    rw (p.1, p.2) (count_fails _ _ c.args.options.verbose c.in_err-bytes.field-0.0 c.in_err-bytes.ensures.err)

pub returns-in_err-counts-clause-err : goal.returns-in_err-counts-clause-err
returns-in_err-counts-clause-err g c =
    let p = err_from_is_err_and c.from_residual-in_err-counts.result c.from_residual-in_err-counts.ensures.1 in
    rw (p.1, p.2) (survey_counts _ _ _ _ c.as_slice-bytes.result.now (search rules) c.in_err-counts.ensures.err)

pub returns-in_err-findings-clause-err : goal.returns-in_err-findings-clause-err
returns-in_err-findings-clause-err g c =
    let p = err_from_is_err_and c.from_residual-in_err-findings.result c.from_residual-in_err-findings.ensures.1 in
    rw (p.1, p.2) (count_stops _ _ c.args.options.verbose c.as_slice-bytes.result.now c.in_err-findings.field-0.0 (search rules) c.in_err-findings.ensures.err)

pub returns-clause-ok : goal.returns-clause-ok
returns-clause-ok g c =
    let bytes = c.as_slice-bytes.result.now in
    record {
      bytes = bytes;
      whole = search rules;
      tells = elim c.if-options.branch [
        | then-options+in_ok-findings+in_ok-findings_lines+in_ok-push_str w ↦
            tells_findings c.args.options bytes _ c.in_ok-counts.counts w.in_ok-findings.findings (search rules)
            c.in_ok-counts.ensures.ok (c.in_ok-counts.ensures.closes (search rules)) w.in_ok-findings.ensures.ok (ap string_bytes w.text-is ∙ w.in_ok-push_str.ensures.bytes
            ∙ ap₂ (λ a b. a ++ b) c.in_ok-text.ensures (w.as_str.ensures.value ∙ w.in_ok-findings_lines.ensures))
        | else-options w ↦ tells_counts c.args.options bytes _ c.in_ok-counts.counts (search rules) c.in_ok-counts.ensures.ok (ap string_bytes w.text-is ∙ c.in_ok-text.ensures)
      ];
    }
