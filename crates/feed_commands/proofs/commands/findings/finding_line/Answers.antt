use Rattle.std.proofs.Common.{◌∙◌}
use Rattle.std.proofs.lemmas.Result.{IfOk-weaker}
use Rattle.feed_commands.proofs.FindingsLemmas.{told}
use Rattle.feed_commands.proofs.commands.findings.finding_line.Goals as goal

pub returns-in-Some : goal.returns-in-Some
returns-in-Some c =
    let finding = c.args.finding in
    IfOk-weaker c.format-in-Some.result _ _ (λ s wrote. wrote ∙ told c.args.name.now finding.count c.in-Some.line finding.first c.in-Some.is) c.format-in-Some.ensures.ok
