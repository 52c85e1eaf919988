use Rattle.std.proofs.Common.{◌∙◌, ◌∷◌, [], codes, decimal}
use Rattle.std.proofs.lemmas.Result.{IfOk-weaker}
use Rattle.feed_commands.proofs.CheckLemmas.{joined}
use Rattle.feed_commands.proofs.commands.check.counts_line.Goals as goal

pub returns : goal.returns
returns c =
    let n = c.args.counts in
    IfOk-weaker c.format.result _ _ (λ s wrote. wrote
    ∙ joined (codes "lines ") (decimal n.lines) (codes " keepalives ") (decimal n.keepalives) (codes " notes ") (decimal n.notes)
    (codes " changes ") (decimal n.changes) (codes " tokens ") (decimal n.tokens) (codes " rest ") (decimal n.rest) (10 ∷ []))
    c.format.ensures.ok
