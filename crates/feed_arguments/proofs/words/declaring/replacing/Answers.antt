use Rattle.std.proofs.lemmas.Result.{IfOk-weaker}
use Rattle.feed_arguments.proofs.DeclaringLemmas.{excludes_more}
use Rattle.feed_arguments.proofs.words.declaring.replacing.Goals as goal

pub returns : goal.returns
returns c =
    IfOk-weaker c.conflicts_with_all.result _ _
    (λ r adds. excludes_more c.args.option c.in_ok-option.option r c.args.first c.args.others.now
    c.in_ok-option.ensures adds)
    c.conflicts_with_all.ensures
