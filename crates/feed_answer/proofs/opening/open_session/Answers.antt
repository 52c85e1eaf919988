use Rattle.std.specs.Option.{option_copied}
use Rattle.feed_answer.proofs.OpeningLemmas.{opened_result}
use Rattle.feed_answer.proofs.opening.open_session.Goals as goal

pub returns-clause-ok : goal.returns-clause-ok
returns-clause-ok c =
    let e = c.open.ensures in
    opened_result c.args.node.now.shown c.args.back (option_copied c.args.since) (λ o. o.0)
    (λ o. o.1.items) c.open.result e.not_yet e.not_held e.snapshot e.held
