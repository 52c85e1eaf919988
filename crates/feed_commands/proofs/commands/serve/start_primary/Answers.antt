use Rattle.std.proofs.Common.{rules}
use Rattle.std.proofs.lemmas.Result.{err_from_is_err_and}
use Rattle.feed_commands.proofs.InputLemmas.{start_fails, start_stops}
use Rattle.feed_commands.proofs.ServeLemmas.{refused_at_start}
use Rattle.feed_commands.proofs.commands.serve.start_primary.Goals as goal

pub returns-in_err-feed-clause-err : goal.returns-in_err-feed-clause-err
returns-in_err-feed-clause-err g c =
    let p = err_from_is_err_and c.from_residual.result c.from_residual.ensures.1 in
    rw (p.1, p.2) (start_fails _ _ c.args.options.now.turn c.args.options.now.limits c.in_err-feed.field-0.0 c.in_err-feed.ensures.err)

pub returns-in_err-waiting-clause-err : goal.returns-in_err-waiting-clause-err
returns-in_err-waiting-clause-err g c =
    let p = err_from_is_err_and c.from_residual-in_err-waiting.result c.from_residual-in_err-waiting.ensures.1 in
    let (fault, is, stops) = c.in_err-waiting.ensures.err in
    rw (p.1, p.2, is) (start_stops _ _ c.args.options.now.turn c.args.options.now.limits c.as_slice.result.now fault (search rules) stops)

pub returns-in_err-commit_all-clause-err : goal.returns-in_err-commit_all-clause-err
returns-in_err-commit_all-clause-err g c =
    let (notes, read, all) = c.in_ok-waiting.ensures.ok in
    let p = err_from_is_err_and c.from_residual-in_err-commit_all.result c.from_residual-in_err-commit_all.ensures.1 in
    rw (p.1, p.2) (refused_at_start c.args.options.now.turn c.args.options.now.limits
    (g.R.FeedRead.remaining c.args.input.now) (g.R.FeedRead.remaining c.read_input.new.input)
    c.as_slice.result.now notes _ c.in_ok-waiting.waiting.items _
    c.in_err-commit_all.field-0.0 _ (search rules) (search rules) read c.in_ok-primary.ensures.ok all
    c.in_err-commit_all.ensures.err)
