use Rattle.std.proofs.Common.{subst}
use Rattle.std.proofs.lemmas.Result.{err_from_is_err_and}
use Rattle.feed_follow.specs.Feeding.{FeedsToEnd}
use Rattle.feed_follow.proofs.BodyLemmas.{chunks_end, chunks_go_on, chunks_stop}
use Rattle.feed_follow.proofs.body.feed_chunked.Goals as goal

pub returns-in_err-to-clause-err : goal.returns-in_err-to-clause-err
returns-in_err-to-clause-err c =
    let p = err_from_is_err_and c.from_residual.result c.from_residual.ensures.1 in
    rw (p.1, p.2)
    (chunks_stop c.args.at c.args.piece.now c.args.mirror.now c.feed_chunks.new.mirror
    c.in_err-to.field-0.0 c.in_err-to.ensures.err)

pub returns-in-Whole-clause-ok : goal.returns-in-Whole-clause-ok
returns-in-Whole-clause-ok c =
    let new = c.feed_chunks.new.mirror in
    chunks_end c.args.at c.args.piece.now c.args.mirror.now new
    (subst (λ to. FeedsToEnd c.args.at c.args.piece.now c.args.mirror.now to new) c.in-Whole.is
    c.in_ok-to.ensures.ok)

pub returns-in_default-clause-ok : goal.returns-in_default-clause-ok
returns-in_default-clause-ok c =
    chunks_go_on c.args.at c.in_ok-to.to c.args.piece.now c.args.mirror.now
    c.feed_chunks.new.mirror c.in_default.not-Whole c.in_ok-to.ensures.ok
