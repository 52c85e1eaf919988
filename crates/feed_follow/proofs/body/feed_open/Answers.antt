use Rattle.std.proofs.lemmas.Result.{err_from_is_err_and}
use Rattle.feed_follow.proofs.BodyLemmas.{open_goes_on, open_stops}
use Rattle.feed_follow.proofs.body.feed_open.Goals as goal

pub returns-in_err-feed_payload-clause-err : goal.returns-in_err-feed_payload-clause-err
returns-in_err-feed_payload-clause-err c =
    let p = err_from_is_err_and c.from_residual.result c.from_residual.ensures.1 in
    rw (p.1, p.2)
    (open_stops c.args.piece.now c.args.mirror.now c.feed_payload.new.mirror
    c.in_err-feed_payload.field-0.0 c.in_err-feed_payload.ensures.err)

pub returns-clause-ok : goal.returns-clause-ok
returns-clause-ok c =
    open_goes_on c.args.piece.now c.args.mirror.now c.feed_payload.new.mirror
    c.in_ok-feed_payload.ensures.ok
