use Rattle.std.proofs.Common.{rules}
use Rattle.std.proofs.lemmas.Result.{err_from_is_err_and}
use Rattle.std.proofs.lemmas.List.{nil_from_length}
use Rattle.keep_a_mirror.proofs.Coming.{none_yet, one_more, all_come, given_up, cut_in_two}
use Rattle.keep_a_mirror.proofs.follow.follow.Goals as goal

pub loop-rest-init : goal.loop-rest-init
loop-rest-init c = none_yet _ _ _ _ c.begin.ensures.stands c.begin.ensures.limits

pub loop-rest-preserved : goal.loop-rest-preserved
loop-rest-preserved c =
    let come = c.loop-rest.invariant in
    one_more _ _ _ c.loop-rest.rest.now _ _ c.loop-rest.mirror _ c.in_ok-feed.field-0 come
    (cut_in_two _ _ _ _ c.split_at.ensures.front c.split_at.ensures.back) (c.in_ok-feed.ensures.ok _ _ _ come.stands)

pub returns-in_err-feed-clause-err : goal.returns-in_err-feed-clause-err
returns-in_err-feed-clause-err c =
    let come = c.loop-rest.invariant in
    let p = err_from_is_err_and c.from_residual.result c.from_residual.ensures.1 in
    given_up c.args.mirror.now c.loop-rest.mirror c.split_at.result.0.now c.split_at.result.1.now c.loop-rest.rest.now c.args.connection.now c.in_err-feed.field-0.0 _
    c.feed.new.self c.from_residual.result come (cut_in_two _ _ _ _ c.split_at.ensures.front c.split_at.ensures.back) (c.in_err-feed.ensures.err _ _ _ come.stands) p.1 p.2

pub returns-clause-ok : goal.returns-clause-ok
returns-clause-ok c = all_come _ _ c.loop-rest.rest.now c.loop-rest.mirror _ c.loop-rest.invariant (nil_from_length _ (search rules)) c.cut.ensures
