use Rattle.std.proofs.Common.{ap, ◌∙◌}
use Rattle.std.proofs.lemmas.Result.{err_from_is_err_and}
use Rattle.feed_files.proofs.InputLemmas.{takes_so}
use Rattle.feed_live.proofs.InputLemmas.{takes_more, stops_more, shows_kept, honest_before, when_ok, no_ok}
use Rattle.feed_live.proofs.source.Source.feed_all.Goals as goal

pub returns-in_err-feed-clause-takes : goal.returns-in_err-feed-clause-takes
returns-in_err-feed-clause-takes c =
    λ limits log contest begun input sockets shows takes.
    let fed = c.feed.ensures.takes c.kept-kept.ensures.rest limits log contest begun input sockets (shows_kept limits log c.args.screens.now c.kept-kept.ensures.same shows)
    (takes_so (c.as_slice-bytes.ensures.value ∙ c.kept-kept.ensures.kept) (ap (λ a. a.shown.mirror) c.kept-kept.ensures.same.answers) takes) in
    (λ honest. fed.0 (honest_before limits log input c.args.piece.now honest), λ wrong. absurd (no_ok _ c.from_residual.result c.from_residual.ensures.1 wrong))

pub returns-clause-takes : goal.returns-clause-takes
returns-clause-takes c =
    λ limits log contest begun input sockets shows takes.
    let fed = c.in_ok-feed.ensures.takes c.kept-kept.ensures.rest limits log contest begun input sockets (shows_kept limits log c.args.screens.now c.kept-kept.ensures.same shows)
    (takes_so (c.as_slice-bytes.ensures.value ∙ c.kept-kept.ensures.kept) (ap (λ a. a.shown.mirror) c.kept-kept.ensures.same.answers) takes) in
    let all = c.feed_behind.ensures.takes limits log contest begun _ sockets (λ honest. fed.0 (honest_before limits log input c.args.piece.now honest)) (takes_more c.args.piece.now fed.1) in
    (all.0, λ ok. when_ok c.feed_behind.result ok all.1)

pub returns-in_err-feed-clause-stops : goal.returns-in_err-feed-clause-stops
returns-in_err-feed-clause-stops c =
    let e = err_from_is_err_and c.from_residual.result c.from_residual.ensures.1 in
    rw (e.1, e.2) (λ begun input takes.
    stops_more c.args.piece.now (c.in_err-feed.ensures.stops c.kept-kept.ensures.rest begun input
    (takes_so (c.as_slice-bytes.ensures.value ∙ c.kept-kept.ensures.kept) (ap (λ a. a.shown.mirror) c.kept-kept.ensures.same.answers) takes)))

pub returns-clause-stops : goal.returns-clause-stops
returns-clause-stops c =
    λ begun input takes.
    let fed = c.in_ok-feed.ensures.stops c.kept-kept.ensures.rest begun input
    (takes_so (c.as_slice-bytes.ensures.value ∙ c.kept-kept.ensures.kept) (ap (λ a. a.shown.mirror) c.kept-kept.ensures.same.answers) takes) in
    c.feed_behind.ensures.stops begun _ (takes_more c.args.piece.now fed)
