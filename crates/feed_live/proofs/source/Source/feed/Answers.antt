use Rattle.std.proofs.Common.{refl, ap, ◌∙◌, ◌++◌}
use Rattle.std.proofs.lemmas.Result.{err_from_is_err_and}
use Rattle.feed_files.proofs.InputLemmas.{takes_so}
use Rattle.feed_live.proofs.InputLemmas.{none_ok}
use Rattle.feed_live.proofs.source.Source.feed.Goals as goal

pub returns-in_err-feed_line-clause-takes : goal.returns-in_err-feed_line-clause-takes
returns-in_err-feed_line-clause-takes c =
    λ none limits log contest begun input sockets shows takes.
    let here = c.loop.invariant.takes limits log contest begun input sockets shows takes in
    let fed = c.feed_line.ensures.takes c.line_or_part.result.1.now limits log contest begun input sockets here.0 (takes_so c.line_or_part.ensures.whole refl here.1) in
    (fed.0, none_ok _ _ c.from_residual.result c.from_residual.ensures.1)

pub returns-in_err-feed_line-clause-stops : goal.returns-in_err-feed_line-clause-stops
returns-in_err-feed_line-clause-stops c =
    λ none.
    let e = err_from_is_err_and c.from_residual.result c.from_residual.ensures.1 in
    rw (e.1, e.2) (λ begun input takes.
    c.in_err-feed_line.ensures.stops c.line_or_part.result.1.now begun input (takes_so c.line_or_part.ensures.whole refl (c.loop.invariant.goes_on begun input takes)))

pub loop-preserved : goal.loop-preserved
loop-preserved c =
    record {
      servers = c.feed_line.ensures.servers ∙ c.loop.invariant.servers;
      rest = c.feed_line.ensures.rest ∙ c.loop.invariant.rest;
      takes = λ limits log contest begun input sockets shows takes.
          let here = c.loop.invariant.takes limits log contest begun input sockets shows takes in
          c.in_ok-feed_line.ensures.takes c.line_or_part.result.1.now limits log contest begun input sockets here.0 (takes_so c.line_or_part.ensures.whole refl here.1);
      goes_on = λ begun input takes.
          c.in_ok-feed_line.ensures.stops c.line_or_part.result.1.now begun input (takes_so c.line_or_part.ensures.whole refl (c.loop.invariant.goes_on begun input takes));
    }

pub returns-clause-takes : goal.returns-clause-takes
returns-clause-takes c =
    λ none limits log contest begun input sockets shows takes.
    let here = c.loop.invariant.takes limits log contest begun input sockets shows takes in
    c.keep_input.ensures.takes c.loop.screens limits log contest begun input sockets here.0
    (takes_so (ap (λ r. r ++ c.loop.rest.now) (c.loop.invariant.rest ∙ none)) refl here.1)

pub returns-clause-stops : goal.returns-clause-stops
returns-clause-stops c =
    λ none begun input takes.
    c.keep_input.ensures.stops begun input (takes_so (ap (λ r. r ++ c.loop.rest.now) (c.loop.invariant.rest ∙ none)) refl (c.loop.invariant.goes_on begun input takes))
