use Rattle.std.proofs.Common.{ap, [], length, take, drop, refl, sym, subst, arith, inl, inr, take-append-drop, append-nil, rules, length-drop}
use Rattle.std.proofs.lemmas.List.{take_all}
use Rattle.std.proofs.Math.Seq.{take-add}
use Rattle.std.proofs.lemmas.Result.{err_from_is_err_and}
use Rattle.feed_follow.specs.Feeding.{FeedsChunks, StopsInChunks}
use Rattle.feed_follow.proofs.BodyLemmas.{feeds_nothing, feeds_both, stops_behind, to_the_end}
use Rattle.feed_follow.proofs.body.feed_chunks.Goals as goal

pub chunks-init : goal.chunks-init
chunks-init c = record {
  within = omega arith;
  place = c.requires;
  feeds = feeds_nothing c.args.from c.args.mirror.now;
  limits = refl;
}

pub chunks-preserved : goal.chunks-preserved
chunks-preserved c =
    let read = c.chunks.read in
    let piece = c.args.piece.now in
    let len = c.in_ok-to.len in
    let few = c.in_ok-to.ensures.within in
    let next = subst (λ t. FeedsChunks c.chunks.at (take len t) c.chunks.mirror c.in_ok-to.to
    c.feed_chunk.new.mirror) (to_the_end read piece) c.in_ok-to.ensures.ok in
    record {
      within = omega (arith, length-drop read piece, ap length (to_the_end read piece), few);
      place = c.in_ok-to.ensures.place;
      feeds = subst (λ t. FeedsChunks c.args.from t c.args.mirror.now c.in_ok-to.to
          c.feed_chunk.new.mirror) (sym (take-add read len piece))
          (feeds_both c.args.from c.chunks.at c.in_ok-to.to (take read piece)
          (take len (drop read piece)) c.args.mirror.now c.chunks.mirror c.feed_chunk.new.mirror
          c.chunks.invariant.feeds next);
      limits = cc (c.in_ok-to.ensures.limits);
    }

pub returns-then-matches-clause-ok : goal.returns-then-matches-clause-ok
returns-then-matches-clause-ok c = record {
  prefix = take c.chunks.read c.args.piece.now;
  ignored = drop c.chunks.read c.args.piece.now;
  split = sym (take-append-drop c.chunks.read c.args.piece.now);
  feeds = c.chunks.invariant.feeds;
  to_end = inr (search rules);
}

pub returns-clause-ok : goal.returns-clause-ok
returns-clause-ok c = record {
  prefix = c.args.piece.now;
  ignored = [];
  split = sym (append-nil c.args.piece.now);
  feeds = subst (λ t. FeedsChunks c.args.from t c.args.mirror.now c.chunks.at c.chunks.mirror)
      (take_all c.chunks.read c.args.piece.now (omega arith)) c.chunks.invariant.feeds;
  to_end = inl refl;
}

pub returns-in_err-to-clause-err : goal.returns-in_err-to-clause-err
returns-in_err-to-clause-err c =
    let p = err_from_is_err_and c.from_residual.result c.from_residual.ensures.1 in
    let read = c.chunks.read in
    let piece = c.args.piece.now in
    let fault = c.in_err-to.field-0.0 in
    let stops = subst (λ t. StopsInChunks c.chunks.at t c.chunks.mirror c.feed_chunk.new.mirror
    fault) (to_the_end read piece) c.in_err-to.ensures.err in
    rw (p.1, p.2)
    (subst (λ t. StopsInChunks c.args.from t c.args.mirror.now c.feed_chunk.new.mirror
    c.in_err-to.field-0.0) (take-append-drop read piece)
    (stops_behind c.args.from c.chunks.at (take read piece) (drop read piece) c.args.mirror.now
    c.chunks.mirror c.feed_chunk.new.mirror c.in_err-to.field-0.0 c.chunks.invariant.feeds
    stops))
