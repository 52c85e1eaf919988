use Rattle.std.proofs.Common.{◌++◌, ◌∙◌, refl}
use Rattle.std.proofs.KnownBytes.{Appends-trans}
use Rattle.std.proofs.lemmas.Result.{err_from_is_err_and}
use Rattle.feed_wire.specs.Framed.{frame_end}
use Rattle.feed_answer.specs.Served.{farewell}
use Rattle.feed_http.specs.Serving.{commit_frames}
use Rattle.feed_http.proofs.ServingLemmas.{all_sent, wrote_part, wrote_to_end}
use Rattle.feed_http.proofs.WritingLemmas.{passed}
use Rattle.feed_http.proofs.serving.send_session.Goals as goal

pub returns-in_err-commits : goal.returns-in_err-commits
returns-in_err-commits g c =
    let p = err_from_is_err_and c.from_residual.result c.from_residual.ensures.1 in
    passed _ p.1 p.2 refl refl
    (λ part. wrote_part c.args.node.now.shown c.args.session c.args.framing _ _ c.send_commits.ensures.consistent part)
    (λ why none. none) c.in_err-commits.ensures.sent

pub returns-in_err-send_farewell : goal.returns-in_err-send_farewell
returns-in_err-send_farewell g c =
    let (all, quiet) = c.in_ok-commits.ensures.sent in
    let (sent, run, has, count, wrote) = all in
    let p = err_from_is_err_and c.from_residual-in_err-send_farewell.result c.from_residual-in_err-send_farewell.ensures.1 in
    passed _ p.1 p.2 quiet refl
    (λ prefix. wrote_to_end c.args.node.now.shown c.args.session sent c.in_ok-commits.gone c.args.framing _ _ _ (all_sent c.args.node.now.shown c.args.session _ sent c.in_ok-commits.gone run has) wrote prefix)
    (λ why none. none) c.in_err-send_farewell.ensures

pub returns : goal.returns
returns g c =
    let (all, quiet) = c.in_ok-commits.ensures.sent in
    let (sent, run, has, count, wrote) = all in (
      (
        sent,
        all_sent c.args.node.now.shown c.args.session _ sent c.in_ok-commits.gone run has,
        count,
        Appends-trans _ _ _ (commit_frames c.args.framing sent) (farewell c.args.framing c.in_ok-commits.gone ++ frame_end c.args.framing) wrote c.in_ok-send_farewell.ensures.0,
      ),
      c.in_ok-send_farewell.ensures.1 ∙ quiet,
    )
