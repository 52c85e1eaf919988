use Rattle.std.proofs.Common.{◌≡◌, refl, sym, ap, ◌∙◌, [], ◌∷◌, ◌++◌, arith, subst, length-append}
use Rattle.std.specs.Io.KnownBytes.{Appends}
use Rattle.std.proofs.KnownBytes.{Appends-nil}
use Rattle.std.proofs.lemmas.Result.{err_from_is_err_and}
use Rattle.feed_wire.specs.Framed.{frame}
use Rattle.feed_http.specs.Device.{AppendsPrefix}
use Rattle.feed_node.specs.Serving.{commit_text}
use Rattle.feed_http.specs.Sessions.{next}
use Rattle.feed_http.specs.Sending.{Sent, sent_none, sent_one}
use Rattle.feed_http.proofs.ServingLemmas.{next_moves, ahead_falls, pulls_more, pulls_up_to_date, pulls_gone, wrote_these, wrote_into, wrote_one, ahead}
use Rattle.feed_http.proofs.WritingLemmas.{passed, ran_out}
use Rattle.feed_http.proofs.serving.send_commits.Goals as goal

pub commits-init : goal.commits-init
commits-init g c = record { run = ([], sent_none _, refl, Appends-nil _); quiet = refl }

pub returns-in_err-pull_next-clause-sent : goal.returns-in_err-pull_next-clause-sent
returns-in_err-pull_next-clause-sent g c =
    let (sent, run, count, wrote) = c.commits.invariant.run in
    let p = err_from_is_err_and c.from_residual.result c.from_residual.ensures.1 in
    ran_out _ _ _ _ p.1 p.2 (wrote_these c.args.node.now.shown c.args.session.now c.commits.session sent c.args.framing _ _ run wrote) c.commits.invariant.quiet

pub returns-in_err-write_framed-in-More-clause-sent : goal.returns-in_err-write_framed-in-More-clause-sent
returns-in_err-write_framed-in-More-clause-sent g c =
    let (sent, run, count, wrote) = c.commits.invariant.run in
    let (commit, is_next, token_is, text_is) = pulls_more _ _ _ _ _ _ c.in_ok-pull_next.ensures.ok c.in-More.is in
    let text : c.as_slice.result.now ≡ commit_text commit = c.as_slice.ensures.value ∙ text_is ∙ ap (λ t. t ++ commit_text commit) c.new-text.ensures.items in
    let p = err_from_is_err_and c.from_residual-in_err-write_framed-in-More.result c.from_residual-in_err-write_framed-in-More.ensures.1 in
    passed _ p.1 p.2 c.commits.invariant.quiet refl
    (λ prefix. wrote_into c.args.node.now.shown c.args.session.now c.commits.session sent commit c.args.framing _ _ _ run is_next wrote
    (subst (λ t. AppendsPrefix (g.W.FeedWrite.contents c.commits.writer) (g.W.FeedWrite.contents c.write_framed.new.writer) (frame c.args.framing t)) text prefix))
    (λ why none. none) c.in_err-write_framed-in-More.ensures

pub returns-in-UpToDate-clause-sent : goal.returns-in-UpToDate-clause-sent
returns-in-UpToDate-clause-sent g c =
    let (sent, run, count, wrote) = c.commits.invariant.run in
    let (none, same) = pulls_up_to_date _ _ _ _ _ _ c.in_ok-pull_next.ensures.ok c.in-UpToDate.is in
    ((sent, subst (Sent c.args.node.now.shown c.args.session.now sent) (sym same) run, ap (next c.args.node.now.shown) same ∙ none, count, wrote), c.commits.invariant.quiet)

pub returns-in-Gone-clause-sent : goal.returns-in-Gone-clause-sent
returns-in-Gone-clause-sent g c =
    let (sent, run, count, wrote) = c.commits.invariant.run in
    let (none, same) = pulls_gone _ _ _ _ _ _ c.in_ok-pull_next.ensures.ok c.in-Gone.is in
    ((sent, subst (Sent c.args.node.now.shown c.args.session.now sent) (sym same) run, ap (next c.args.node.now.shown) same ∙ none, count, wrote), c.commits.invariant.quiet)

pub commits-smaller : goal.commits-smaller
commits-smaller g c =
    let (commit, is_next, token_is, text_is) = pulls_more _ _ _ _ _ _ c.in_ok-pull_next.ensures.ok c.in-More.is in
    let falls = ahead_falls c.args.node.now.shown c.commits.session commit (next_moves c.args.node.now.shown c.commits.session commit c.pull_next.ensures.consistent is_next) in
    let same : ahead c.args.node.now.shown c.pull_next.new.session ≡ ahead c.args.node.now.shown commit.token = ap (ahead c.args.node.now.shown) token_is in
    omega arith

pub commits-preserved : goal.commits-preserved
commits-preserved g c =
    let (sent, run, count, wrote) = c.commits.invariant.run in
    let (commit, is_next, token_is, text_is) = pulls_more _ _ _ _ _ _ c.in_ok-pull_next.ensures.ok c.in-More.is in
    let text : c.as_slice.result.now ≡ commit_text commit = c.as_slice.ensures.value ∙ text_is ∙ ap (λ t. t ++ commit_text commit) c.new-text.ensures.items in
    record {
      run = (
        sent ++ commit ∷ [],
        subst (λ t. Sent c.args.node.now.shown c.args.session.now (sent ++ commit ∷ []) t) (sym token_is) (sent_one c.args.session.now c.commits.session sent commit run is_next),
        omega (arith, length-append sent (commit ∷ []), count, c.saturating_add-count.ensures),
        wrote_one sent commit c.args.framing _ _ _ wrote (subst (λ t. Appends (g.W.FeedWrite.contents c.commits.writer) (g.W.FeedWrite.contents c.write_framed.new.writer) (frame c.args.framing t)) text c.in_ok-write_framed-in-More.ensures.0),
      );
      quiet = c.in_ok-write_framed-in-More.ensures.1 ∙ c.commits.invariant.quiet;
    }
