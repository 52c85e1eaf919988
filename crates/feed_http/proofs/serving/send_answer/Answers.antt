use Rattle.std.proofs.Common.{◌∙◌, refl, sym, subst}
use Rattle.std.specs.Io.KnownBytes.{Appends}
use Rattle.std.proofs.lemmas.Result.{err_from_is_err_and}
use Rattle.feed_answer.specs.Answered.{parts_of}
use Rattle.feed_http.specs.Device.{AppendsPrefix}
use Rattle.feed_http.specs.Exchange.{wrote_by}
use Rattle.feed_http.specs.Sending.{WroteAll, WroteAnswer}
use Rattle.feed_http.proofs.ServingLemmas.{wrote_answer, wrote_session, sends_session}
use Rattle.feed_http.proofs.WritingLemmas.{passed}
use Rattle.feed_http.proofs.serving.send_answer.Goals as goal

pub returns-in_err-write_bytes : goal.returns-in_err-write_bytes
returns-in_err-write_bytes g c =
    let a = c.args.answered in
    let p = err_from_is_err_and c.from_residual.result c.from_residual.ensures.1 in
    passed _ p.1 p.2 refl refl
    (λ prefix. wrote_answer c.args.node.now.shown a.status a.framing a.bytes.items a.session _ _ c.requires
    (subst (AppendsPrefix (g.W.FeedWrite.contents c.args.writer.now) (g.W.FeedWrite.contents c.write_bytes.new.writer)) c.as_slice.ensures.value prefix))
    (λ why none. none) c.in_err-write_bytes.ensures

pub returns-in_err-commits : goal.returns-in_err-commits
returns-in_err-commits g c =
    let a = c.args.answered in
    let p = err_from_is_err_and c.from_residual-in_err-commits.result c.from_residual-in_err-commits.ensures.1 in
    passed _ p.1 p.2 c.in_ok-write_bytes.ensures.1 refl
    (λ part. subst (λ s. WroteAnswer c.args.node.now.shown (parts_of a.status a.framing a.bytes.items s) (g.W.FeedWrite.contents c.args.writer.now) (g.W.FeedWrite.contents c.send_session.new.writer)) (sym c.in-Some.is)
    (wrote_session c.args.node.now.shown a.status a.framing a.bytes.items c.in-Some.session _ _ _
    (subst (Appends (g.W.FeedWrite.contents c.args.writer.now) (g.W.FeedWrite.contents c.write_bytes.new.writer)) c.as_slice.ensures.value c.in_ok-write_bytes.ensures.0)
    part))
    (λ why none. none) c.in_err-commits.ensures

pub returns : goal.returns
returns g c =
    let a = c.args.answered in
    let (all, quiet) = c.in_ok-commits.ensures in
    let (sent, runs, count, wrote) = all in (
      subst (λ s. WroteAll c.args.node.now.shown (parts_of a.status a.framing a.bytes.items s) (wrote_by g.W.FeedWrite.contents g.W.FeedWrite.failures c.args.writer.now c.send_session.new.writer) (record { status = a.status; commits = c.in_ok-commits.commits; gone = c.in_ok-commits.gone })) (sym c.in-Some.is)
          (sends_session c.args.node.now.shown a.status a.framing a.bytes.items c.in-Some.session sent c.in_ok-commits.gone c.in_ok-commits.commits _ _ _ runs count
          (subst (Appends (g.W.FeedWrite.contents c.args.writer.now) (g.W.FeedWrite.contents c.write_bytes.new.writer)) c.as_slice.ensures.value c.in_ok-write_bytes.ensures.0) wrote),
      quiet ∙ c.in_ok-write_bytes.ensures.1,
    )
