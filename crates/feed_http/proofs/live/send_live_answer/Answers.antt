use Rattle.std.proofs.Common.{◌++◌, ◌∙◌, inl, inr, refl, sym, subst}
use Rattle.std.specs.Io.KnownBytes.{Appends}
use Rattle.std.proofs.KnownBytes.{Appends-trans}
use Rattle.std.proofs.lemmas.Result.{err_from_is_err_and}
use Rattle.feed_answer.specs.Answered.{parts_of}
use Rattle.feed_http.specs.Device.{AppendsPrefix}
use Rattle.feed_http.specs.Exchange.{wrote_by}
use Rattle.feed_http.specs.Live.{intake_of}
use Rattle.feed_http.specs.Sending.{WroteAllLive}
use Rattle.feed_http.specs.Serving.{commit_frames}
use Rattle.feed_http.proofs.LiveLemmas.{end_cut_short, sends_live}
use Rattle.feed_http.proofs.WritingLemmas.{passed}
use Rattle.feed_http.proofs.live.send_live_answer.Goals as goal

pub returns-in_err-write_bytes : goal.returns-in_err-write_bytes
returns-in_err-write_bytes g c =
    let p = err_from_is_err_and c.from_residual.result c.from_residual.ensures.1 in
    passed _ p.1 p.2 refl refl
    (λ prefix. inl (subst (AppendsPrefix (g.W.FeedWrite.contents c.args.writer.now) (g.W.FeedWrite.contents c.write_bytes.new.writer)) c.as_slice.ensures.value prefix, refl))
    (λ why none. absurd none) c.in_err-write_bytes.ensures

pub returns-in_err-commits : goal.returns-in_err-commits
returns-in_err-commits g c =
    let a = c.args.answered in
    let wrote = subst (Appends (g.W.FeedWrite.contents c.args.writer.now) (g.W.FeedWrite.contents c.write_bytes.new.writer)) c.as_slice.ensures.value c.in_ok-write_bytes.ensures.0 in
    let p = err_from_is_err_and c.from_residual-in_err-commits.result c.from_residual-in_err-commits.ensures.1 in
    passed _ p.1 p.2 c.in_ok-write_bytes.ensures.1 refl
    (λ part. inr (c.in-Some.session, part.0, c.in-Some.is, part.1, Appends-trans _ _ _ a.bytes.items part.0 wrote part.2))
    (λ why part. (c.in-Some.session, part.0, c.in-Some.is, part.1, Appends-trans _ _ _ a.bytes.items part.0 wrote part.2))
    c.in_err-commits.ensures

pub returns-in_err-send_farewell : goal.returns-in_err-send_farewell
returns-in_err-send_farewell g c =
    let a = c.args.answered in
    let wrote = subst (Appends (g.W.FeedWrite.contents c.args.writer.now) (g.W.FeedWrite.contents c.write_bytes.new.writer)) c.as_slice.ensures.value c.in_ok-write_bytes.ensures.0 in
    let (most_reads, quiet) = c.in_ok-commits.ensures in
    let p = err_from_is_err_and c.from_residual-in_err-send_farewell.result c.from_residual-in_err-send_farewell.ensures.1 in
    passed _ p.1 p.2 (quiet ∙ c.in_ok-write_bytes.ensures.1) refl
    (λ part.
    let (prefix, rest, split, more) = part in
    inr (
      c.in-Some.session,
      commit_frames a.framing most_reads.sent ++ prefix,
      c.in-Some.is,
      end_cut_short c.args.turn (intake_of c.args.primary.now c.args.input.now.items) c.in-Some.session most_reads.sent (intake_of c.send_live.new.primary c.send_live.new.input.items) c.send_live.new.session a.framing c.in_ok-commits.gone prefix rest most_reads.has_sent most_reads.over split,
      Appends-trans _ _ _ a.bytes.items (commit_frames a.framing most_reads.sent ++ prefix) wrote (Appends-trans _ _ _ (commit_frames a.framing most_reads.sent) prefix most_reads.frames more),
    ))
    (λ why none. absurd none) c.in_err-send_farewell.ensures

pub returns : goal.returns
returns g c =
    let a = c.args.answered in
    let start = intake_of c.args.primary.now c.args.input.now.items in
    let now = intake_of c.send_live.new.primary c.send_live.new.input.items in
    let wrote = subst (Appends (g.W.FeedWrite.contents c.args.writer.now) (g.W.FeedWrite.contents c.write_bytes.new.writer)) c.as_slice.ensures.value c.in_ok-write_bytes.ensures.0 in
    let (most_reads, quiet) = c.in_ok-commits.ensures in
    let (all, sends, appended) = sends_live c.args.turn start now a.status a.framing a.bytes.items c.in-Some.session c.send_live.new.session most_reads.sent c.in_ok-commits.gone c.in_ok-commits.commits _ _ _ _ most_reads.has_sent most_reads.over most_reads.count_is wrote most_reads.frames c.in_ok-send_farewell.ensures.0 in (
      subst (λ s. WroteAllLive c.args.turn start (parts_of a.status a.framing a.bytes.items s) now (wrote_by g.W.FeedWrite.contents g.W.FeedWrite.failures c.args.writer.now c.send_farewell.new.writer) (record { status = a.status; commits = c.in_ok-commits.commits; gone = c.in_ok-commits.gone })) (sym c.in-Some.is)
          (record { text = all; sends = sends; wrote_it = appended; only_long = most_reads.only_long; each_long = most_reads.each_long }),
      c.in_ok-send_farewell.ensures.1 ∙ quiet ∙ c.in_ok-write_bytes.ensures.1,
    )
