use Rattle.std.proofs.Common.{refl, subst}
use Rattle.std.proofs.KnownBytes.{Appends-nil}
use Rattle.std.proofs.lemmas.Result.{err_from_is_err_and}
use Rattle.feed_answer.specs.Answered.{parts_of, AnswersTo}
use Rattle.feed_http.specs.Exchange.{devices_of, exchange}
use Rattle.feed_http.proofs.ServedLemmas.{was_unread, was_served}
use Rattle.feed_http.proofs.serving.serve_node.Goals as goal

pub returns-in_err-read_head : goal.returns-in_err-read_head
returns-in_err-read_head g c =
    let reader = g.R.FeedRead in
    let writer = g.W.FeedWrite in
    let spoken = exchange (devices_of reader.remaining reader.reads reader.failures writer.contents writer.failures) c.args.reader.now c.read_head.new.reader c.args.writer.now c.args.writer.now in
    let p = err_from_is_err_and c.from_residual.result c.from_residual.ensures.1 in
    was_unread c.args.service.now c.args.node.now.shown spoken c.read_head.new.bytes.items p.1 p.2
    c.read_head.ensures.needed (Appends-nil _) c.in_err-read_head.ensures.ends c.in_err-read_head.ensures.failures refl c.read_head.ensures.reads

pub returns-in_err-answered : goal.returns-in_err-answered
returns-in_err-answered g c =
    let reader = g.R.FeedRead in
    let writer = g.W.FeedWrite in
    let spoken = exchange (devices_of reader.remaining reader.reads reader.failures writer.contents writer.failures) c.args.reader.now c.read_head.new.reader c.args.writer.now c.args.writer.now in
    let p = err_from_is_err_and c.from_residual-in_err-answered.result c.from_residual-in_err-answered.ensures.1 in
    was_unread c.args.service.now c.args.node.now.shown spoken c.read_head.new.bytes.items p.1 p.2
    c.read_head.ensures.needed (Appends-nil _) tt c.in_ok-read_head.ensures.failures refl c.read_head.ensures.reads

pub returns : goal.returns
returns g c =
    let reader = g.R.FeedRead in
    let writer = g.W.FeedWrite in
    let spoken = exchange (devices_of reader.remaining reader.reads reader.failures writer.contents writer.failures) c.args.reader.now c.read_head.new.reader c.args.writer.now c.send_answer.new.writer in
    let s = c.args.service.now in
    let a = c.in_ok-answered.answered in
    let answer = parts_of a.status a.framing a.bytes.items a.session in
    let answers = subst (λ h. AnswersTo h s.contest.now c.args.node.now.shown s.framing s.back answer) c.as_slice.ensures.value c.in_ok-answered.ensures.ok in
    was_served s c.args.node.now.shown spoken c.read_head.new.bytes.items answer
    c.in_ok-read_head.ensures.ends.0 c.read_head.ensures.needed c.in_ok-read_head.ensures.ends.1 answers
    c.read_head.ensures.reads c.in_ok-read_head.ensures.failures c.send_answer.result c.send_answer.ensures
