use Rattle.std.proofs.Common.{refl, subst}
use Rattle.std.proofs.KnownBytes.{Appends-nil}
use Rattle.std.proofs.lemmas.Result.{err_from_is_err_and}
use Rattle.feed_answer.specs.Answered.{parts_of, AnswersTo}
use Rattle.feed_http.specs.Exchange.{devices_of, exchange}
use Rattle.feed_http.specs.Live.{intake_of, HasAnswer}
use Rattle.feed_http.proofs.LiveLemmas.{opened_held}
use Rattle.feed_http.proofs.ServedLemmas.{was_not_heard, was_live}
use Rattle.feed_http.proofs.live.serve_live.Goals as goal

pub returns-in_err-read_head : goal.returns-in_err-read_head
returns-in_err-read_head g c =
    let reader = g.R.FeedRead in
    let writer = g.W.FeedWrite in
    let spoken = exchange (devices_of reader.remaining reader.reads reader.failures writer.contents writer.failures) c.args.reader.now c.read_head.new.reader c.args.writer.now c.args.writer.now in
    let start = intake_of c.args.primary.now c.args.input.now.items in
    let p = err_from_is_err_and c.from_residual.result c.from_residual.ensures.1 in
    was_not_heard c.args.turn c.args.service.now spoken start start c.read_head.new.bytes.items p.1 p.2
    c.read_head.ensures.needed refl (Appends-nil _) c.in_err-read_head.ensures.ends c.in_err-read_head.ensures.failures refl c.read_head.ensures.reads

pub returns-in_err-answered : goal.returns-in_err-answered
returns-in_err-answered g c =
    let reader = g.R.FeedRead in
    let writer = g.W.FeedWrite in
    let spoken = exchange (devices_of reader.remaining reader.reads reader.failures writer.contents writer.failures) c.args.reader.now c.read_head.new.reader c.args.writer.now c.args.writer.now in
    let start = intake_of c.args.primary.now c.args.input.now.items in
    let p = err_from_is_err_and c.from_residual-in_err-answered.result c.from_residual-in_err-answered.ensures.1 in
    was_not_heard c.args.turn c.args.service.now spoken start start c.read_head.new.bytes.items p.1 p.2
    c.read_head.ensures.needed refl (Appends-nil _) tt c.in_ok-read_head.ensures.failures refl c.read_head.ensures.reads

pub send_live_answer-requires-clause-held : goal.send_live_answer-requires-clause-held
send_live_answer-requires-clause-held g c =
    opened_held _ _ c.node-node.result.now.shown c.args.primary.now.node _ _ _ _ _ c.in_ok-answered.answered.session
    c.in_ok-answered.ensures.ok c.node-node.ensures.node c.node-node.ensures.consistent

pub returns : goal.returns
returns g c =
    let a = c.in_ok-answered.answered in
    let answer = parts_of a.status a.framing a.bytes.items a.session in
    let start = intake_of c.args.primary.now c.args.input.now.items in
    let now = intake_of c.send_live_answer.new.primary c.send_live_answer.new.input.items in
    let reader = g.R.FeedRead in
    let writer = g.W.FeedWrite in
    let spoken = exchange (devices_of reader.remaining reader.reads reader.failures writer.contents writer.failures) c.args.reader.now c.read_head.new.reader c.args.writer.now c.send_live_answer.new.writer in
    let s = c.args.service.now in
    let head = c.read_head.new.bytes.items in
    let asked = subst (λ h. AnswersTo h s.contest.now c.node-node.result.now.shown s.framing s.back answer) c.as_slice.ensures.value c.in_ok-answered.ensures.ok in
    let has : HasAnswer s.contest.now c.args.primary.now.node s.framing s.back spoken.source spoken.left answer = record {
      head = head;
      read = c.in_ok-read_head.ensures.ends.0;
      needed = c.read_head.ensures.needed;
      enough = c.in_ok-read_head.ensures.ends.1;
      answers = subst (λ n. AnswersTo head s.contest.now n s.framing s.back answer) c.node-node.ensures.node asked;
    } in
    was_live c.args.turn s spoken start now answer has c.read_head.ensures.reads c.in_ok-read_head.ensures.failures c.send_live_answer.result c.send_live_answer.ensures
