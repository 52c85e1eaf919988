use Rattle.feed_http.specs.Exchange.{devices_of, exchange}
use Rattle.feed_wire.specs.RequestText.{request_text_as}
use Rattle.feed_relay.proofs.PullingLemmas.{answered, told_reads}
use Rattle.feed_relay.proofs.pulling.pull_once.Goals as goal

pub returns-clause-pulled : goal.returns-clause-pulled
returns-clause-pulled g c =
    let reader = g.R.FeedRead in
    let writer = g.W.FeedWrite in
    let spoken = exchange (devices_of reader.remaining reader.reads reader.failures writer.contents writer.failures) c.args.reader.now c.follow.new.reader c.args.writer.now c.ask.new.writer in
    let start = c.args.mirror.now in
    let request = request_text_as c.args.server.now.place start.since c.args.server.now.identity.now in
    let both = answered request c.args.most_reads spoken start c.follow.new.mirror c.follow.result c.in_ok-ask.ensures.0 c.follow.ensures.followed in
    record {
      asked = both.0;
      came = both.1;
      reads = c.follow.ensures.reads;
      failures = told_reads c.args.most_reads spoken start c.follow.new.mirror c.follow.result c.follow.ensures.followed c.follow.ensures.failures c.in_ok-ask.ensures.1;
    }
