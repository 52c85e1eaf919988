use Rattle.std.proofs.Common.{ap}
use Rattle.feed_http.specs.Exchange.{gave_by}
use Rattle.feed_http.proofs.FollowingLemmas.{cut_behind}
use Rattle.feed_http.proofs.following.follow.Goals as goal

pub returns-clause-followed : goal.returns-clause-followed
returns-clause-followed g c =
    let reader = g.R.FeedRead in
    let gave = gave_by reader.remaining reader.reads reader.failures c.args.reader.now c.push_response-followed.new.reader in
    cut_behind c.args.most_reads gave c.args.mirror.now c.push_response-followed.new.mirror _
    c.push_response-followed.result c.end.ensures c.push_response-followed.ensures.came

pub returns-clause-cut : goal.returns-clause-cut
returns-clause-cut g c = ap (λ m. m.connection) c.end.ensures
