use Rattle.std.proofs.Common.{rules, ◌≤◌}
use Rattle.feed_live.proofs.SourceLemmas.{looks_sooner}
use Rattle.feed_live.proofs.source.Source.due.Goals as goal

pub returns-clause-looks : goal.returns-clause-looks
returns-clause-looks c =
    let by : c.min.result ≤ c.looks_at.result = search rules in
    looks_sooner by c.looks_at.ensures
