use Rattle.std.proofs.Common.{rules, ◌≤◌}
use Rattle.feed_live.proofs.SourceLemmas.{looks_sooner}
use Rattle.feed_live.proofs.turn.Live.follows_at.Goals as goal

pub returns-then-is_none-clause-looks : goal.returns-then-is_none-clause-looks
returns-then-is_none-clause-looks c =
    let by : c.min.result ≤ c.due-due.result = search rules in
    λ some. looks_sooner by c.due-due.ensures.looks
