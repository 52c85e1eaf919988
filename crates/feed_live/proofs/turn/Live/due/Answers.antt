use Rattle.std.proofs.Common.{rules}
use Rattle.feed_live.proofs.SourceLemmas.{looks_sooner}
use Rattle.feed_live.proofs.turn.Live.due.Goals as goal

pub returns-clause-due : goal.returns-clause-due
returns-clause-due c =
    record {
      saves = search rules;
      again = search rules;
      ends = search rules;
      connects = search rules;
      silent = search rules;
      more = search rules;
      looks = λ goes some. looks_sooner {due = c.follows_at.result} (search rules) (c.follows_at.ensures.looks some);
    }
