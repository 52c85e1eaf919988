-- The connections so far agree.
use Rattle.std.proofs.Common.{◌≡◌, ℕ, List, Some}
use Rattle.feed_records.specs.Fronts.{IsLeft}
use Rattle.feed_audit.specs.Answers.{IsBeside}
use Rattle.feed_audit.specs.Reaching.{Reached}
use Rattle.feed_records.specs.Parting.{since_of}
use Rattle.feed_audit.proofs.record.audit_record.Given as goal

abbrev pub invariant-connections : goal.invariant-connections
invariant-connections g l =
    let primary = g.P.Lines in
    let screen = g.L.Lines in
    record {
      reached : (text all : List ℕ) → primary.whole l.fn.primary ≡ Some text → screen.left l.fn.screen.source ≡ Some all
          → IsBeside l.fn.limits text (primary.left l.fn.primary) l.fn.sides.ours l.fn.sides.theirs
          → IsLeft (screen.left l.screen.source) (λ left. Reached l.fn.limits text all left l.before l.states l.opened.is_feed (since_of l.opened) l.sides.theirs);
      beside : (text all : List ℕ) → primary.whole l.fn.primary ≡ Some text → screen.left l.fn.screen.source ≡ Some all
          → IsBeside l.fn.limits text (primary.left l.fn.primary) l.fn.sides.ours l.fn.sides.theirs
          → IsBeside l.fn.limits text (primary.left l.primary) l.sides.ours l.sides.theirs;
      limits : l.sides.theirs.limits ≡ l.fn.limits;
      whole : primary.whole l.primary ≡ primary.whole l.fn.primary;
    }

abbrev pub decreases-connections : goal.decreases-connections
decreases-connections g l = g.L.Lines.room l.screen.source
