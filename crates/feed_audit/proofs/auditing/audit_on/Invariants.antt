-- The states so far are the primary's.
use Rattle.std.proofs.Common.{◌≡◌, ◌≤◌, ℕ, List, Some}
use Rattle.feed_audit.specs.Answers.{HasReadLines, IsBeside, begun_by}
use Rattle.feed_records.specs.Fronts.{IsLeft}
use Rattle.feed_audit.specs.Along.{IsAlong}
use Rattle.feed_audit.proofs.Verdicts.{Agrees}
use Rattle.feed_audit.proofs.auditing.audit_on.Given as goal

abbrev pub invariant-states : goal.invariant-states
invariant-states g l =
    let primary = g.P.Lines in
    let screen = g.L.Lines in
    record {
      ours : (text body : List ℕ) → primary.whole l.fn.primary ≡ Some text → screen.left l.fn.screen ≡ Some body → IsBeside l.fn.limits text (primary.left l.fn.primary) l.fn.sides.ours l.fn.sides.theirs
          → HasReadLines l.fn.limits text (primary.left l.primary) l.sides.ours.lines l.sides.ours.states l.sides.ours.mirror;
      theirs : (text body : List ℕ) → primary.whole l.fn.primary ≡ Some text → screen.left l.fn.screen ≡ Some body → IsBeside l.fn.limits text (primary.left l.fn.primary) l.fn.sides.ours l.fn.sides.theirs
          → IsLeft (screen.left l.screen) (λ rest. Agrees (begun_by l.fn.limits l.fn.sides.theirs) text body rest l.lines l.states l.sides.theirs);
      along : (text body : List ℕ) → primary.whole l.fn.primary ≡ Some text → screen.left l.fn.screen ≡ Some body → IsBeside l.fn.limits text (primary.left l.fn.primary) l.fn.sides.ours l.fn.sides.theirs
          → IsAlong l.fn.limits text l.sides.ours.since l.sides.ours.past l.sides.ours.mirror.node l.sides.theirs.node;
      beyond : (text body : List ℕ) → primary.whole l.fn.primary ≡ Some text → screen.left l.fn.screen ≡ Some body → IsBeside l.fn.limits text (primary.left l.fn.primary) l.fn.sides.ours l.fn.sides.theirs
          → (end : ℕ × List ℕ) → screen.beyond l.fn.screen ≡ Some end → screen.beyond l.screen ≡ Some end;
      within : screen.room l.screen ≤ screen.room l.fn.screen;
      limits : l.sides.theirs.limits ≡ l.fn.limits;
      whole : primary.whole l.primary ≡ primary.whole l.fn.primary;
    }

abbrev pub decreases-states : goal.decreases-states
decreases-states g l = g.L.Lines.room l.screen
