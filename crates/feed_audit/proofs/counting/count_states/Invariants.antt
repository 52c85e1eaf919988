-- The states so far are counted.
use Rattle.std.proofs.Common.{◌≡◌, ℕ, List}
use Rattle.feed_audit.specs.Answers.{HasReadLines}
use Rattle.feed_audit.proofs.counting.count_states.Given as goal

abbrev pub invariant-states : goal.invariant-states
invariant-states g l =
    let primary = g.P.Lines in
    record {
      counts : (text : List ℕ) → HasReadLines l.fn.limits text (primary.left l.fn.primary) l.fn.ours.lines l.fn.ours.states l.fn.ours.mirror
          → HasReadLines l.fn.limits text (primary.left l.primary) l.ours.lines l.ours.states l.ours.mirror;
      whole : primary.whole l.primary ≡ primary.whole l.fn.primary;
    }

abbrev pub decreases-states : goal.decreases-states
decreases-states g l = g.P.Lines.room l.primary
