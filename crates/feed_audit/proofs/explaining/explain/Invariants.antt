-- What was read so far published no such token.
use Rattle.std.proofs.Common.{◌≡◌, ◌≢◌, ℕ, List, Some}
use Rattle.feed_node.specs.Publishing.{Published}
use Rattle.feed_note.specs.declared.line.Line.{Line}
use Rattle.feed_records.specs.Fronts.{IsLeft}
use Rattle.feed_audit.specs.States.{afresh}
use Rattle.feed_audit.specs.Walks.{Walked, AllAre}
use Rattle.feed_audit.proofs.explaining.explain.Given as goal

abbrev pub invariant-states : goal.invariant-states
invariant-states g l =
    let primary = g.P.Lines in
    record {
      lacks : (text : List ℕ) → primary.whole l.fn.primary ≡ Some text
          → IsLeft (primary.left l.primary) (λ left. (notes : List Line) × Walked (afresh l.fn.limits) text left notes l.lines l.mirror
          × ((state : Published) → l.wanted.shown.published ≡ Some state → AllAre (afresh l.fn.limits) (λ shown. shown.token ≢ state.token) notes));
      whole : primary.whole l.primary ≡ primary.whole l.fn.primary;
    }

abbrev pub decreases-states : goal.decreases-states
decreases-states g l = g.P.Lines.room l.primary
