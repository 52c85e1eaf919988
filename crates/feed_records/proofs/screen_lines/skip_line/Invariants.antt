-- The bytes so far are no line yet.
use Rattle.std.proofs.Common.{◌≡◌, ◌≤◌, ℕ, List, Some}
use Rattle.feed_records.specs.Fronts.{IsLeft}
use Rattle.feed_records.proofs.Skipping.{Skips}
use Rattle.feed_records.proofs.screen_lines.skip_line.Given as goal

abbrev pub invariant-pieces : goal.invariant-pieces
invariant-pieces g l =
    let text = g.L.Lines in
    record {
      skips : (bytes : List ℕ) → text.left l.fn.text ≡ Some bytes → IsLeft (text.left l.text) (Skips bytes);
      within : text.room l.text ≤ text.room l.fn.text;
    }

abbrev pub decreases-pieces : goal.decreases-pieces
decreases-pieces g l = g.L.Lines.room l.text
