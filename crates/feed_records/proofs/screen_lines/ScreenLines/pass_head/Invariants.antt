-- The lines so far aren't empty.
use Rattle.std.proofs.Common.{◌≡◌, ◌≤◌, ℕ, List, Some}
use Rattle.feed_records.specs.Fronts.{IsLeft}
use Rattle.feed_records.specs.Parting.{PassedFields}
use Rattle.feed_records.proofs.screen_lines.ScreenLines.pass_head.Given as goal

abbrev pub invariant-lines : goal.invariant-lines
invariant-lines g l =
    let source = g.L.Lines in
    record {
      fields : (text : List ℕ) → source.left l.fn.self.source ≡ Some text
          → IsLeft (source.left l.self.source) (λ behind. PassedFields text behind l.fn.self.lines l.self.lines);
      within : source.room l.self.source ≤ source.room l.fn.self.source;
    }

abbrev pub decreases-lines : goal.decreases-lines
decreases-lines g l = g.L.Lines.room l.self.source
