-- What was passed is of this connection.
use Rattle.std.proofs.Common.{◌≡◌, ◌≤◌, ℕ, List, Some}
use Rattle.feed_records.specs.ScreenLines.{beyond_in}
use Rattle.feed_records.proofs.screen_lines.ScreenLines.pass_body.Given as goal

abbrev pub invariant-lines : goal.invariant-lines
invariant-lines g l =
    let source = g.L.Lines in
    record {
      beyond : (end : ℕ × List ℕ) → beyond_in source.left l.fn.self ≡ Some end → beyond_in source.left l.self ≡ Some end;
      within : source.room l.self.source ≤ source.room l.fn.self.source;
    }

abbrev pub decreases-lines : goal.decreases-lines
decreases-lines g l = g.L.Lines.room l.self.source
