use Rattle.std.proofs.Common.{ap, arith, length}
use Rattle.feed_play.proofs.LineLemmas.{first_line, is_more}
use Rattle.feed_play.proofs.lines.Lines.has.Goals as goal
use Rattle.feed_note.proofs.LinesCut.{no_lines}

pub returns-in_default : goal.returns-in_default
returns-in_default c =
    let none = ap length (no_lines c.lines.rest.now c.in_default.ensures.none) in
    let left = ap (λ s. length s.left) c.self.view_is in
    is_more _ _ (omega (arith, none, left, c.lines.invariant, c.lines-test.true))

pub lines-preserved : goal.lines-preserved
lines-preserved c =
    let (whole, text) = c.in-Some.ensures.some in
    let first = ap length (first_line c.lines.rest.now c.in-Some.field-0-0.now c.in-Some.behind.now whole text) in
    omega (arith, first, c.lines.invariant)
