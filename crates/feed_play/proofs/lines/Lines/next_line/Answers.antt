use Rattle.std.proofs.Common.{◌∙◌, sym, refl, arith}
use Rattle.feed_play.proofs.LineLemmas.{first_line, left_is, read_is}
use Rattle.feed_play.proofs.lines.Lines.next_line.Goals as goal
use Rattle.feed_note.proofs.LinesCut.{no_lines}

pub returns-in_err-line-clause-none : goal.returns-in_err-line-clause-none
returns-in_err-line-clause-none c =
    let none = left_is _ _ _ (sym c.self.view_is) ∙ no_lines c.self.inside.rest.now c.in_err-line.ensures.none in
    rw c.from_residual.ensures (none, refl)

pub returns-clause-some : goal.returns-clause-some
returns-clause-some c =
    let (whole, text) = c.in_ok-line.ensures.some in
    let left = left_is _ _ _ (sym c.self.view_is) ∙ first_line c.self.inside.rest.now c.in_ok-line.line.now c.in_ok-line.behind.now whole text in
    let read = read_is _ _ _ (sym c.self.view_is) in
    (left, omega (arith, read))
