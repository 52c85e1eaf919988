use Rattle.std.proofs.Common.{ap, ◌∙◌, ◌+◌, length, arith}
use Rattle.feed_records.proofs.Looking.{front_on, front_over, pass_left, pass_beyond, nothing_passed}
use Rattle.feed_records.proofs.screen_lines.ScreenLinesLines.pass.Goals as goal

pub returns-then-not-self-clause-left : goal.returns-then-not-self-clause-left
returns-then-not-self-clause-left g c behind f =
    pass_left _ _ (g.L.Lines.front c.args.self.now.source) behind c.args.self.now.is_over c.pass.ensures.left f c.if-not-self.true

pub returns-then-not-self-clause-room : goal.returns-then-not-self-clause-room
returns-then-not-self-clause-room g c =
    ap (λ t. g.L.Lines.room c.pass.new.self + length t) (front_on c.args.self.now.is_over (g.L.Lines.front c.args.self.now.source) c.if-not-self.true) ∙ c.pass.ensures.room

pub returns-then-not-self-clause-beyond : goal.returns-then-not-self-clause-beyond
returns-then-not-self-clause-beyond g c behind end f e =
    pass_beyond _ _ (g.L.Lines.front c.args.self.now.source) behind c.args.self.now.is_over c.pass.ensures.left f c.if-not-self.true
    c.args.self.now.lines c.saturating_add-self.result end c.saturating_add-self.ensures e

pub returns-else-not-self-clause-left : goal.returns-else-not-self-clause-left
returns-else-not-self-clause-left g c behind f =
    absurd (nothing_passed c.args.self.now.is_over (g.L.Lines.front c.args.self.now.source) behind _ c.if-not-self.false f)

pub returns-else-not-self-clause-room : goal.returns-else-not-self-clause-room
returns-else-not-self-clause-room g c =
    let n = ap length (front_over c.args.self.now.is_over (g.L.Lines.front c.args.self.now.source) c.if-not-self.false) in omega (arith, n)
