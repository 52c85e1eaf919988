use Rattle.std.proofs.Common.{sym, ◌∙◌}
use Rattle.feed_records.proofs.Looking.{front_on, front_over}
use Rattle.feed_records.proofs.screen_lines.ScreenLinesLines.front.Goals as goal

pub returns-then-self : goal.returns-then-self
returns-then-self g c = sym (front_over c.args.self.now.is_over (g.L.Lines.front c.args.self.now.source) c.if-self.true)

pub returns : goal.returns
returns g c = c.front.ensures ∙ sym (front_on c.args.self.now.is_over (g.L.Lines.front c.args.self.now.source) c.if-self.false)
