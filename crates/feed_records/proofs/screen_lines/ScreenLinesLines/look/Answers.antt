use Rattle.feed_records.proofs.Looking.{look_over, look_on}
use Rattle.feed_records.proofs.screen_lines.ScreenLinesLines.look.Goals as goal

pub returns-then-self-clause-front : goal.returns-then-self-clause-front
returns-then-self-clause-front g c body is =
    look_over (g.L.Lines.left c.args.self.now.source) body (g.L.Lines.front c.look_ahead.new.self.source) c.look_ahead.new.self.is_over is c.if-self.true c.in_ok-found.ensures.over

pub returns-clause-front : goal.returns-clause-front
returns-clause-front g c body is =
    look_on (g.L.Lines.left c.args.self.now.source) body (g.L.Lines.front c.look_ahead.new.self.source) c.look_ahead.new.self.is_over c.in_ok-found.found is c.if-self.false
    c.in_ok-found.ensures.over c.in_ok-found.ensures.front
