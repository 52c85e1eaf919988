use Rattle.std.proofs.Common.{subst, arith}
use Rattle.feed_records.specs.Parting.{PassesLine}
use Rattle.feed_records.proofs.Skipping.{body_found, body_more, body_ends}
use Rattle.feed_records.proofs.screen_lines.ScreenLines.pass_body.Goals as goal

pub returns-then-self-clause-passes : goal.returns-then-self-clause-passes
returns-then-self-clause-passes g c end is =
    body_found (g.L.Lines.left c.lines.self.source) _ c.lines.self.lines end (c.lines.invariant.beyond end is) c.look_ahead.new.self.is_over
    c.in_ok-look_ahead.ensures.left c.in_ok-look_ahead.ensures.over (g.L.Lines.front c.look_ahead.new.self.source) c.in_ok-look_ahead.field-0
    c.look_ahead.new.self.lines c.in_ok-look_ahead.ensures.lines c.if-self.true c.in_ok-look_ahead.ensures.front

pub returns-then-not-branch-clause-passes : goal.returns-then-not-branch-clause-passes
returns-then-not-branch-clause-passes g c end is =
    body_ends (g.L.Lines.left c.lines.self.source) _ c.lines.self.lines end (c.lines.invariant.beyond end is) c.look_ahead.new.self.is_over
    c.in_ok-look_ahead.ensures.left c.in_ok-look_ahead.ensures.over (g.L.Lines.left c.skip_line.new.text)
    (λ t at. subst (λ f. PassesLine f t (g.L.Lines.left c.skip_line.new.text)) c.if-not-branch.true (c.in_ok-skip_line.ensures.passes t at))

pub lines-preserved : goal.lines-preserved
lines-preserved g c = record {
  beyond = λ end is.
      body_more (g.L.Lines.left c.lines.self.source) (g.L.Lines.left c.look_ahead.new.self.source) c.lines.self.lines end (c.lines.invariant.beyond end is) c.look_ahead.new.self.is_over
      c.in_ok-look_ahead.ensures.left c.in_ok-look_ahead.ensures.over (g.L.Lines.left c.skip_line.new.text) c.look_ahead.new.self.lines c.saturating_add-self.result
      c.in_ok-look_ahead.ensures.lines c.saturating_add-self.ensures c.if-self.false
      (λ t at. subst (λ f. PassesLine f t (g.L.Lines.left c.skip_line.new.text)) c.if-not-branch.false (c.in_ok-skip_line.ensures.passes t at));
  within = omega (arith, c.lines.invariant.within, c.in_ok-look_ahead.ensures.room, c.in_ok-skip_line.ensures.room);
}
