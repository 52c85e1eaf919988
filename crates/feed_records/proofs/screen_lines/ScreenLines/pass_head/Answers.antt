use Rattle.std.proofs.Common.{subst, arith}
use Rattle.feed_records.specs.Parting.{PassesLine}
use Rattle.feed_records.proofs.Skipping.{fields_none, fields_more, head_rest, head_cut_off}
use Rattle.feed_records.proofs.screen_lines.ScreenLines.pass_head.Goals as goal

pub lines-init : goal.lines-init
lines-init g c = record { fields = λ text is. (text, is, fields_none text c.args.self.now.lines); within = omega arith }

pub returns-then-not-branch-clause-passes : goal.returns-then-not-branch-clause-passes
returns-then-not-branch-clause-passes g c text is =
    head_cut_off text (g.L.Lines.left c.lines.self.source) _ (g.L.Lines.left c.skip_line.new.text) c.args.self.now.lines c.lines.self.lines c.lines.self.lines c.in_ok-is_last.is_last
    (c.lines.invariant.fields text is) c.in_ok-is_last.ensures.left c.in_ok-is_last.ensures.blank
    (λ t at. subst (λ f. PassesLine f t (g.L.Lines.left c.skip_line.new.text)) c.if-not-branch.true (c.in_ok-skip_line.ensures.passes t at))

pub returns-then-is_last-clause-passes : goal.returns-then-is_last-clause-passes
returns-then-is_last-clause-passes g c text is =
    head_rest text (g.L.Lines.left c.lines.self.source) _ (g.L.Lines.left c.skip_line.new.text) c.args.self.now.lines c.lines.self.lines c.saturating_add-self.result c.in_ok-is_last.is_last
    (c.lines.invariant.fields text is) c.in_ok-is_last.ensures.left c.in_ok-is_last.ensures.blank
    (λ t at. subst (λ f. PassesLine f t (g.L.Lines.left c.skip_line.new.text)) c.if-not-branch.false (c.in_ok-skip_line.ensures.passes t at))
    c.saturating_add-self.ensures c.if-is_last.true

pub lines-preserved : goal.lines-preserved
lines-preserved g c = record {
  fields = λ text is.
      fields_more text (g.L.Lines.left c.lines.self.source) _ (g.L.Lines.left c.skip_line.new.text) c.args.self.now.lines c.lines.self.lines c.saturating_add-self.result c.in_ok-is_last.is_last
      (c.lines.invariant.fields text is) c.in_ok-is_last.ensures.left c.in_ok-is_last.ensures.blank
      (λ t at. subst (λ f. PassesLine f t (g.L.Lines.left c.skip_line.new.text)) c.if-not-branch.false (c.in_ok-skip_line.ensures.passes t at))
      c.saturating_add-self.ensures c.if-is_last.false;
  within = omega (arith, c.lines.invariant.within, c.in_ok-is_last.ensures.room, c.in_ok-skip_line.ensures.room);
}
