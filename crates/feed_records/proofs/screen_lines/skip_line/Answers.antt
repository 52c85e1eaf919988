use Rattle.std.proofs.Common.{subst, arith}
use Rattle.feed_records.specs.Fronts.{IsFront}
use Rattle.feed_records.proofs.Skipping.{skips_more, skips_line, skips_rest}
use Rattle.feed_records.proofs.Passing.{left_on}
use Rattle.feed_records.proofs.screen_lines.skip_line.Goals as goal

pub returns-in-Line-clause-passes : goal.returns-in-Line-clause-passes
returns-in-Line-clause-passes g c bytes is =
    let h = c.pieces.invariant.skips bytes is in
    skips_line bytes _ _ (g.L.Lines.front c.look.new.self) (left_on _ _ _ h c.in_ok-look.ensures.left) c.skip.ensures.left
    (subst (λ f. IsFront f (g.L.Lines.front c.look.new.self) h.0) c.in-Line.is (c.in_ok-look.ensures.front h.0 h.1))

pub returns-in-Rest-clause-passes : goal.returns-in-Rest-clause-passes
returns-in-Rest-clause-passes g c bytes is =
    let h = c.pieces.invariant.skips bytes is in
    skips_rest bytes _ (g.L.Lines.front c.look.new.self) h (subst (λ f. IsFront f (g.L.Lines.front c.look.new.self) h.0) c.in-Rest.is (c.in_ok-look.ensures.front h.0 h.1))

pub pieces-preserved : goal.pieces-preserved
pieces-preserved g c = record {
  skips = λ bytes is.
      let h = c.pieces.invariant.skips bytes is in
      skips_more bytes _ _ (g.L.Lines.front c.look.new.self) (left_on _ _ _ h c.in_ok-look.ensures.left) c.skip-in-Long.ensures.left
      (subst (λ f. IsFront f (g.L.Lines.front c.look.new.self) h.0) c.in-Long.is (c.in_ok-look.ensures.front h.0 h.1));
  within = omega (arith, c.pieces.invariant.within, c.in_ok-look.ensures.room, c.skip-in-Long.ensures.room);
}
