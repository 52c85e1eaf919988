use Rattle.std.proofs.Common.{sym, subst}
use Rattle.std.specs.Prelude.{IfSome}
use Rattle.feed_node.specs.Mirroring.{MirrorState}
use Rattle.feed_audit.specs.States.{IsStateOf}
use Rattle.feed_audit.proofs.Reading.{along_with, read_same}
use Rattle.feed_audit.proofs.record.choose.Goals as goal

pub returns-in_ok-sides-in-None-clause-beside : goal.returns-in_ok-sides-in-None-clause-beside
returns-in_ok-sides-in-None-clause-beside c text left beside = record {
  read = read_same c.args.limits text left _ _ _ _ _ _ beside.read c.part.ensures.lines c.part.ensures.states c.part.ensures.mirror;
  along = along_with c.args.limits text _ _ _ _ _ c.part.ensures.mirror
      (c.part.ensures.along c.args.limits text c.args.sides.now.ours.mirror.node c.args.sides.now.theirs.node c.in_ok-sides-in-None.field-0.node beside.along);
  shown = subst (λ (m : MirrorState). IfSome m.node.published (IsStateOf c.args.limits text)) (sym c.in_ok-sides-in-None.ensures) tt;
}
