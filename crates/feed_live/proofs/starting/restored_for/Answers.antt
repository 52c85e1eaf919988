use Rattle.std.proofs.Common.{◌∙◌, None, ap, refl, sym, subst, true≢false}
use Rattle.feed_node.specs.Mirroring.{MirrorState}
use Rattle.feed_laws.specs.Laws.{IsInLog}
use Rattle.feed_live.proofs.starting.restored_for.Goals as goal

pub returns-then-reads_files : goal.returns-then-reads_files
returns-then-reads_files g c =
    record {
      limits = c.restore_from.ensures.limits;
      in_log = λ log begins.
          let of = begins (c.reads_files.ensures.stored c.if-reads_files.true) in
          c.restore_from.ensures.in_log log of.0 of.1.is_log of.1.in_log of.1.parts;
      goes_on = λ log nodes text of written. c.restore_from.ensures.goes_on log nodes text of.is_log of.in_log of.parts written;
      input = λ none. absurd (true≢false (sym c.if-reads_files.true ∙ c.reads_files.ensures.input none));
      same = c.restore_from.ensures.same;
    }

pub returns : goal.returns
returns g c =
    record {
      limits = ap (λ (m : MirrorState). m.limits) c.in_ok-new.ensures;
      in_log = λ log begins. subst (λ m. IsInLog c.args.setup.now.kept log m.node) (sym c.in_ok-new.ensures) (None, tt, refl);
      goes_on = λ log nodes text of written. tt;
      input = λ none. c.in_ok-new.ensures;
      same = refl;
    }
