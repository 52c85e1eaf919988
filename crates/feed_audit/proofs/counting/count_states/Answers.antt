use Rattle.std.proofs.Common.{refl, sym, subst, ◌∙◌}
use Rattle.feed_audit.specs.Answers.{FailsToCount}
use Rattle.feed_audit.specs.States.{afresh}
use Rattle.feed_audit.specs.Walks.{IsNextState}
use Rattle.feed_audit.proofs.Tallying.{counts_on, counts_all, count_stops}
use Rattle.feed_audit.proofs.counting.count_states.Goals as goal

pub states-init : goal.states-init
states-init g c = record {
  counts = λ text read. read;
  whole = refl;
}

pub returns-in-Err-clause-err : goal.returns-in-Err-clause-err
returns-in-Err-clause-err g c text read =
    let a = c.states.invariant.counts text read in
    subst (FailsToCount c.args.limits text) (sym c.of_primary.ensures)
    (count_stops c.args.limits text a.2.notes c.in-Err.stop c.next_state.new.lines (c.in-Err.ensures.err (afresh c.args.limits) text a.0 a.2.notes a.1 a.2.walked))

pub returns-in-Ok-false-clause-ok : goal.returns-in-Ok-false-clause-ok
returns-in-Ok-false-clause-ok g c text read =
    let a = c.states.invariant.counts text read in
    counts_all _ _ _ _ _ _ _ _ a.2
    (subst (λ found. IsNextState found (afresh c.args.limits) text (g.P.Lines.left c.next_state.new.text) a.2.notes c.next_state.new.lines c.states.ours.mirror c.next_state.new.mirror) c.in-Ok-false.field-0-test
    (c.in-Ok-false.ensures.ok (afresh c.args.limits) text a.0 a.2.notes a.1 a.2.walked))

pub states-preserved : goal.states-preserved
states-preserved g c = record {
  counts = λ text read.
      let a = c.states.invariant.counts text read in
      let next = subst (λ found. IsNextState found (afresh c.args.limits) text (g.P.Lines.left c.next_state.new.text) a.2.notes c.next_state.new.lines c.states.ours.mirror c.next_state.new.mirror) c.in-Ok-true.field-0-test
      (c.in-Ok-true.ensures.ok (afresh c.args.limits) text a.0 a.2.notes a.1 a.2.walked) in
      (next.0.0, next.0.1, counts_on _ _ _ _ _ _ _ _ _ _ a.2 next.0.2 c.saturating_add-ours.ensures);
  whole = c.next_state.ensures.whole ∙ c.states.invariant.whole;
}
