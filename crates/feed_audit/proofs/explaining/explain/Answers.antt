use Rattle.std.proofs.Common.{◌≡◌, ◌≢◌, ℕ, List, Some, [], ◌∷◌, ◌++◌, sym, ap, ◌∙◌, subst, true≢false}
use Rattle.feed_node.specs.Publishing.{Published}
use Rattle.feed_note.specs.declared.line.Line.{Line}
use Rattle.feed_node.specs.States.{NodeState}
use Rattle.std.proofs.lemmas.Result.{err_from_is_err_and}
use Rattle.feed_audit.specs.Answers.{FailsToLocate}
use Rattle.feed_records.specs.Fronts.{IsLeft}
use Rattle.feed_audit.specs.States.{afresh}
use Rattle.feed_audit.specs.Walks.{IsNextState, Walked, AllAre}
use Rattle.feed_audit.proofs.Missing.{locate_unread, explain_stops}
use Rattle.feed_audit.proofs.Tokens.{no_token, found_token, lacks_on}
use Rattle.feed_audit.proofs.Walking.{all_none}
use Rattle.feed_audit.proofs.explaining.explain.Goals as goal

pub states-init : goal.states-init
states-init g c = record {
  lacks = λ text is. let s = c.in_ok-mirror.ensures.ok text is in
      (text, s.whole, ([], s.walked, λ state here. all_none c.args.limits (λ (s : Published). s.token ≢ state.token)));
  whole = c.read_again.ensures.whole;
}

pub returns-in_err-mirror-clause-err : goal.returns-in_err-mirror-clause-err
returns-in_err-mirror-clause-err g c text is =
    let e = err_from_is_err_and c.from_residual.result c.from_residual.ensures.1 in
    rw (e.1, e.2) (locate_unread c.args.limits text c.args.wanted.now.shown _ c.in_err-mirror.ensures.err)

pub returns-in-Err-clause-err : goal.returns-in-Err-clause-err
returns-in-Err-clause-err g c text is =
    let l = c.states.invariant.lacks text is in
    subst (FailsToLocate c.args.limits text c.args.wanted.now.shown) (sym c.of_primary.ensures)
    (explain_stops c.args.limits text l.2.0 c.args.wanted.now.shown l.2.2 c.in-Err.stop c.next_state.new.lines (c.in-Err.ensures.err (afresh c.args.limits) text l.0 l.2.0 l.1 l.2.1))

pub returns-in-Ok-false-clause-ok : goal.returns-in-Ok-false-clause-ok
returns-in-Ok-false-clause-ok g c text is strange state here =
    let l = c.states.invariant.lacks text is in
    no_token c.line_laws.ensures.one_meaning _ _ _ _ _ _ _ state c.args.before.now c.node-in-Ok-false.result.now.shown c.in_ok-without_token-in-Ok-false.field-0 (l.2.0, l.2.1, l.2.2 state here)
    (subst (λ found. IsNextState found (afresh c.args.limits) text (g.P.Lines.left c.next_state.new.text) l.2.0 c.next_state.new.lines c.states.mirror c.next_state.new.mirror) c.in-Ok-false.field-0-test
    (c.in-Ok-false.ensures.ok (afresh c.args.limits) text l.0 l.2.0 l.1 l.2.1))
    c.node-in-Ok-false.ensures.node c.in_ok-without_token-in-Ok-false.ensures

pub returns-then-has_token-clause-ok : goal.returns-then-has_token-clause-ok
returns-then-has_token-clause-ok g c text is strange state here =
    let l = c.states.invariant.lacks text is in
    let next = subst (λ found. IsNextState found (afresh c.args.limits) text (g.P.Lines.left c.next_state.new.text) l.2.0 c.next_state.new.lines c.states.mirror c.next_state.new.mirror) c.in-Ok-true.field-0-test
    (c.in-Ok-true.ensures.ok (afresh c.args.limits) text l.0 l.2.0 l.1 l.2.1) in
    found_token c.line_laws.ensures.one_meaning _ _ _ _ _ _ _ _ c.node.result.now.shown c.args.before.now state c.in_ok-difference_between-in-Ok-true.field-0 (l.2.0, l.2.1, l.2.2 state here) next.0.2 next.1.some c.node.ensures.node (strange state here)
    (λ shown there. c.has_token.ensures.same shown state there here c.if-has_token.true)
    (λ shown there. c.in_ok-difference_between-in-Ok-true.ensures shown state (ap (λ (n : NodeState). n.published) (c.node-then-has_token.ensures.node ∙ sym c.node.ensures.node) ∙ there) here)

pub states-preserved : goal.states-preserved
states-preserved g c = record { lacks = lacks; whole = c.next_state.ensures.whole ∙ c.states.invariant.whole }
  where
    lacks : (text : List ℕ) → g.P.Lines.whole c.args.primary.now ≡ Some text
        → IsLeft (g.P.Lines.left c.next_state.new.text) (λ left. (notes : List Line) × Walked (afresh c.args.limits) text left notes c.next_state.new.lines c.next_state.new.mirror
        × ((state : Published) → c.args.wanted.now.shown.published ≡ Some state → AllAre (afresh c.args.limits) (λ shown. shown.token ≢ state.token) notes))
    lacks text is =
        let l = c.states.invariant.lacks text is in
        let next = subst (λ found. IsNextState found (afresh c.args.limits) text (g.P.Lines.left c.next_state.new.text) l.2.0 c.next_state.new.lines c.states.mirror c.next_state.new.mirror) c.in-Ok-true.field-0-test
        (c.in-Ok-true.ensures.ok (afresh c.args.limits) text l.0 l.2.0 l.1 l.2.1) in (
          next.0.0,
          next.0.1,
          (
            l.2.0 ++ (next.0.2.before ++ next.0.2.note ∷ []),
            next.0.2.walked,
            λ state here. lacks_on _ _ _ _ _ _ _ _ c.node.result.now.shown state (l.2.0, l.2.1, l.2.2 state here) next.0.2 c.node.ensures.node
                (λ shown there e. absurd (true≢false (sym (c.if-has_token.ensures.other shown state there here e)))),
          ),
        )
