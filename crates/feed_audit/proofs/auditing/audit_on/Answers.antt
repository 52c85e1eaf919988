use Rattle.std.proofs.Common.{◌≡◌, ℕ, List, Some, refl, sym, ap, ◌∙◌, subst, true, arith, rules}
use Rattle.std.proofs.lemmas.Result.{err_from_is_err_and}
use Rattle.feed_node.specs.States.{published_token}
use Rattle.feed_audit.specs.Answers.{FailsFrom, Finds, IsBeside, begun_by}
use Rattle.feed_audit.specs.Along.{IsAlong}
use Rattle.feed_records.specs.Fronts.{IsLeft}
use Rattle.feed_audit.specs.States.{Start}
use Rattle.feed_audit.specs.Stops.{IsUnread}
use Rattle.feed_audit.specs.Walks.{CommitsOn, IsNextState}
use Rattle.feed_audit.proofs.Agreeing.{walked_begun, screen_stops}
use Rattle.feed_audit.proofs.Missing.{locate_fails}
use Rattle.feed_audit.proofs.Unreading.{screen_unread}
use Rattle.feed_audit.proofs.Verdicts.{Agrees, agrees_none, agreement, agrees_on, shown_after, still_shown, straying}
use Rattle.feed_audit.proofs.Reading.{along_same, along_with, read_same}
use Rattle.feed_audit.proofs.auditing.audit_on.Goals as goal

pub states-init : goal.states-init
states-init g c = record {
  ours = λ text body is at beside. beside.read;
  theirs = λ text body is at beside. (
    body,
    at,
    agrees_none _ _ _ _ beside.shown (walked_begun c.args.limits body c.args.sides.now.theirs _ c.begin.ensures.stands (c.begin.ensures.limits ∙ c.requires)),
  );
  along = λ text body is at beside. subst (λ n. IsAlong c.args.limits text c.args.sides.now.ours.since c.args.sides.now.ours.past c.args.sides.now.ours.mirror.node n) (sym c.begin.ensures.node) beside.along;
  beyond = λ text body is at beside end e. e;
  within = omega arith;
  limits = c.begin.ensures.limits ∙ c.requires;
  whole = refl;
}

pub returns-then-not-branch-clause-ok : goal.returns-then-not-branch-clause-ok
returns-then-not-branch-clause-ok g c text body is at beside =
    let a = c.states.invariant.theirs text body is at beside in
    let start = begun_by c.args.limits c.args.sides.now.theirs in
    let next = subst (λ found. IsNextState found start body (g.L.Lines.left c.next_state.new.text) a.2.notes c.next_state.new.lines c.states.sides.theirs c.next_state.new.mirror) c.in-Ok-true.field-0-test
    (c.in-Ok-true.ensures.ok start body a.0 a.2.notes a.1 a.2.walked) in
    let strange = c.in_ok-locate-in-Ok-true.ensures.none text (c.states.invariant.whole ∙ is) c.if-not-branch.true in
    straying c.line_laws.ensures.one_meaning start text body _ next.0.0 _ _ _ c.next_state.new.mirror
    c.node-wanted.result.now.shown c.node-wanted.result.now.shown _ a.2 next.0.2 c.node-wanted.ensures.node c.node-wanted.ensures.node strange c.in_ok-token_of-in-Ok-true.ensures.ok
    c.node-wanted.result.now.shown c.node-wanted.ensures.node c.in_ok-before.before (c.in_ok-before.ensures ∙ ap published_token c.node.ensures.node) (c.in_ok-difference-in-Ok-true.ensures.ok text (c.locate.ensures.whole ∙ (c.states.invariant.whole ∙ is)) strange) refl

pub returns-in-Err-clause-err : goal.returns-in-Err-clause-err
returns-in-Err-clause-err g c text body is at beside =
    let a = c.states.invariant.theirs text body is at beside in
    let start = begun_by c.args.limits c.args.sides.now.theirs in
    subst (FailsFrom start text body) (sym c.of_screen.ensures)
    (screen_stops start text body a.2.notes a.2.all c.in-Err.stop c.next_state.new.lines (c.in-Err.ensures.err start body a.0 a.2.notes a.1 a.2.walked))

pub returns-in-Err-clause-unread : goal.returns-in-Err-clause-unread
returns-in-Err-clause-unread g c =
    subst (IsUnread (g.P.Lines.unread c.states.primary) (g.L.Lines.unread c.next_state.new.text)) (sym c.of_screen.ensures)
    (screen_unread (g.P.Lines.unread c.states.primary) (g.L.Lines.unread c.next_state.new.text) c.in-Err.stop c.next_state.new.lines (λ why e. c.in-Err.ensures.unread why (search rules)))

pub returns-in-Ok-false-clause-ok : goal.returns-in-Ok-false-clause-ok
returns-in-Ok-false-clause-ok g c text body is at beside =
    let a = c.states.invariant.theirs text body is at beside in
    let start = begun_by c.args.limits c.args.sides.now.theirs in
    agreement c.line_laws.ensures.one_meaning _ _ _ _ _ _ _ _ _ a.2
    (subst (λ found. IsNextState found start body (g.L.Lines.left c.next_state.new.text) a.2.notes c.next_state.new.lines c.states.sides.theirs c.next_state.new.mirror) c.in-Ok-false.field-0-test
    (c.in-Ok-false.ensures.ok start body a.0 a.2.notes a.1 a.2.walked))

pub returns-in-Ok-false-clause-beside : goal.returns-in-Ok-false-clause-beside
returns-in-Ok-false-clause-beside g c text body is at beside =
    let a = c.states.invariant.theirs text body is at beside in
    let start = begun_by c.args.limits c.args.sides.now.theirs in
    let end = subst (λ found. IsNextState found start body (g.L.Lines.left c.next_state.new.text) a.2.notes c.next_state.new.lines c.states.sides.theirs c.next_state.new.mirror) c.in-Ok-false.field-0-test
    (c.in-Ok-false.ensures.ok start body a.0 a.2.notes a.1 a.2.walked) in
    let all = agreement c.line_laws.ensures.one_meaning _ _ _ _ _ _ _ _ _ a.2 end in
    record {
      read = c.states.invariant.ours text body is at beside;
      along = along_same c.args.limits text _ _ _ _ _ (still_shown _ _ _ _ _ _ _ _ a.2.walked end) (c.states.invariant.along text body is at beside);
      shown = shown_after _ _ _ _ all.0 _ all.1;
    }

pub returns-in_err-locate-in-Ok-true-clause-err : goal.returns-in_err-locate-in-Ok-true-clause-err
returns-in_err-locate-in-Ok-true-clause-err g c text body is at beside =
    let e = err_from_is_err_and c.from_residual-in_err-locate-in-Ok-true.result c.from_residual-in_err-locate-in-Ok-true.ensures.1 in
    let start = begun_by c.args.limits c.args.sides.now.theirs in
    let a = c.states.invariant.theirs text body is at beside in
    let next = subst (λ found. IsNextState found start body (g.L.Lines.left c.next_state.new.text) a.2.notes c.next_state.new.lines c.states.sides.theirs c.next_state.new.mirror) c.in-Ok-true.field-0-test
    (c.in-Ok-true.ensures.ok start body a.0 a.2.notes a.1 a.2.walked) in
    rw (e.1, e.2)
    (locate_fails start text body _ _ _ c.next_state.new.mirror c.node-wanted.result.now.shown _ next.0.2.walked next.1.some c.node-wanted.ensures.node
    (c.in_err-locate-in-Ok-true.ensures.err text (c.states.invariant.whole ∙ is)))

pub returns-in_err-difference-in-Ok-true-clause-err : goal.returns-in_err-difference-in-Ok-true-clause-err
returns-in_err-difference-in-Ok-true-clause-err g c text body is at beside =
    let e = err_from_is_err_and c.from_residual-in_err-difference-in-Ok-true.result c.from_residual-in_err-difference-in-Ok-true.ensures.1 in
    let start = begun_by c.args.limits c.args.sides.now.theirs in
    let a = c.states.invariant.theirs text body is at beside in
    let next = subst (λ found. IsNextState found start body (g.L.Lines.left c.next_state.new.text) a.2.notes c.next_state.new.lines c.states.sides.theirs c.next_state.new.mirror) c.in-Ok-true.field-0-test
    (c.in-Ok-true.ensures.ok start body a.0 a.2.notes a.1 a.2.walked) in
    rw (e.1, e.2)
    (locate_fails start text body _ _ _ c.next_state.new.mirror c.node-wanted.result.now.shown _ next.0.2.walked next.1.some c.node-wanted.ensures.node
    (c.in_err-difference-in-Ok-true.ensures.err text (c.locate.ensures.whole ∙ (c.states.invariant.whole ∙ is))))

pub returns-then-not-branch-clause-beyond : goal.returns-then-not-branch-clause-beyond
returns-then-not-branch-clause-beyond g c text body is at beside end e =
    let a = c.states.invariant.theirs text body is at beside in
    c.in-Ok-true.ensures.beyond (begun_by c.args.limits c.args.sides.now.theirs) body a.0 a.2.notes a.1 a.2.walked end (c.states.invariant.beyond text body is at beside end e)

pub returns-in-Ok-false-clause-beyond : goal.returns-in-Ok-false-clause-beyond
returns-in-Ok-false-clause-beyond g c text body is at beside end e =
    let a = c.states.invariant.theirs text body is at beside in
    c.in-Ok-false.ensures.beyond (begun_by c.args.limits c.args.sides.now.theirs) body a.0 a.2.notes a.1 a.2.walked end (c.states.invariant.beyond text body is at beside end e)

pub states-preserved : goal.states-preserved
states-preserved g c = record {
  ours = λ text body is at beside. (found text body is at beside).read;
  theirs = theirs;
  along = λ text body is at beside.
      subst (λ n. IsAlong c.args.limits text c.locate.new.ours.since c.locate.new.ours.past c.locate.new.ours.mirror.node n) c.node-wanted.ensures.node (found text body is at beside).along;
  beyond = λ text body is at beside end e.
      let a = c.states.invariant.theirs text body is at beside in
      c.in-Ok-true.ensures.beyond start body a.0 a.2.notes a.1 a.2.walked end (c.states.invariant.beyond text body is at beside end e);
  within = let n = c.in-Ok-true.ensures.room in omega (arith, c.states.invariant.within, n);
  limits = c.next_state.ensures.limits ∙ c.states.invariant.limits;
  whole = c.locate.ensures.whole ∙ c.states.invariant.whole;
}
  where
    start : Start
    start = begun_by c.args.limits c.args.sides.now.theirs

    next : (text body : List ℕ) → g.P.Lines.whole c.args.primary.now ≡ Some text → g.L.Lines.left c.args.screen.now ≡ Some body → IsBeside c.args.limits text (g.P.Lines.left c.args.primary.now) c.args.sides.now.ours c.args.sides.now.theirs
        → (a : IsLeft (g.L.Lines.left c.states.screen) (λ rest. Agrees start text body rest c.states.lines c.states.states c.states.sides.theirs))
        × IsNextState true start body (g.L.Lines.left c.next_state.new.text) a.2.notes c.next_state.new.lines c.states.sides.theirs c.next_state.new.mirror
    next text body is at beside =
        let a = c.states.invariant.theirs text body is at beside in (
          a,
          subst (λ found. IsNextState found start body (g.L.Lines.left c.next_state.new.text) a.2.notes c.next_state.new.lines c.states.sides.theirs c.next_state.new.mirror) c.in-Ok-true.field-0-test
              (c.in-Ok-true.ensures.ok start body a.0 a.2.notes a.1 a.2.walked),
        )

    found : (text body : List ℕ) → g.P.Lines.whole c.args.primary.now ≡ Some text → g.L.Lines.left c.args.screen.now ≡ Some body
        → IsBeside c.args.limits text (g.P.Lines.left c.args.primary.now) c.args.sides.now.ours c.args.sides.now.theirs
        → Finds c.args.limits text (g.P.Lines.left c.locate.new.primary) c.locate.new.ours c.node-wanted.result.now.shown
    found text body is at beside =
        let n = next text body is at beside in
        let noted = c.in_ok-note_theirs-in-Ok-true.ensures.along c.args.limits text c.states.sides.ours.mirror.node c.states.sides.theirs.node (c.states.invariant.along text body is at beside)
        (subst (λ n. CommitsOn c.states.sides.theirs.node n) (sym c.node-wanted.ensures.node) n.1.1) in
        c.in_ok-locate-in-Ok-true.ensures.some text (c.states.invariant.whole ∙ is)
        (read_same c.args.limits text _ _ _ _ _ _ _ (c.states.invariant.ours text body is at beside) c.note_theirs.ensures.lines c.note_theirs.ensures.states c.note_theirs.ensures.mirror)
        (along_with c.args.limits text _ _ _ _ _ c.note_theirs.ensures.mirror noted) c.if-not-branch.false

    theirs : (text body : List ℕ) → g.P.Lines.whole c.args.primary.now ≡ Some text → g.L.Lines.left c.args.screen.now ≡ Some body
        → IsBeside c.args.limits text (g.P.Lines.left c.args.primary.now) c.args.sides.now.ours c.args.sides.now.theirs
        → IsLeft (g.L.Lines.left c.next_state.new.text) (λ rest. Agrees start text body rest c.next_state.new.lines c.saturating_add-states.result c.next_state.new.mirror)
    theirs text body is at beside =
        let n = next text body is at beside in
        (n.1.0.0, n.1.0.1, agrees_on _ _ _ _ _ _ _ _ _ _ _ _ n.0.2 n.1.0.2 c.node-wanted.ensures.node (found text body is at beside).shown c.saturating_add-states.ensures)
