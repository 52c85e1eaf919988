use Rattle.std.proofs.Common.{[], sym, subst, ◌∙◌}
use Rattle.std.proofs.lemmas.Result.{err_from_is_err_and}
use Rattle.feed_audit.specs.Answers.{FailsToLocate}
use Rattle.feed_audit.specs.States.{afresh}
use Rattle.feed_audit.proofs.Agreeing.{strange}
use Rattle.feed_audit.proofs.Reading.{read_same, along_with, along_none}
use Rattle.feed_audit.proofs.Tallying.{counts_none}
use Rattle.feed_audit.proofs.Missing.{locate_unread, locate_stops}
use Rattle.feed_audit.proofs.auditing.locate.Goals as goal

pub returns-in_err-find_behind-clause-err : goal.returns-in_err-find_behind-clause-err
returns-in_err-find_behind-clause-err g c text is =
    let e = err_from_is_err_and c.from_residual-in_err-find_behind.result c.from_residual-in_err-find_behind.ensures.1 in
    rw (e.1, e.2) (locate_unread c.args.limits text c.args.wanted.now.shown _ c.in_err-find_behind.ensures.err)

pub returns-in_err-ours-clause-err : goal.returns-in_err-ours-clause-err
returns-in_err-ours-clause-err g c text is =
    let e = err_from_is_err_and c.from_residual-in_err-ours.result c.from_residual-in_err-ours.ensures.1 in
    rw (e.1, e.2) (locate_unread c.args.limits text c.args.wanted.now.shown _ c.in_err-ours.ensures.err)

pub returns-then-branch-clause-some : goal.returns-then-branch-clause-some
returns-then-branch-clause-some g c text is read along found = record {
  read = read_same c.args.limits text _ _ _ _ _ _ _ read c.keeps.ensures.lines c.keeps.ensures.states c.keeps.ensures.mirror;
  along = along_with c.args.limits text _ _ _ _ _ c.keeps.ensures.mirror (c.in_ok-keeps.ensures.along c.args.limits text c.args.ours.now.mirror.node along);
  shown = c.in_ok-keeps.ensures.found c.args.limits text c.args.ours.now.mirror.node along c.if-branch.true;
}

pub returns-then-branch-2-clause-some : goal.returns-then-branch-2-clause-some
returns-then-branch-2-clause-some g c text is read along found =
    let now = read_same c.args.limits text _ _ _ _ _ _ _ read c.keeps.ensures.lines c.keeps.ensures.states c.keeps.ensures.mirror in
    c.in_ok-find_behind.ensures.some c.args.limits text now.0 now.1 now.2
    (along_with c.args.limits text _ _ _ _ _ c.keeps.ensures.mirror (c.in_ok-keeps.ensures.along c.args.limits text c.args.ours.now.mirror.node along)) c.if-branch-2.true

pub returns-in-Ok-clause-some : goal.returns-in-Ok-clause-some
returns-in-Ok-clause-some g c text is read along found =
    let s = c.in_ok-ours.ensures.ok text (c.find_behind.ensures.whole ∙ is) in
    c.in-Ok.ensures.some c.args.limits text text s.whole (counts_none _ _ _ _ _ s.walked s.none) (along_none c.args.limits text _ _ _ _ s.apart s.past) found

pub returns-in-Ok-clause-none : goal.returns-in-Ok-clause-none
returns-in-Ok-clause-none g c text is none =
    let s = c.in_ok-ours.ensures.ok text (c.find_behind.ensures.whole ∙ is) in
    strange c.line_laws.ensures.one_meaning c.args.limits text _ _ _ (c.in-Ok.ensures.none (afresh c.args.limits) text text [] s.whole s.walked none)

pub returns-in-Err-clause-err : goal.returns-in-Err-clause-err
returns-in-Err-clause-err g c text is =
    let s = c.in_ok-ours.ensures.ok text (c.find_behind.ensures.whole ∙ is) in
    subst (FailsToLocate c.args.limits text c.args.wanted.now.shown) (sym c.of_primary.ensures)
    (locate_stops c.args.limits text c.args.wanted.now.shown c.in-Err.stop c.find.new.ours.lines (c.in-Err.ensures.err (afresh c.args.limits) text text [] s.whole s.walked))
