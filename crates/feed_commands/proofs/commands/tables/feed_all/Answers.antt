use Rattle.std.proofs.Common.{◌+◌, ap, Err, arith}
use Rattle.std.proofs.lemmas.Result.{err_from_is_err_and}
use Rattle.feed_http.proofs.DeviceLemmas.{rose_more}
use Rattle.feed_commands.proofs.TablesLemmas.{read_by, read_on_by}
use Rattle.feed_commands.proofs.commands.tables.feed_all.Goals as goal

pub returns-in_err-feed_piece-clause-reads : goal.returns-in_err-feed_piece-clause-reads
returns-in_err-feed_piece-clause-reads g c =
    (c.pieces._turn + 1, omega arith, rose_more _ _ _ _ c.pieces.invariant.reads c.feed_piece.ensures.reads)

pub returns-then-not-branch-clause-reads : goal.returns-then-not-branch-clause-reads
returns-then-not-branch-clause-reads g c =
    (c.pieces._turn + 1, omega arith, rose_more _ _ _ _ c.pieces.invariant.reads c.feed_piece.ensures.reads)

pub returns-then-not-branch-clause-fed : goal.returns-then-not-branch-clause-fed
returns-then-not-branch-clause-fed g c n =
    (read_by _ _ _ _ _ (c.in_ok-feed_piece.ensures.ok _ _ _ c.pieces.invariant.stands), c.in_ok-feed_piece.ensures.end c.if-not-branch.true)

pub returns-in_err-feed_piece-clause-fed : goal.returns-in_err-feed_piece-clause-fed
returns-in_err-feed_piece-clause-fed g c =
    let p = err_from_is_err_and c.from_residual.result c.from_residual.ensures.1 in
    rw (p.1, p.2) (λ n. c.in_err-feed_piece.ensures.err _ _ _ c.pieces.invariant.stands (λ e. n (ap Err e)))

pub returns-clause-fed : goal.returns-clause-fed
returns-clause-fed g c n = read_on_by _ c.pieces._turn _ _ _ (omega (arith, c.pieces-test.false)) c.pieces.invariant.stands
