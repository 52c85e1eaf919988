use Rattle.std.proofs.Common.{refl, arith}
use Rattle.std.proofs.lemmas.Result.{err_from_is_err_and}
use Rattle.feed_commands.proofs.StreamedLemmas.{input_none, input_room, input_on, input_all}
use Rattle.feed_commands.proofs.commands.streamed.take_all.Goals as goal

pub pieces-init : goal.pieces-init
pieces-init g c = record { taken = input_none _ _ _ c.requires; quiet = refl }

pub take_piece-requires : goal.take_piece-requires
take_piece-requires g c = record { room = input_room _ c.pieces._turn _ _ _ (omega (arith, c.pieces-test.true)) c.pieces.invariant.taken }

pub returns-in_err-take_piece-clause-err : goal.returns-in_err-take_piece-clause-err
returns-in_err-take_piece-clause-err g c =
    let p = err_from_is_err_and c.from_residual.result c.from_residual.ensures.1 in
    rw (p.1, p.2) (c.in_err-take_piece.ensures.err _ _ _ c.pieces.invariant.taken)

pub returns-then-not-branch-clause-ok : goal.returns-then-not-branch-clause-ok
returns-then-not-branch-clause-ok g c =
    input_all _ _ c.pieces._turn _ _ _ (omega (arith, c.pieces-test.true)) (c.in_ok-take_piece.ensures.end c.if-not-branch.true) (c.in_ok-take_piece.ensures.ok _ _ _ c.pieces.invariant.taken)

pub returns-clause-err : goal.returns-clause-err
returns-clause-err g c = input_on _ c.pieces._turn _ _ _ (omega (arith, c.pieces-test.false)) c.pieces.invariant.taken
