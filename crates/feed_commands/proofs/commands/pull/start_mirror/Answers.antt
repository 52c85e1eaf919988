use Rattle.std.proofs.lemmas.Result.{err_from_is_err_and}
use Rattle.feed_commands.proofs.InputLemmas.{mirror_fails}
use Rattle.feed_commands.proofs.commands.pull.start_mirror.Goals as goal

pub returns-in_err-saved-clause-err : goal.returns-in_err-saved-clause-err
returns-in_err-saved-clause-err g c =
    let p = err_from_is_err_and c.from_residual-in_err-saved.result c.from_residual-in_err-saved.ensures.1 in
    rw (p.1, p.2) (mirror_fails _ _ c.args.options.now.limits c.in_err-saved.field-0.0 c.in_err-saved.ensures.err)
