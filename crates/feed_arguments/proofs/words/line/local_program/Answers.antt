use Rattle.std.proofs.Common.{refl}
use Rattle.feed_arguments.proofs.words.line.local_program.Goals as goal

pub returns : goal.returns
returns c =
    c.with_command.ensures _ _ (c.with_command-program-3.ensures _ _
    (c.with_command-program-2.ensures _ _ (c.with_command-program.ensures _ _ c.program.ensures c.tables.ensures refl)
    c.check.ensures refl) c.audit.ensures refl) (c.command.ensures _ refl) refl
