use Rattle.std.proofs.Common.{refl}
use Rattle.feed_arguments.proofs.words.line.program_for_trying.Goals as goal

pub returns : goal.returns
returns c =
    c.with_command.ensures _ _ (c.with_command-program-2.ensures _ _
    (c.with_command-program.ensures _ _ c.local_program.ensures c.serve.ensures refl) c.pull.ensures refl)
    c.relay.ensures refl
