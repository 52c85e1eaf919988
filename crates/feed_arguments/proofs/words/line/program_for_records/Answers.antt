use Rattle.std.proofs.Common.{refl}
use Rattle.feed_arguments.proofs.words.line.program_for_records.Goals as goal

pub returns : goal.returns
returns c =
    c.with_command.ensures _ _ (c.with_command-program.ensures _ _ c.program_for_looking.ensures c.record.ensures refl)
    c.replay.ensures refl
