use Rattle.std.proofs.Common.{refl}
use Rattle.feed_arguments.proofs.words.line.command_line.Goals as goal

pub returns : goal.returns
returns c =
    c.with_command.ensures _ _ c.program_for_records.ensures c.live.ensures refl
