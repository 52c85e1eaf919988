use Rattle.std.proofs.Common.{refl}
use Rattle.feed_arguments.proofs.words.recording.replay.Goals as goal

pub returns : goal.returns
returns c = c.command.ensures _ refl
