use Rattle.std.proofs.Common.{refl}
use Rattle.feed_arguments.proofs.words.probe.probe.Goals as goal

pub returns : goal.returns
returns c = c.command.ensures _ refl
