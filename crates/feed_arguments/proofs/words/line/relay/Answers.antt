use Rattle.std.proofs.Common.{refl}
use Rattle.feed_arguments.proofs.words.line.relay.Goals as goal

pub returns : goal.returns
returns c = c.add_options.ensures _ _ (c.command.ensures _ refl) refl
