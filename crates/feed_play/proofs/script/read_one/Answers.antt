use Rattle.std.proofs.Common.{◌∙◌}
use Rattle.feed_play.proofs.NumberLemmas.{one_number}
use Rattle.feed_play.proofs.script.read_one.Goals as goal

pub returns : goal.returns
returns c = c.read_number.ensures ∙ one_number c.args.text.now
