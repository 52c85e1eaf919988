use Rattle.feed_text.proofs.Windows.{foresees_nothing}
use Rattle.feed_text.proofs.window.unseen.Goals as goal

pub returns-clause-mask : goal.returns-clause-mask
returns-clause-mask c = foresees_nothing c.args.text.now
