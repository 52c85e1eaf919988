use Rattle.feed_text.proofs.Windows.{foresees_rest}
use Rattle.feed_text.proofs.window.pass_byte.Goals as goal

pub returns-in-Some-clause-mask : goal.returns-in-Some-clause-mask
returns-in-Some-clause-mask c = foresees_rest c.args.seen.stops c.args.byte c.args.seen.text.now c.in-Some.text.now c.requires.mask c.in-Some.ensures
