use Rattle.std.proofs.Common.{arith}
use Rattle.feed_text.proofs.Windows.{foresees_nothing, foresees_block}
use Rattle.feed_text.proofs.window.look_ahead.Goals as goal

pub returns-then-text-ge-WIDE : goal.returns-then-text-ge-WIDE
returns-then-text-ge-WIDE c = foresees_block 64 c.stops_wide.result c.args.text.now (omega arith) c.stops_wide.ensures

pub returns-then-text-ge-LANES : goal.returns-then-text-ge-LANES
returns-then-text-ge-LANES c = foresees_block 16 c.stops.result c.args.text.now (omega arith) c.stops.ensures

pub returns : goal.returns
returns c = foresees_nothing c.args.text.now
