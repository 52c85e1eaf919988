use Rattle.feed_world.proofs.Telling.{tells_show}
use Rattle.feed_world.proofs.laws.telling_laws.Goals as goal

pub returns : goal.returns
returns c = tells_show c.node_laws.ensures.read
