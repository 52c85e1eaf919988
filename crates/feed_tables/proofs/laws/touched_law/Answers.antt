use Rattle.feed_tables.proofs.Touching.{agree_where_touched}
use Rattle.feed_tables.proofs.laws.touched_law.Goals as goal

pub returns : goal.returns
returns c = agree_where_touched
