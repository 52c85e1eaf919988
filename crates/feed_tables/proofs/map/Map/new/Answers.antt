use Rattle.feed_tables.proofs.Maps.{from_sorted_none}
use Rattle.feed_tables.proofs.map.Map.new.Goals as goal

pub returns : goal.returns
returns g c = rw c.new.ensures from_sorted_none
