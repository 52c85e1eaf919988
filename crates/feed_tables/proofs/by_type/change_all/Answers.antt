use Rattle.feed_tables.proofs.Changing.{fewer_taken}
use Rattle.feed_tables.proofs.by_type.change_all.Goals as goal

pub types-smaller : goal.types-smaller
types-smaller c = fewer_taken c.types.types c.take_first.new.self c.take_first.result c.in-Some.node c.in-Some.is c.take_first.ensures
