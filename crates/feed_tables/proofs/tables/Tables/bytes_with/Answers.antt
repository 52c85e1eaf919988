use Rattle.feed_tables.proofs.tables.Tables.bytes_with.Goals as goal

pub returns : goal.returns
returns c = rw (← c.self.view_is) c.weigh_over.ensures
