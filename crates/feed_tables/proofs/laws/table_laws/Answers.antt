use Rattle.feed_tables.proofs.Amounts.{listing_has_bytes, changes_add_bytes}
use Rattle.feed_tables.proofs.Listed.{listing_has_size, listing_is_within}
use Rattle.feed_tables.proofs.Listing.{listing_restores}
use Rattle.feed_tables.proofs.laws.table_laws.Goals as goal

pub returns : goal.returns
returns c = record { restores = listing_restores; sized = listing_has_size; weighed = listing_has_bytes; within = listing_is_within; adds = changes_add_bytes }
