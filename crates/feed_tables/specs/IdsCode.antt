-- The code of what becomes of the objects of collections.
use Rattle.std.specs.Coded.{Coded, coded_ℕ, coded_list}
use Rattle.std.specs.FinMap.{FinMap, code as map_code}
use Rattle.feed_tables.specs.Bytes.{byte_order}
use Rattle.feed_tables.specs.contracts.ids.Ids as ids
use Rattle.feed_tables.specs.declared.ids.Ids.{Ids}

abbrev pub ids_code : Coded (FinMap byte_order Ids)
ids_code = map_code (coded_list coded_ℕ) ids.the_row.coded
