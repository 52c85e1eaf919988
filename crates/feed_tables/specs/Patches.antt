-- What a patch makes of tables.
use Rattle.std.specs.Prelude.{ℕ}
use Rattle.std.specs.FinMap.{len}
use Rattle.feed_tables.specs.ChangedIds.{with_all_ids}
use Rattle.feed_tables.specs.Map.{map_over, map_less}
use Rattle.feed_tables.specs.Tables.{Contents}
use Rattle.feed_tables.specs.declared.patch.Patch.{Patch}

-- what the tables hold before objects change: types are taken away, and then tables are put in
abbrev pub below : Contents → Patch → Contents
below base patch = map_over patch.tables (map_less patch.gone base)

-- what the tables hold after a patch
abbrev pub over : Contents → Patch → Contents
over base patch = with_all_ids patch.ids (below base patch)

-- how many types there are after a patch that weren't there
abbrev pub adds : Contents → Patch → ℕ
adds base patch = len (map_less base (over base patch))
