-- The codes of changes, contents and tables, which a model that holds them needs.
use Rattle.std.specs.Prelude.{ℕ, List, refl}
use Rattle.std.specs.Coded.{Coded, code_by, coded×, coded_ℕ, coded_list}
use Rattle.std.specs.FinMap.{code as map_code}
use Rattle.feed_tables.specs.Tables.{Contents, Tables}
use Rattle.feed_changes.specs.declared.change.Change.{Change}
use Rattle.feed_changes.specs.contracts.change.Change as change
use Rattle.feed_tables.specs.contracts.table.Table as table

abbrev pub text_code : Coded (List ℕ)
text_code = coded_list coded_ℕ

abbrev pub change_code : Coded Change
change_code = change.the_row.coded

abbrev pub contents_code : Coded Contents
contents_code = map_code text_code table.the_row.coded

abbrev pub tables_code : Coded Tables
tables_code =
    code_by (Contents × ℕ) (coded× contents_code coded_ℕ)
    (λ t. (t.contents, t.room)) (λ p. record { contents = p.0; room = p.1 }) (λ _. refl)
