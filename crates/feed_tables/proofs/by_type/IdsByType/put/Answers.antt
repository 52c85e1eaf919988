use Rattle.std.proofs.Common.{◌≡◌, sym, ap, ◌∙◌, List, ℕ, fold}
use Rattle.std.specs.FinMap.{get}
use Rattle.feed_tables.specs.ChangedIds.{ids_by_type, with_ids, with_all_ids}
use Rattle.feed_tables.specs.declared.ids.Ids.{Ids}
use Rattle.feed_tables.proofs.ByType.{Changed, alone, entries_alone}
use Rattle.feed_tables.proofs.by_type.IdsByType.put.Goals as goal

pub returns-in-Alone : goal.returns-in-Alone
returns-in-Alone c =
    let old = c.args.tables.now.contents in
    let k = c.in-Alone.kind in
    let held : alone k c.in-Alone.ids ≡ c.args.self = ap ids_by_type (sym c.in-Alone.is) ∙ c.self.view_is in
    c.change.ensures
    ∙ ap (λ (i : Ids). with_ids old c.key.result i (get old c.key.result)) c.in-Alone.ids-is
    ∙ ap (λ (q : List ℕ). with_ids old q c.in-Alone.ids (get old q)) (c.key.ensures ∙ c.in-Alone.kind-is)
    ∙ sym (ap (λ (es : List (List ℕ × Ids)). fold (λ c e. with_ids c e.0 e.1 (get c e.0)) old es) (entries_alone k c.in-Alone.ids))
    ∙ ap (λ (m : Changed). with_all_ids m old) held
