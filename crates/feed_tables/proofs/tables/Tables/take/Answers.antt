use Rattle.std.proofs.Common.{◌≡◌, sym, ap, ◌∙◌, ℕ, List, None}
use Rattle.feed_tables.specs.Tables.{after, object_at}
use Rattle.feed_tables.proofs.Patching.{none_copied, remove_nothing}
use Rattle.feed_tables.proofs.tables.Tables.take.Goals as goal

pub returns-then-is_none-clause-ok : goal.returns-then-is_none-clause-ok
unfolding after
returns-then-is_none-clause-ok c =
    let held = c.args.self.now.contents in
    let k = c.args.kind.now in
    let id = c.args.id.now in
    let none : object_at held k id ≡ None =
    ap (λ (q : List ℕ). object_at held q id) (sym c.key.ensures)
    ∙ ap (λ (q : List ℕ). object_at held c.key.result q) (sym c.key-2.ensures)
    ∙ sym c.object.ensures ∙ none_copied c.object.result c.if-is_none.ensures in
    remove_nothing held k id none ∙ ap (after held) (sym c.requires)
