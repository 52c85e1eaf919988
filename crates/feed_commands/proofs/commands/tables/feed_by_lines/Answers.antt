use Rattle.std.proofs.Common.{◌≡◌, ap₂, ◌∙◌, ◌++◌, [], take-append-drop}
use Rattle.std.proofs.lemmas.List.{append-nil}
use Rattle.std.proofs.lemmas.Result.{err_from_is_err_and}
use Rattle.feed_node.specs.Mirroring.{first_opening}
use Rattle.feed_commands.proofs.TablesLemmas.{stands_on, stopped_at}
use Rattle.feed_commands.proofs.commands.tables.feed_by_lines.Goals as goal

pub lines-preserved : goal.lines-preserved
lines-preserved c limits least start now s =
    let cut : c.split_at.result.0.now ++ c.split_at.result.1.now ≡ c.lines.rest.now = ap₂ (λ x y. x ++ y) c.split_at.ensures.front c.split_at.ensures.back ∙ take-append-drop _ _ in
    let here = c.lines.invariant limits least start now s in
    stands_on limits least start now _ _ _ _ _ _ here cut (c.in_ok-feed.ensures.ok first_opening here.bytes here.notes here.stands)

pub returns-in_err-feed-clause-err : goal.returns-in_err-feed-clause-err
returns-in_err-feed-clause-err c limits least line start now s =
    let cut : c.split_at.result.0.now ++ c.split_at.result.1.now ≡ c.lines.rest.now = ap₂ (λ x y. x ++ y) c.split_at.ensures.front c.split_at.ensures.back ∙ take-append-drop _ _ in
    let here = c.lines.invariant limits least start now s in
    let p = err_from_is_err_and c.from_residual.result c.from_residual.ensures.1 in
    rw (p.1, p.2) (λ n. stopped_at limits least start now _ _ _ _ _ _ _ here cut tt (c.in_err-feed.ensures.err first_opening here.bytes here.notes here.stands) n)

pub returns-in_err-feed-2-clause-err : goal.returns-in_err-feed-2-clause-err
returns-in_err-feed-2-clause-err c limits least line start now s =
    let here = c.lines.invariant limits least start now s in
    let p = err_from_is_err_and c.from_residual-in_err-feed-2.result c.from_residual-in_err-feed-2.ensures.1 in
    rw (p.1, p.2) (λ n. stopped_at limits least start now _ _ [] _ _ _ _ here (append-nil _) tt (c.in_err-feed-2.ensures.err first_opening here.bytes here.notes here.stands) n)
