use Rattle.std.proofs.Common.{[], refl, None, Some}
use Rattle.std.proofs.lemmas.List.{append-nil}
use Rattle.std.proofs.lemmas.Result.{err_from_is_err_and}
use Rattle.feed_node.specs.Mirroring.{first_opening}
use Rattle.feed_commands.proofs.TablesLemmas.{faulted_by, stopped_at}
use Rattle.feed_commands.proofs.commands.tables.feed_read.Goals as goal

pub returns-in_err-feed-in-None-clause-err : goal.returns-in_err-feed-in-None-clause-err
returns-in_err-feed-in-None-clause-err c limits least start now s =
    let p = err_from_is_err_and c.from_residual.result c.from_residual.ensures.1 in
    rw (p.1, p.2) (λ n. faulted_by limits start now _ c.in_err-feed-in-None.field-0.0 None _
    (λ some. stopped_at limits least start now _ _ [] _ _ _ None s (append-nil _) refl (c.in_err-feed-in-None.ensures.err first_opening s.bytes s.notes s.stands) some)
    refl n)

pub returns-in-Err-clause-err : goal.returns-in-Err-clause-err
returns-in-Err-clause-err c limits least start now s n =
    faulted_by limits start now _ c.in-Err.fault (Some c.saturating_add.result) _
    (c.in-Err.ensures.err limits least c.saturating_add.result start now s)
    c.of_feed.ensures n
