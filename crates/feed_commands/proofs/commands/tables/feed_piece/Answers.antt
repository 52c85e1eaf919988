use Rattle.std.proofs.Common.{◌+◌}
use Rattle.feed_commands.proofs.TablesLemmas.{positive, stands_read}
use Rattle.feed_commands.proofs.commands.tables.feed_piece.Goals as goal

pub returns-in-Ok-feed_read-clause-ok : goal.returns-in-Ok-feed_read-clause-ok
returns-in-Ok-feed_read-clause-ok g c limits least start s =
    c.in-Ok-feed_read.ensures.ok limits (least + 1) start _
    (stands_read limits least start _ _ _ _ (positive c.in-Ok.count _ c.if-count-eq0.false c.in-Ok.ensures.bound) c.in-Ok.ensures.bytes.0 s)

pub returns-in-Err-clause-err : goal.returns-in-Err-clause-err
returns-in-Err-clause-err g c limits least start s =
    c.in-Err.ensures.err limits (least + 1) start _
    (stands_read limits least start _ _ _ _ (positive c.in-Ok.count _ c.if-count-eq0.false c.in-Ok.ensures.bound) c.in-Ok.ensures.bytes.0 s)
