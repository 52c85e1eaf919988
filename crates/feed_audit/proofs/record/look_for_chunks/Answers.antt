use Rattle.std.proofs.Common.{sym, ap, ◌∙◌, subst}
use Rattle.feed_records.specs.Connections.{is_chunked}
use Rattle.feed_audit.specs.Stops.{IsUnread, IsUnreadScreen}
use Rattle.feed_audit.specs.declared.stop.Stop.TheVariants as stopped
use Rattle.feed_records.proofs.Looking.{chunk_front}
use Rattle.feed_audit.proofs.Unreading.{IsStopOf, screen_unread, unread_screen}
use Rattle.feed_audit.proofs.record.look_for_chunks.Goals as goal

pub returns-in-Ok-clause-chunked : goal.returns-in-Ok-clause-chunked
returns-in-Ok-clause-chunked g c bytes is =
    c.begins_in_chunks.ensures ∙ ap is_chunked c.front.ensures ∙ chunk_front _ (g.L.Lines.front c.look.new.self) bytes (c.in-Ok.ensures.front bytes is)

pub returns-in-Err-clause-err : goal.returns-in-Err-clause-err
returns-in-Err-clause-err g c = subst IsUnreadScreen (sym c.of_screen.ensures) (unread_screen c.in-Err.why 0)

pub returns-in-Err-clause-unread : goal.returns-in-Err-clause-unread
returns-in-Err-clause-unread g c =
    subst (IsUnread (λ _. ⊥) (g.L.Lines.unread c.look.new.self)) (sym c.of_screen.ensures)
    (screen_unread (λ _. ⊥) (g.L.Lines.unread c.look.new.self) (stopped.Unread c.in-Err.why) 0
    (λ why e. subst (λ s. IsStopOf (g.L.Lines.unread c.look.new.self) s) e c.in-Err.ensures.unread))
