use Rattle.std.proofs.Common.{rules, sym, subst}
use Rattle.feed_audit.specs.Stops.{IsUnread, IsUnreadPrimary}
use Rattle.feed_audit.specs.declared.stop.Stop.TheVariants as stopped
use Rattle.feed_audit.proofs.Missing.{unread_primary}
use Rattle.feed_audit.proofs.Unreading.{primary_unread}
use Rattle.feed_audit.proofs.auditing.find_behind.Goals as goal

pub returns-in-Ok-clause-some : goal.returns-in-Ok-clause-some
returns-in-Ok-clause-some g c limits all behind is w along = c.in-Ok.ensures.some limits all behind is w along

pub returns-in-Err-Unread-clause-err : goal.returns-in-Err-Unread-clause-err
returns-in-Err-Unread-clause-err g c = subst IsUnreadPrimary (sym c.of_primary.ensures) (unread_primary c.in-Err-Unread.why c.find.new.ours.lines)

pub returns-in-Err-Unread-clause-unread : goal.returns-in-Err-Unread-clause-unread
returns-in-Err-Unread-clause-unread g c =
    subst (IsUnread (g.P.Lines.unread c.find.new.text) (λ _. ⊥)) (sym c.of_primary.ensures)
    (primary_unread (g.P.Lines.unread c.find.new.text) (λ _. ⊥) (stopped.Unread c.in-Err-Unread.why) c.find.new.ours.lines (λ why e. c.in-Err-Unread.ensures.unread why (search rules)))
