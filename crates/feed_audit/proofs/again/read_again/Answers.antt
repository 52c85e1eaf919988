use Rattle.std.proofs.Common.{sym, subst}
use Rattle.feed_audit.specs.Stops.{IsUnread, IsUnreadPrimary}
use Rattle.feed_audit.specs.declared.stop.Stop.TheVariants as stopped
use Rattle.feed_audit.proofs.Agreeing.{walked_none}
use Rattle.feed_audit.proofs.Missing.{unread_primary}
use Rattle.feed_audit.proofs.Unreading.{primary_unread, IsStopOf}
use Rattle.feed_audit.proofs.again.read_again.Goals as goal

pub returns-in-Ok-clause-ok : goal.returns-in-Ok-clause-ok
returns-in-Ok-clause-ok g c text is = record {
  whole = c.in-Ok.ensures.left text is;
  walked = walked_none c.args.limits text _ _ c.in_ok-mirror.ensures c.begin.ensures.stands c.begin.ensures.limits;
}

pub returns-in-Err-clause-err : goal.returns-in-Err-clause-err
returns-in-Err-clause-err g c = subst IsUnreadPrimary (sym c.of_primary.ensures) (unread_primary c.in-Err.why 0)

pub returns-in-Err-clause-unread : goal.returns-in-Err-clause-unread
returns-in-Err-clause-unread g c =
    subst (IsUnread (g.P.Lines.unread c.replay.new.self) (λ _. ⊥)) (sym c.of_primary.ensures)
    (primary_unread (g.P.Lines.unread c.replay.new.self) (λ _. ⊥) (stopped.Unread c.in-Err.why) 0
    (λ why e. subst (λ s. IsStopOf (g.P.Lines.unread c.replay.new.self) s) e c.in-Err.ensures.unread))
