use Rattle.feed_live.proofs.TurnLemmas.{serves_then}
use Rattle.feed_live.proofs.turn.Live.tick.Goals as goal

pub returns-then-are_none-clause-serves : goal.returns-then-are_none-clause-serves
returns-then-are_none-clause-serves g c = c.tidy.ensures.serves _

pub returns-then-not-is_heard-clause-serves : goal.returns-then-not-is_heard-clause-serves
returns-then-not-is_heard-clause-serves g c =
    serves_then (c.hold.ensures.serves _) (serves_then (c.tidy-2.ensures.serves _) (serves_then c.look_for_late.ensures.serves (c.keep_alive.ensures.serves _)))

pub returns-else-not-is_heard-clause-serves : goal.returns-else-not-is_heard-clause-serves
returns-else-not-is_heard-clause-serves g c =
    serves_then (c.tidy-2.ensures.serves _) (serves_then c.look_for_late.ensures.serves (c.keep_alive.ensures.serves _))

pub returns-then-saturating_sub-lt-TICK-clause-serves : goal.returns-then-saturating_sub-lt-TICK-clause-serves
returns-then-saturating_sub-lt-TICK-clause-serves g c = c.keep_alive.ensures.serves _
