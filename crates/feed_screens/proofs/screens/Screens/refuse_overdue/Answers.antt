use Rattle.std.proofs.Common.{◌∙◌, arith}
use Rattle.feed_screens.proofs.RoomLemmas.{gone_all, gone_next, refuses_next}
use Rattle.feed_screens.proofs.NotedLemmas.{noted_then}
use Rattle.feed_screens.proofs.screens.Screens.refuse_overdue.Goals as goal

pub loop-at-preserved : goal.loop-at-preserved
loop-at-preserved g c =
    record {
      serving = λ nodes contest serving. c.refuse_waiting.ensures.serving nodes contest (c.loop-at.invariant.serving nodes contest serving);
      time = c.refuse_waiting.ensures.time ∙ c.loop-at.invariant.time;
      asks = c.refuse_waiting.ensures.asks ∙ c.loop-at.invariant.asks;
      tries = λ n. c.refuse_waiting.ensures.tries n ∙ c.loop-at.invariant.tries n;
      notes = noted_then _ _ _ c.loop-at.invariant.notes c.refuse_waiting.ensures.notes;
      pauses = c.refuse_waiting.ensures.pauses ∙ c.loop-at.invariant.pauses;
      gone = gone_next _ _ _ _ _ c.loop-at.invariant.time c.refuse_waiting.ensures.refuses c.refuse_waiting.ensures.asking c.refuse_waiting.ensures.goes c.loop-at.invariant.gone;
      refuses = refuses_next _ _ _ _ _ _ c.loop-at.invariant.time c.loop-at.invariant.refuses c.refuse_waiting.ensures.refuses;
    }

pub returns-clause-goes : goal.returns-clause-goes
returns-clause-goes g c _ at is =
    gone_all c.args.self.now c.loop-at.self c.capacity-at-end.result c.args.desk.now.time at c.loop-at.invariant.refuses c.capacity-at-end.ensures.slots
    (λ other under. c.loop-at.invariant.gone other (omega (arith, c.loop-at-test.false)))
    (record { asks = record { key = is.asks.key; keyed = is.asks.keyed; asks = is.asks.asks }; overdue = is.overdue })
