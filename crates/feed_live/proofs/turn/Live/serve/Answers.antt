use Rattle.std.proofs.Common.{◌∙◌}
use Rattle.feed_live.proofs.TurnLemmas.{beside_then, serves_then}
use Rattle.feed_live.proofs.turn.Live.serve.Goals as goal

pub loop-event-preserved : goal.loop-event-preserved
loop-event-preserved g c =
    record {
      serves = serves_then c.serve_event.ensures.serves c.loop-event.invariant.serves;
      asks = c.serve_event.ensures.asks ∙ c.loop-event.invariant.asks;
      saved = beside_then c.serve_event.ensures.saved c.loop-event.invariant.saved;
    }
