use Rattle.feed_live.proofs.running.turn.Goals as goal

pub returns : goal.returns
returns g c =
    λ before time.
    record {
      given = c.given-now.result.input;
      now = c.given-now.result.now;
      came = c.given-now.ensures.input;
      time = c.given-now.ensures.time;
      relaying = c.turn.ensures.relaying;
      taking = c.turn.ensures.taking;
      stops = c.turn.ensures.stops;
      kept = c.turn.ensures.kept;
      parts = c.turn.ensures.parts;
      anew = c.turn.ensures.anew;
      wakes = c.turn.ensures.wakes;
      says = c.turn.ensures.says;
      awake = c.turn.ensures.awake;
      due = c.turn.ensures.due;
      keeps = c.turn.ensures.keeps;
      rests = c.turn.ensures.rests;
      holds = c.turn.ensures.holds;
      pauses = λ no_feed away more before. (c.turn.ensures.pauses no_feed away more before).0;
      ends = c.turn.ensures.ends;
      takes = c.turn.ensures.takes;
      over = c.turn.ensures.over;
    }
