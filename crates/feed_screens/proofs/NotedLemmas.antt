-- What was noted is noted still.
use Rattle.feed_screens.specs.declared.screens.Screens.{Screens}
use Rattle.feed_screens.specs.Waiting.{StaysNoted}

pub noted_then : (old mid new : Screens) → StaysNoted old mid → StaysNoted mid new → StaysNoted old new
noted_then old mid new first second =
    record {
      has_more = λ is. second.has_more (first.has_more is);
      is_waited = λ is. second.is_waited (first.is_waited is);
      is_waited_for = λ is. second.is_waited_for (first.is_waited_for is);
    }
