use Rattle.std.proofs.Common.{refl}
use Rattle.feed_commands.proofs.PrintingLemmas.{tells_then, waits_written}
use Rattle.feed_commands.proofs.printing.Waiting.put_behind.Goals as goal

pub returns-else-not-append : goal.returns-else-not-append
returns-else-not-append g c =
    tells_then _ _ _ _ _ _ _ _ _ _ _ c.flush.ensures.written
    (waits_written _ _ _ _ _ refl (c.if-not-append.ensures.all refl))
