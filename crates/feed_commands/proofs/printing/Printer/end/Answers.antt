use Rattle.std.proofs.Common.{refl, append-nil, ◌∙◌}
use Rattle.feed_commands.proofs.PrintingLemmas.{tells_then, tells_as, token_written}
use Rattle.feed_commands.proofs.printing.Printer.end.Goals as goal

pub returns-clause-prints : goal.returns-clause-prints
returns-clause-prints g c =
    let begun = tells_then _ _ _ _ _ _ _ _ _ _ _ c.put.ensures c.put_string.ensures in
    let ended = tells_then _ _ _ _ _ _ _ _ _ _ _ begun c.put-2.ensures in
    record {
      same_device = refl;
      written = tells_as _ _ _ _ _ _ _ _ (append-nil _ ∙ token_written c.args.token.now)
          (tells_then _ _ _ _ _ _ _ _ _ _ _ ended c.flush.ensures.written);
    }
