use Rattle.feed_commands.specs.Printing.{end_before}
use Rattle.feed_commands.proofs.PrintingLemmas.{tells_then, tells_as, beginning_written}
use Rattle.feed_commands.proofs.printing.Printer.begin_first.Goals as goal

pub returns-clause-prints : goal.returns-clause-prints
returns-clause-prints g c =
    let begun = c.begin.ensures.prints in
    record {
      same_device = begun.same_device;
      written = tells_as _ _ _ _ _ _ _ _
          (beginning_written (end_before c.args.self.now.is_begun) c.args.kind.now)
          (tells_then _ _ _ _ _ _ _ _ _ _ _ begun.written c.put.ensures);
    }
