use Rattle.std.proofs.Common.{codes}
use Rattle.feed_commands.specs.Printing.{end_before}
use Rattle.feed_commands.proofs.PrintingLemmas.{tells_then, tells_as, line_written}
use Rattle.feed_commands.proofs.printing.Printer.print_without_id.Goals as goal

pub returns-clause-prints : goal.returns-clause-prints
returns-clause-prints g c =
    let begun = c.begin.ensures.prints in
    let named = tells_then _ _ _ _ _ _ _ _ _ _ _ begun.written c.put.ensures in
    record {
      same_device = begun.same_device;
      written = tells_as _ _ _ _ _ _ _ _
          (line_written (end_before c.args.self.now.is_begun) c.args.kind.now (codes "null") c.args.content.now)
          (tells_then _ _ _ _ _ _ _ _ _ _ _ named c.put-2.ensures);
    }
