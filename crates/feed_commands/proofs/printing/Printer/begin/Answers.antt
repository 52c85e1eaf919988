use Rattle.std.proofs.Common.{refl, sym, ap, subst, ◌++◌, codes, flat_map}
use Rattle.feed_text.specs.Strings.{written_byte}
use Rattle.feed_commands.specs.Printing.{PrintsText, end_before}
use Rattle.feed_commands.specs.declared.printing.Printer.{Printer}
use Rattle.feed_commands.proofs.PrintingLemmas.{prints_then, prints_as}
use Rattle.feed_commands.proofs.printing.Printer.begin.Goals as goal
use Rattle.feed_commands.proofs.printing.Printer.begin.Goals.{then-self, else-self}

pub returns-clause-prints : goal.returns-clause-prints
returns-clause-prints g c =
    let contents = g.W.FeedWrite.contents in
    let failures = g.W.FeedWrite.failures in
    let kind = flat_map written_byte c.args.kind.now in
    elim c.if-self.branch [
      | then-self w ↦
          prints_as _ _ _ _ _ _ (ap (λ b. end_before b ++ codes "{\"type\":\"" ++ kind) (sym w.if-self.true))
          (prints_then _ _ c.args.self.now c.if-self.self _ (codes "}\n{\"type\":\"") kind
          (subst
          (λ (k : Printer g.row.W.Denot). PrintsText contents failures c.args.self.now k (codes "}\n{\"type\":\""))
          (sym w.self-is) (record { same_device = refl; written = w.put.ensures }))
          (record { same_device = refl; written = c.put_string.ensures }))
      | else-self w ↦
          prints_as _ _ _ _ _ _ (ap (λ b. end_before b ++ codes "{\"type\":\"" ++ kind) (sym w.if-self.false))
          (prints_then _ _ c.args.self.now c.if-self.self _ (codes "{\"type\":\"") kind
          (subst
          (λ (k : Printer g.row.W.Denot). PrintsText contents failures c.args.self.now k (codes "{\"type\":\""))
          (sym w.self-is) (record { same_device = refl; written = w.put-else-self.ensures }))
          (record { same_device = refl; written = c.put_string.ensures }))
    ]
