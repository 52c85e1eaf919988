use Rattle.std.proofs.Common.{arith}
use Rattle.feed_text.proofs.FourNames.{line_takes}
use Rattle.feed_text.proofs.named.named_of_line.Goals as goal

pub returns-then-is_empty : goal.returns-then-is_empty
returns-then-is_empty c =
    line_takes c.args.levels c.args.line.now c.in_ok-after_mark.field-0.now c.in_ok-found.rest.now c.in_ok-found.found c.in_ok-after_mark.ensures c.in_ok-found.ensures (grind arith)
