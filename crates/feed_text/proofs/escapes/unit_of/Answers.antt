use Rattle.std.proofs.Common.{arith}
use Rattle.json.specs.Text.{code_unit}
use Rattle.feed_text.proofs.escapes.unit_of.Goals as goal

pub returns-then-a-b-clause-unit : goal.returns-then-a-b-clause-unit
unfolding code_unit
returns-then-a-b-clause-unit c = rw (← c.hexadecimal-a.ensures, ← c.hexadecimal-b.ensures, ← c.hexadecimal-c.ensures, ← c.hexadecimal-d.ensures) (grind arith)

pub returns-else-a-b-clause-unit : goal.returns-else-a-b-clause-unit
unfolding code_unit
returns-else-a-b-clause-unit c = rw (← c.hexadecimal-a.ensures, ← c.hexadecimal-b.ensures, ← c.hexadecimal-c.ensures, ← c.hexadecimal-d.ensures) (grind arith)
