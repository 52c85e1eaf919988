use Rattle.std.proofs.Common.{arith}
use Rattle.feed_tables.proofs.tables.moved.Goals as goal

pub returns-then-total-ge18446744073709551615 : goal.returns-then-total-ge18446744073709551615
returns-then-total-ge18446744073709551615 g c = λ held lost come total before after sum less. c.weigh.ensures

pub returns : goal.returns
returns g c = λ held lost come total before after sum less.
    omega (arith, total, before, after, sum, less, c.saturating_sub.ensures, c.saturating_add.ensures, c.if-total-ge18446744073709551615.false)
