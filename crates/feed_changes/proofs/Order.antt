-- The order of names.
use Rattle.std.specs.Prelude.{◌≡◌}
use Rattle.std.specs.declared.cmp.Ordering.{Ordering}
use Rattle.std.specs.declared.cmp.Ordering.TheVariants.{Less, Greater}
use Rattle.std.specs.Ordering.{ordering_reverse}
use Rattle.std.specs.Cmp.{IsTotalOrder}
use Rattle.std.specs.Cmp.Lexicographic.{nat_list_cmp_total}
use Rattle.std.proofs.Common.{ap, ◌∙◌}
use Rattle.feed_changes.specs.ByteOrder.{byte_order}

pub total : IsTotalOrder byte_order
total = nat_list_cmp_total

-- what comes before another in a total order has that behind it
pub later : {K : Type 0} {R : K → K → Ordering} → IsTotalOrder R → (x y : K) → R x y ≡ Less → R y x ≡ Greater
later o x y p = o.antisymm y x ∙ ap ordering_reverse p
