use Rattle.std.proofs.Common.{◌∙◌}
use Rattle.std.proofs.lemmas.Result.{on_ok_weaker}
use Rattle.feed_verdicts.proofs.Appending.{parts4}
use Rattle.feed_verdicts.proofs.json.print_sides.Goals as goal

pub returns : goal.returns
returns c =
    on_ok_weaker c.print_side-2.result
    (λ e. e ∙ parts4 _ _ _ _ _ _ _ _ c.in_ok-extend_from_slice.ensures.items c.in_ok-print_side.ensures c.in_ok-extend_from_slice-2.ensures.items)
    c.print_side-2.ensures
