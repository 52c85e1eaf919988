use Rattle.std.specs.Prelude.{codes}
use Rattle.feed_verdicts.proofs.Appending.{on_ok_extended, parts5}
use Rattle.feed_verdicts.proofs.json.print_agreement_json.Goals as goal

pub returns : goal.returns
returns c =
    on_ok_extended c.extend_from_slice-3.result _ c.print_number-2.new.out.items (codes "}\n") _ c.extend_from_slice-3.ensures.items
    (parts5 _ _ _ _ _ _ _ _ _ _ c.in_ok-extend_from_slice.ensures.items c.in_ok-print_number.ensures c.in_ok-extend_from_slice-2.ensures.items c.in_ok-print_number-2.ensures)
