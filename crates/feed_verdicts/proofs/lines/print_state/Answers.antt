use Rattle.std.proofs.Common.{rules, ◌≡◌, ◌++◌}
use Rattle.std.specs.Prelude.{codes}
use Rattle.feed_verdicts.specs.Verdicts.{verdict_text}
use Rattle.feed_verdicts.proofs.Appending.{on_ok_extended, parts7}
use Rattle.feed_verdicts.proofs.lines.print_state.Goals as goal

pub returns : goal.returns
returns c =
    let first : c.extend_from_slice.new.self.items ≡ c.args.out.now.items ++ verdict_text c.args.stray.now.difference = search rules in
    let token : c.extend_from_slice-2.new.self.items ≡ c.extend_from_slice.new.self.items ++ c.args.stray.now.token = search rules in
    on_ok_extended c.extend_from_slice-5.result _ c.print_number-2.new.out.items (codes " states\n") _ c.extend_from_slice-5.ensures.items
    (parts7 _ _ _ _ _ _ _ _ _ _ _ _ _ _ first token c.in_ok-extend_from_slice-3.ensures.items c.in_ok-print_number.ensures
    c.in_ok-extend_from_slice-4.ensures.items c.in_ok-print_number-2.ensures)
