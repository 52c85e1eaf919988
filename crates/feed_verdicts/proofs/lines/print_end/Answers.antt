use Rattle.std.proofs.Common.{rules, ◌≡◌, ◌++◌, ◌∙◌, sym, ap}
use Rattle.std.specs.Option.{option_copied}
use Rattle.std.specs.Prelude.{codes}
use Rattle.feed_verdicts.specs.Verdicts.{end_text}
use Rattle.feed_verdicts.proofs.Appending.{on_ok_extended, parts3}
use Rattle.feed_verdicts.proofs.lines.print_end.Goals as goal

pub returns-in_ok-extend_from_slice-in-Some-2 : goal.returns-in_ok-extend_from_slice-in-Some-2
returns-in_ok-extend_from_slice-in-Some-2 c =
    let token : c.extend_from_slice-in-Some.new.self.items ≡ c.extend_from_slice.new.self.items ++ c.in-Some.last.now = search rules in
    on_ok_extended c.extend_from_slice-in-Some-2.result _ c.extend_from_slice-in-Some.new.self.items (codes "\n") _ c.extend_from_slice-in-Some-2.ensures.items
    (parts3 c.args.out.now.items c.extend_from_slice.new.self.items c.extend_from_slice-in-Some.new.self.items (codes "the primary's record ends at token ") c.in-Some.last.now (codes "\n")
    c.in_ok-extend_from_slice-in-Some.ensures.items token ∙ ap (λ l. c.args.out.now.items ++ end_text (option_copied l)) (sym c.in-Some.is))

pub returns-in-None : goal.returns-in-None
returns-in-None c =
    on_ok_extended c.extend_from_slice-in-None.result _ c.args.out.now.items (codes "the primary's record publishes nothing\n") _ c.extend_from_slice-in-None.ensures.items
    (ap (λ l. c.args.out.now.items ++ end_text (option_copied l)) (sym c.in-None.is))
