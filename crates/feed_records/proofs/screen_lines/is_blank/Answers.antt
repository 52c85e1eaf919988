use Rattle.std.proofs.Common.{sym, ap, ◌∙◌, subst}
use Rattle.feed_records.specs.Connections.{is_blank_line}
use Rattle.feed_records.specs.Fronts.{IsFront}
use Rattle.feed_records.proofs.Looking.{blank_at, no_blank_at}
use Rattle.feed_records.proofs.screen_lines.is_blank.Goals as goal

pub returns-in-Line : goal.returns-in-Line
returns-in-Line c text h =
    let front = subst (λ f. IsFront f c.args.front.now text) c.in-Line.is h in
    c.is_empty_line.ensures ∙ ap is_blank_line (c.without_end.ensures front.line front.front_is) ∙ sym (blank_at c.args.front.now text front)

pub returns-in_default : goal.returns-in_default
returns-in_default c text h = sym (no_blank_at c.args.found c.args.front.now text c.in_default.not-Line h)
