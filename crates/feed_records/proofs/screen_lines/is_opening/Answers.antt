use Rattle.std.proofs.Common.{sym, ap, ◌∙◌, subst}
use Rattle.feed_records.specs.Fronts.{IsFront}
use Rattle.feed_records.specs.Parting.{opens_connection}
use Rattle.feed_records.proofs.Looking.{line_at, no_line_at}
use Rattle.feed_records.proofs.screen_lines.is_opening.Goals as goal

pub returns-in-Line-clause-at : goal.returns-in-Line-clause-at
returns-in-Line-clause-at c text h =
    let front = subst (λ f. IsFront f c.args.front.now text) c.in-Line.is h in
    c.opens_connection.ensures ∙ ap opens_connection (c.without_end.ensures front.line front.front_is) ∙ sym (line_at c.args.front.now text front)

pub returns-in_default-clause-at : goal.returns-in_default-clause-at
returns-in_default-clause-at c text h = sym (no_line_at c.args.found c.args.front.now text c.in_default.not-Line h)
