use Rattle.std.proofs.Common.{sym, ap, ◌∙◌, drop}
use Rattle.std.specs.List.{position}
use Rattle.std.proofs.lemmas.List.{take_rest}
use Rattle.feed_note.specs.Lines.{is_line_feed}
use Rattle.feed_note.proofs.LineEnds.{unbroken_all, unbroken_behind, ends_at, ends_behind}
use Rattle.feed_note.proofs.cut.line_end.Goals as goal

pub returns-in_err-end-clause-none : goal.returns-in_err-end-clause-none
returns-in_err-end-clause-none c =
    let text = c.args.text.now in
    let n = c.args.searched in
    rw c.from_residual.ensures
    (unbroken_behind text n c.requires.unbroken
    (unbroken_all (drop n text) (sym (ap (position is_line_feed) (take_rest text n)) ∙ sym c.line_feed_in.ensures ∙ c.in_err-end.was)))

pub returns-clause-some : goal.returns-clause-some
returns-clause-some c =
    let text = c.args.text.now in
    let n = c.args.searched in
    ends_behind text n c.in_ok-end.end c.requires.within c.requires.unbroken
    (ends_at (drop n text) c.in_ok-end.end (sym (ap (position is_line_feed) (take_rest text n)) ∙ sym c.line_feed_in.ensures ∙ c.in_ok-end.was))
