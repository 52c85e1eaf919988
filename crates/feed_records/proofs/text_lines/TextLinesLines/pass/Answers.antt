use Rattle.std.proofs.Common.{sym, ap, ◌∙◌, Some}
use Rattle.feed_records.proofs.EndedLines.{tail_is}
use Rattle.feed_records.proofs.Passing.{passed_front}
use Rattle.feed_records.proofs.text_lines.TextLinesLines.pass.Goals as goal

pub returns-clause-left : goal.returns-clause-left
returns-clause-left c behind f =
    ap Some (sym (tail_is c.args.self.now.looked c.args.self.now.rest.now) ∙ passed_front c.args.self.now.looked c.args.self.now.rest.now behind f)
