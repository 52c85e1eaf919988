use Rattle.std.proofs.Common.{Some, ◌≡◌, IfSome, subst}
use Rattle.feed_text.specs.Ascii.{quotation_mark}
use Rattle.feed_text.specs.Reading.{behind_first, is_unescaped, rest_while}
use Rattle.feed_text.proofs.Windows.{plain_string}
use Rattle.feed_text.proofs.window.pass_string.Goals as goal

pub returns-clause-text : goal.returns-clause-text
returns-clause-text c =
    let closed = subst (λ t. IfSome c.pass_stop.result (λ r. Some r.text.now ≡ behind_first quotation_mark (rest_while is_unescaped t))) c.seen_ahead.ensures.text c.pass_stop.ensures.text in
    plain_string (λ r. r.text.now) c.pass_stop.result c.args.seen.text.now c.in_ok-inside.inside.text.now c.in_ok-inside.ensures.text closed
