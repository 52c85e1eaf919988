use Rattle.feed_text.proofs.Windows.{no_space, one_space}
use Rattle.feed_text.proofs.window.pass_spaced_and.Goals as goal

pub returns-in-Some-clause-text : goal.returns-in-Some-clause-text
returns-in-Some-clause-text c = no_space c.args.byte c.args.seen.text.now c.in-Some.more.text.now c.requires.byte c.in-Some.ensures.text

pub returns-in_ok-pass_byte-in-None-clause-text : goal.returns-in_ok-pass_byte-in-None-clause-text
returns-in_ok-pass_byte-in-None-clause-text c =
    let inside = c.in_ok-pass_byte-in-None in
    one_space (λ r. r.text.now) c.pass_string_and-in-None.result c.args.byte c.args.seen.text.now inside.field-0.text.now c.requires.byte inside.ensures.text c.pass_string_and-in-None.ensures.text
