use Rattle.std.proofs.Common.{lit<}
use Rattle.std.proofs.lemmas.Str.Pattern.{strip_prefix_char}
use Rattle.feed_wire.proofs.brackets.opened.Goals as goal

pub returns : goal.returns
returns c = strip_prefix_char 91 c.args.text.now c.strip_prefix.result c.strip_prefix.ensures.cases
    (lit< tt)
