use Rattle.std.proofs.Common.{lit<}
use Rattle.std.proofs.lemmas.Str.Pattern.{strip_suffix_char}
use Rattle.feed_wire.proofs.brackets.closed.Goals as goal

pub returns : goal.returns
returns c = strip_suffix_char 93 c.args.text.now c.strip_suffix.result c.strip_suffix.ensures.cases
    (lit< tt)
