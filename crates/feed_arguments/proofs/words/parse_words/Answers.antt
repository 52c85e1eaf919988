use Rattle.std.proofs.Common.{map}
use Rattle.feed_arguments.proofs.words.parse_words.Goals as goal

pub returns-in-Err-clause-err : goal.returns-in-Err-clause-err
returns-in-Err-clause-err c =
    c.reply_to.ensures (map (λ word. word.now) c.args.words.now) c.in-Err.ensures.err
