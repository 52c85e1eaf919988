use Rattle.feed_arguments.proofs.WordsLemmas.{asks_nothing}
use Rattle.feed_arguments.proofs.words.reply_to.Goals as goal

pub returns-in-Some : goal.returns-in-Some
returns-in-Some c =
    λ words by. c.with_more.ensures words (asks_nothing words _ _ by c.reply-reply.ensures)

pub returns-in-None : goal.returns-in-None
returns-in-None c =
    λ words by. asks_nothing words _ _ by c.reply-reply.ensures
