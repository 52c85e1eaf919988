use Rattle.feed_screens.proofs.InputLemmas.{keeps_same}
use Rattle.feed_screens.proofs.screens.Screens.share_at.Goals as goal

pub returns-else-wants_answer-clause-input : goal.returns-else-wants_answer-clause-input
returns-else-wants_answer-clause-input g c = λ other. keeps_same _
