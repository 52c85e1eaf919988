use Rattle.feed_arguments.proofs.listening.is_v4.Goals as goal

pub returns-in-Err-clause-no : goal.returns-in-Err-clause-no
returns-in-Err-clause-no c = λ _ is. c.in-Err.ensures.value is.0 is.1
