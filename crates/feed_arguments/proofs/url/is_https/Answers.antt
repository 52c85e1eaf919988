use Rattle.std.proofs.Common.{rules, refl}
use Rattle.feed_arguments.proofs.url.is_https.Goals as goal

pub returns-in-None-clause-no : goal.returns-in-None-clause-no
returns-in-None-clause-no c = λ _. c.in-None.ensures.none refl
