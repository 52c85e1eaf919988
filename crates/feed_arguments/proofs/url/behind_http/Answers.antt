use Rattle.std.proofs.Common.{rules, refl}
use Rattle.feed_arguments.proofs.url.behind_http.Goals as goal

pub returns-in-None-2-clause-err : goal.returns-in-None-2-clause-err
returns-in-None-2-clause-err c = (c.in-None-2.ensures.none refl, c.is_https.ensures.no (search rules))
