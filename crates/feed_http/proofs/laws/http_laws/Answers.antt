use Rattle.feed_http.proofs.RestLemmas.{sends_the_rest}
use Rattle.feed_http.proofs.laws.http_laws.Goals as goal

pub returns : goal.returns
returns c = record { rest = sends_the_rest }
