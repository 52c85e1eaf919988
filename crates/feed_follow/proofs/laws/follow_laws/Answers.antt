use Rattle.feed_follow.proofs.OnceLemmas.{stands_once}
use Rattle.feed_follow.proofs.laws.follow_laws.Goals as goal

pub returns : goal.returns
returns c = stands_once
