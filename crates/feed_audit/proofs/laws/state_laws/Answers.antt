use Rattle.feed_audit.proofs.Prefixes.{states_are_published}
use Rattle.feed_audit.proofs.laws.state_laws.Goals as goal

pub returns : goal.returns
returns c = states_are_published
