use Rattle.feed_follow.proofs.Carrying.{feeds_carry_text}
use Rattle.feed_follow.proofs.laws.carry_laws.Goals as goal

pub returns : goal.returns
returns c = feeds_carry_text
