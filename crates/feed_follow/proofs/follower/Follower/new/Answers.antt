use Rattle.std.proofs.Common.{refl, ◌∙◌, ap}
use Rattle.std.specs.Prelude.{is_some}
use Rattle.feed_follow.proofs.PushLemmas.{nothing_in_head, is_some_copied}
use Rattle.feed_follow.proofs.follower.Follower.new.Goals as goal

pub returns : goal.returns
returns c = record {
  asked = c.is_some.ensures ∙ is_some_copied c.since.result ∙ ap is_some c.since.ensures.since;
  stands = nothing_in_head c.is_some.result;
  keeps = (refl, refl);
  leaves = refl;
}
